-- What words of ticks say of the four places.
use Rattle.std.specs.Prelude.{ℕ, ◌+◌, ◌*◌, ◌<◌, ◌≡◌, Bool, ◌&&◌, ◌||◌, cond, List, [], ◌∷◌, Option, Some, None, eqb, ltb, get_or}
use Rattle.rules.specs.declared.Reply.{Reply}
use Rattle.rules.specs.declared.Place.{Place}
use Rattle.places.specs.Four.{Places}
use Rattle.rules.specs.Replies.{covers, is_phantom}
use Rattle.plane.specs.Words.{bit}
use Rattle.places.specs.Places.{test, idle, any3}
use Rattle.marking.specs.declared.Words.{Words}

-- the four places of a list
abbrev pub four : List Place → Places
four l = record { p0 = get_or l 0 idle; p1 = get_or l 1 idle; p2 = get_or l 2 idle; p3 = get_or l 3 idle }

-- bit i of each word says whether the place's reply passes the test
pub record Marked (w : Words) (i : ℕ) (p : Reply → Bool) (l : List Place) : Type 0 where
  pub a : bit w.a i ≡ test p (get_or l 0 idle)
  pub b : bit w.b i ≡ test p (get_or l 1 idle)
  pub c : bit w.c i ≡ test p (get_or l 2 idle)
  pub d : bit w.d i ≡ test p (get_or l 3 idle)

-- the words of a block, whose tick i is t+i-242: the ticks that each place covers, and those at which a bracket removes it
pub record AllMarked (t : ℕ) (on risk : Words) (l : List Place) : Type 0 where
  pub cover : (i u : ℕ) → i < 64 → t + i ≡ u + 242 → Marked on i (covers u) l
  pub phantom : (i u : ℕ) → i < 64 → t + i ≡ u + 242 → Marked risk i (is_phantom u) l

-- ---- words changed

abbrev pub with_word_lem : ℕ → ℕ → Words → Words
with_word_lem k x w = record { a = cond (eqb k 0) x w.a; b = cond (eqb k 1) x w.b; c = cond (eqb k 2) x w.c; d = cond (eqb k 3) x w.d }

abbrev pub without_word_lem : ℕ → Words → Words
without_word_lem k w = record { a = cond (ltb k 1) w.b w.a; b = cond (ltb k 2) w.c w.b; c = cond (ltb k 3) w.d w.c; d = 0 }

-- the place whose reply is at j once that of place k has left
abbrev pub behind_of : ℕ → ℕ → ℕ
behind_of j k = cond (ltb j k) j (j + 1)

-- place k is left, and those behind it move up
abbrev pub without_place : ℕ → List Place → List Place
without_place k l = get_or l (behind_of 0 k) idle ∷ (get_or l (behind_of 1 k) idle ∷ (get_or l (behind_of 2 k) idle ∷ (idle ∷ [])))

-- ---- words read

abbrev pub any_at : Words → ℕ → Bool
any_at w i = bit w.a i || any3 (bit w.b i) (bit w.c i) (bit w.d i)

pub record AnyWord (w : Words) (r : ℕ) : Type 0 where
  pub at : (i : ℕ) → bit r i ≡ any_at w i

-- two of four are true
abbrev pub two_of : Bool → Bool → Bool → Bool → Bool
two_of a b c d = (a && b) || (((a || b) && c) || (((a || b) || c) && d))

abbrev pub two_at : Words → ℕ → Bool
two_at w i = two_of (bit w.a i) (bit w.b i) (bit w.c i) (bit w.d i)

pub record TwiceWord (w : Words) (r : ℕ) : Type 0 where
  pub at : (i : ℕ) → bit r i ≡ two_at w i

-- the number of the one that is true of a, b, c, d
abbrev pub which_of : Bool → Bool → Bool → ℕ
which_of b c d = cond (b || d) 1 0 + 2 * cond (c || d) 1 0

abbrev pub which_in : Words → ℕ → ℕ
which_in w i = which_of (bit w.b i) (bit w.c i) (bit w.d i)

-- the number of the last that is true, if one is
abbrev pub last_of : Bool → Bool → Bool → Bool → Option ℕ
last_of a b c d = cond d (Some 3) (cond c (Some 2) (cond b (Some 1) (cond a (Some 0) None)))

abbrev pub last_in : Words → ℕ → Option ℕ
last_in w i = last_of (bit w.a i) (bit w.b i) (bit w.c i) (bit w.d i)

-- by the places
abbrev pub last_on : (Reply → Bool) → List Place → Option ℕ
last_on p l = last_of (test p (get_or l 0 idle)) (test p (get_or l 1 idle)) (test p (get_or l 2 idle)) (test p (get_or l 3 idle))
