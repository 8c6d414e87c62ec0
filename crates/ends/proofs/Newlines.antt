-- Where a line ends: the bytes looked at so far have no newline.
use Prim.Native.Nat.{ℕ, zero, suc, ◌+◌, ◌-◌, ◌≤◌, ◌<◌}
use native.Mathlib.Omega.{arith}
use mathlib.Core.Path.{◌≡◌, refl, sym, ap, ◌∙◌}
use mathlib.Core.Logic.{◌⊎◌, inl, inr}
use mathlib.Core.Bool.{Bool, true, false, ◌&&◌, ◌||◌, not, cond, and-false}
use mathlib.Core.List.{List, [], ◌∷◌}
use lib.Dec.{ltb, leb, eqb}
use lib.ListN.{length, get_or, take, drop, length-take}
use lib.Seq.{get_or-take, get_or-drop}
use borrow.Author.Tests.{ltb-true, ltb-false, leb-false, le-leb, lt-leb, eqb-true, eqb-false}
use Rattle.std.specs.List.{list_any}
use Rattle.rules.specs.Lists.{any, All}
use Rattle.rules.proofs.Truth.{impossible, or_left, or_right, or-second}
use Rattle.std.specs.Prelude.{Some, None}
use Rattle.ends.specs.Ends.{NoNewline, Newline, newline_in, plain32, passed_by, Passed, EndPost}

-- ---- bytes without a newline

no_bytes : (input : List ℕ) (from to : ℕ) → to ≤ from → NoNewline input from to
no_bytes input from to h = record { none = λ k a b e. omega arith }

one_byte_more : (input : List ℕ) (from to to' : ℕ) → to' ≡ to + 1 → NoNewline input from to → (get_or input to 0 ≡ 10 → ⊥) → NoNewline input from to'
one_byte_more input from to to' z h d = record { none = λ k a b e. go k a b e (ltb k to) refl }
  where
    go : (k : ℕ) → from ≤ k → k < to' → get_or input k 0 ≡ 10 → (t : Bool) → ltb k to ≡ t → ⊥
    go k a b e true q = h.none k a (ltb-true k to q) e
    go k a b e false q = d (ap (λ (j : ℕ). get_or input j 0) {x = to} {y = k} (omega (arith, ltb-false k to q)) ∙ e)

more_bytes : (input : List ℕ) (from i to : ℕ) → NoNewline input from i → NoNewline input i to → NoNewline input from to
more_bytes input from i to h g = record { none = λ k a b e. go k a b e (ltb k i) refl }
  where
    go : (k : ℕ) → from ≤ k → k < to → get_or input k 0 ≡ 10 → (t : Bool) → ltb k i ≡ t → ⊥
    go k a b e true q = h.none k a (ltb-true k i q) e
    go k a b e false q = g.none k (ltb-false k i q) b e

-- ---- a newline among some bytes

abbrev newline : ℕ → Bool
newline c = eqb c 10

none_among : (l : List ℕ) → any newline l ≡ false → (k : ℕ) → get_or l k 0 ≡ 10 → ⊥
none_among [] h k e = omega arith
none_among (c ∷ l) h zero e = eqb-false c 10 (or_left (newline c) (any newline l) h) e
none_among (c ∷ l) h (suc k) e = none_among l (or_right (newline c) (any newline l) h) k e

some_among : (l : List ℕ) → any newline l ≡ true → Newline l 0 (length l)
some_among [] h = absurd (impossible (sym h))
some_among (c ∷ l) h = go (newline c) refl (some_among l)
  where
    go : (b : Bool) → newline c ≡ b → (any newline l ≡ true → Newline l 0 (length l)) → Newline (c ∷ l) 0 (length (c ∷ l))
    go true e g = record { at = 0; start = omega arith; before = omega arith; is = eqb-true c 10 e }
    go false e g =
        let n = g (or-second (newline c) (any newline l) e h) in
        record { at = suc n.at; start = omega arith; before = omega (arith, n.before); is = n.is }

pub any_newline : (l : List ℕ) → list_any (λ c. eqb c 10) l ≡ any newline l
any_newline [] = refl
any_newline (c ∷ l) = ap (λ (b : Bool). newline c || b) (any_newline l)

module _ (input : List ℕ) (from n : ℕ) where
  -- what the test says
  pub newline_none : newline_in input from n ≡ false → NoNewline input from (from + n)
  newline_none h =
      record {
        none = λ k a b e.
            none_among (take n (drop from input)) h (k - from)
            (get_or-take n (drop from input) (k - from) 0 (omega arith) ∙ get_or-drop from input (k - from) 0 ∙ ap (λ (j : ℕ). get_or input j 0) {x = from + (k - from)} {y = k} (omega arith) ∙ e);
      }

  pub newline_some : newline_in input from n ≡ true → Newline input from (from + n)
  newline_some h =
      let l = drop from input in
      let g = some_among (take n l) h in
      let short : g.at < n = omega (arith, g.before, length-take n l) in
      record { at = from + g.at; start = omega arith; before = omega arith; is = sym (get_or-take n l g.at 0 short ∙ get_or-drop from input g.at 0) ∙ g.is }

-- ---- bytes passed 32 at a time

plain_next : (n : ℕ) (input : List ℕ) (from : ℕ) → plain32 input from ≡ true → passed_by (suc n) input from ≡ passed_by n input (from + 32)
plain_next n input from h = rw h

plain_stop : (n : ℕ) (input : List ℕ) (from : ℕ) → plain32 input from ≡ false → passed_by n input from ≡ from
plain_stop zero input from h = refl
plain_stop (suc n) input from h = rw h

one_more : (n : ℕ) (input : List ℕ) (from to : ℕ) → NoNewline input from (from + 32) → Passed n input (from + 32) to → Passed (suc n) input from to
one_more n input from to g h =
    record { k = suc h.k; most = omega (arith, h.most); place = omega (arith, h.place); before = more_bytes input from (from + 32) to g h.before; stops = why h.stops }
  where
    why : {X : Type 0} → (h.k ≡ n) ⊎ X → (suc h.k ≡ suc n) ⊎ X
    why (inl e) = inl (ap suc e)
    why (inr x) = inr x

-- what the number says
pub passed-by : (n : ℕ) (input : List ℕ) (from : ℕ) → Passed n input from (passed_by n input from)
passed-by zero input from = record { k = 0; most = omega arith; place = omega arith; before = no_bytes input from from (omega arith); stops = inl refl }
passed-by (suc n) input from = go (leb (from + 32) (length input)) (newline_in input from 32) refl refl (passed-by n input (from + 32))
  where
    stop : (length input < from + 32) ⊎ Newline input from (from + 32) → Passed (suc n) input from from
    stop h = record { k = 0; most = omega arith; place = omega arith; before = no_bytes input from from (omega arith); stops = inr h }

    go : (b c : Bool) → leb (from + 32) (length input) ≡ b → newline_in input from 32 ≡ c → Passed n input (from + 32) (passed_by n input (from + 32))
        → Passed (suc n) input from (cond (b && not c) (passed_by n input (from + 32)) from)
    go true true e f h = stop (inr (newline_some input from 32 f))
    go true false e f h = one_more n input from (passed_by n input (from + 32)) (newline_none input from 32 f) h
    go false c e f h = stop (inl (leb-false (from + 32) (length input) e))

pub passed-at : (input : List ℕ) (from i : ℕ) → i ≡ passed_by 8 input from → Passed 8 input from i
passed-at input from i e = rw e (passed-by 8 input from)

-- after k of eight
pub record Passing (input : List ℕ) (from i k : ℕ) : Type 0 where
  pub most : k ≤ 8
  pub rest : passed_by 8 input from ≡ passed_by (8 - k) input i

module _ (input : List ℕ) (from : ℕ) where
  pub passing_start : Passing input from from 0
  passing_start = record { most = omega arith; rest = refl }

  module _ (i k : ℕ) (h : Passing input from i k) where
    pub passing_next : k < 8 → i + 32 ≤ length input → newline_in input i 32 ≡ false → Passing input from (i + 32) (k + 1)
    passing_next l room g =
        record {
          most = omega arith;
          rest = h.rest ∙ ap (λ (n : ℕ). passed_by n input i) {x = 8 - k} {y = suc (8 - (k + 1))} (omega arith) ∙ plain_next (8 - (k + 1)) input i (rw (le-leb (i + 32) (length input) room, g));
        }

    pub passing_short : length input < i + 32 → i ≡ passed_by 8 input from
    passing_short short = sym (h.rest ∙ plain_stop (8 - k) input i (rw (lt-leb (i + 32) (length input) short)))

    pub passing_found : newline_in input i 32 ≡ true → i ≡ passed_by 8 input from
    passing_found g = sym (h.rest ∙ plain_stop (8 - k) input i (rw g (and-false (leb (i + 32) (length input)))))

    pub passing_end : 8 ≤ k → i ≡ passed_by 8 input from
    passing_end l = sym (h.rest ∙ ap (λ (n : ℕ). passed_by n input i) {x = 8 - k} {y = 0} (omega arith))

-- ---- where a line ends

pub record Looking (input : List ℕ) (from i : ℕ) : Type 0 where
  pub start : from ≤ i
  pub short : i < from + 259
  pub seen : NoNewline input from i

module _ (input : List ℕ) (from : ℕ) where
  pub looking_start : (i : ℕ) → Passed 8 input from i → Looking input from i
  looking_start i h = record { start = omega (arith, h.place); short = omega (arith, h.place, h.most); seen = h.before }

  module _ (i : ℕ) (h : Looking input from i) (more : i < length input) where
    up_to : NoNewline input from (i + 1 - 1)
    up_to = record { none = λ k a b e. h.seen.none k a (omega arith) e }

    pub found_newline : get_or input i 0 ≡ 10 → EndPost input from (Some (i + 1))
    found_newline e =
        record {
          some = omega (arith, h.start);
          inside = omega arith;
          before = up_to;
          ends = inl (ap (λ (k : ℕ). get_or input k 0) {x = i + 1 - 1} {y = i} (omega arith) ∙ e);
        }

    pub found-long : i + 1 - from ≡ 259 → EndPost input from (Some (i + 1))
    found-long e = record { some = omega (arith, h.start); inside = omega arith; before = up_to; ends = inr (omega (arith, h.start, e)) }

    pub looking_next : (get_or input i 0 ≡ 10 → ⊥) → (i + 1 - from ≡ 259 → ⊥) → Looking input from (i + 1)
    looking_next d z =
        record {
          start = omega (arith, h.start);
          short = omega (arith, h.short, h.start, z);
          seen = one_byte_more input from i (i + 1) refl h.seen d;
        }

  pub looking_past : (i : ℕ) → length input ≤ i → Looking input from i → EndPost input from None
  looking_past i l h = record { short = omega (arith, h.short); before = record { none = λ k a b e. h.seen.none k a (omega arith) e } }

-- ---- bytes as a list

-- no newline among them
abbrev pub Plain : List ℕ → Type 0
Plain l = All (λ c. c ≡ 10 → ⊥) l

pub plain : (l : List ℕ) → ((k : ℕ) → k < length l → get_or l k 0 ≡ 10 → ⊥) → Plain l
plain [] h = tt
plain (c ∷ l) h = (h 0 (omega arith), plain l (λ k s. h (suc k) (omega arith)))

pub plain_last : (l : List ℕ) → Plain l → 0 < length l → get_or l (length l - 1) 0 ≡ 10 → ⊥
plain_last [] h s e = omega arith
plain_last (c ∷ []) h s e = h.0 e
plain_last (c ∷ d ∷ l) h s e =
    plain_last (d ∷ l) h.1 (omega arith) (ap (λ (k : ℕ). get_or (c ∷ d ∷ l) k 0) {x = suc (length (d ∷ l) - 1)} {y = length (c ∷ d ∷ l) - 1} (omega arith) ∙ e)
