-- Words of ticks: what is read from them, and that they stay those of the places.
use Prim.Native.Nat.{ℕ, zero, suc, ◌+◌, ◌*◌, ◌<◌}
use native.Mathlib.Omega.{arith}
use mathlib.Core.Path.{◌≡◌, refl, sym, ap, ap₂, ◌∙◌}
use mathlib.Core.Bool.{Bool, true, false, ◌&&◌, ◌||◌, cond}
use mathlib.Core.List.{List, [], ◌∷◌}
use lib.Bits.{bit_and, bit_or}
use mir.Val.{bool_byte}
use lib.ListN.{length, set}
use Rattle.std.specs.Prelude.{Some}
use Rattle.std.proofs.lemmas.Option.{none-some, same_Some}
use Rattle.rules.specs.declared.Reply.{Reply}
use Rattle.rules.specs.declared.Place.{Place}
use Rattle.plane.specs.Words.{bit}
use Rattle.plane.proofs.BitLaws.{bit-and, bit-or, zero_bit}
use Rattle.places.specs.Places.{test, any_in}
use Rattle.places.proofs.PlaceLaws.{any-four}
use Rattle.marking.specs.declared.Words.{Words}
use Rattle.marking.specs.Marks.{four, Marked, with_word_lem, without_word_lem, without_place, AnyWord, any_at, two_at, TwiceWord, which_of, last_of, last_in, last_on}

-- ---- the functions

pub any_word_law : (w : Words) → AnyWord w (bit_or w.a (bit_or w.b (bit_or w.c w.d)))
any_word_law w =
    record {
      at = λ i.
          bit-or w.a (bit_or w.b (bit_or w.c w.d)) i
          ∙ ap (λ (y : Bool). bit w.a i || y) (bit-or w.b (bit_or w.c w.d) i ∙ ap (λ (y : Bool). bit w.b i || y) (bit-or w.c w.d i))
          ∙ any-four (bit w.a i) (bit w.b i) (bit w.c i) (bit w.d i);
    }

-- along equal words
pub twice_as : (w v : Words) (r q : ℕ) → TwiceWord w r → v ≡ w → q ≡ r → TwiceWord v q
twice_as w v r q h e f = record { at = λ i. ap (λ (x : ℕ). bit x i) f ∙ h.at i ∙ ap (λ (x : Words). two_at x i) (sym e) }

pub twice_law : (w : Words) → TwiceWord w (bit_or (bit_and w.a w.b) (bit_or (bit_and (bit_or w.a w.b) w.c) (bit_and (bit_or (bit_or w.a w.b) w.c) w.d)))
twice_law w =
    record {
      at = λ i.
          let ab = bit-or w.a w.b i in
          let abc = bit-or (bit_or w.a w.b) w.c i ∙ ap (λ (y : Bool). y || bit w.c i) ab in
          let x = bit-and w.a w.b i in
          let y = bit-and (bit_or w.a w.b) w.c i ∙ ap (λ (y : Bool). y && bit w.c i) ab in
          let z = bit-and (bit_or (bit_or w.a w.b) w.c) w.d i ∙ ap (λ (y : Bool). y && bit w.d i) abc in
          bit-or (bit_and w.a w.b) (bit_or (bit_and (bit_or w.a w.b) w.c) (bit_and (bit_or (bit_or w.a w.b) w.c) w.d)) i
          ∙ ap₂ ◌||◌ x (bit-or (bit_and (bit_or w.a w.b) w.c) (bit_and (bit_or (bit_or w.a w.b) w.c) w.d) i ∙ ap₂ ◌||◌ y z);
    }

as_digit : (b : Bool) → bool_byte b ≡ cond b 1 0
as_digit true = refl
as_digit false = refl

pub which_law : (b c d i : ℕ) (x y : Bool) → x ≡ bit (bit_or b d) i → y ≡ bit (bit_or c d) i → bool_byte x + 2 * bool_byte y ≡ which_of (bit b i) (bit c i) (bit d i)
which_law b c d i x y ex ey =
    let k = as_digit x ∙ ap (λ (z : Bool). cond z 1 0) (ex ∙ bit-or b d i) in
    let l = as_digit y ∙ ap (λ (z : Bool). cond z 1 0) (ey ∙ bit-or c d i) in
    λ j. k j + 2 * l j

-- ---- by the places

module _ (w : Words) (i : ℕ) (p : Reply → Bool) (l : List Place) (h : Marked w i p l) where
  pub any-marked : any_at w i ≡ any_in p (four l)
  any-marked = rw (h.a, h.b, h.c, h.d)

  pub last-marked : last_in w i ≡ last_on p l
  last-marked = rw (h.a, h.b, h.c, h.d)

  -- a place is left
  pub without_marked : (k : ℕ) → k < 4 → Marked (without_word_lem k w) i p (without_place k l)
  without_marked zero lt = record { a = h.b; b = h.c; c = h.d; d = zero_bit i }
  without_marked (suc zero) lt = record { a = h.a; b = h.c; c = h.d; d = zero_bit i }
  without_marked (suc (suc zero)) lt = record { a = h.a; b = h.b; c = h.d; d = zero_bit i }
  without_marked (suc (suc (suc zero))) lt = record { a = h.a; b = h.b; c = h.c; d = zero_bit i }
  without_marked (suc (suc (suc (suc k)))) lt = absurd (omega arith)

-- a place is written, and its word
pub with_marked : (w : Words) (i : ℕ) (p : Reply → Bool) (l : List Place) → Marked w i p l → length l ≡ 4 → (k x : ℕ) (y : Place) → k < 4 → bit x i ≡ test p y
    → Marked (with_word_lem k x w) i p (set l k y)
with_marked w i p (a ∷ (b ∷ (c ∷ (d ∷ l)))) h s zero x y lt e = record { a = e; b = h.b; c = h.c; d = h.d }
with_marked w i p (a ∷ (b ∷ (c ∷ (d ∷ l)))) h s (suc zero) x y lt e = record { a = h.a; b = e; c = h.c; d = h.d }
with_marked w i p (a ∷ (b ∷ (c ∷ (d ∷ l)))) h s (suc (suc zero)) x y lt e = record { a = h.a; b = h.b; c = e; d = h.d }
with_marked w i p (a ∷ (b ∷ (c ∷ (d ∷ l)))) h s (suc (suc (suc zero))) x y lt e = record { a = h.a; b = h.b; c = h.c; d = e }
with_marked w i p (a ∷ (b ∷ (c ∷ (d ∷ l)))) h s (suc (suc (suc (suc k)))) x y lt e = absurd (omega arith)
with_marked w i p [] h s k x y lt e = absurd (omega arith)
with_marked w i p (a ∷ []) h s k x y lt e = absurd (omega arith)
with_marked w i p (a ∷ (b ∷ [])) h s k x y lt e = absurd (omega arith)
with_marked w i p (a ∷ (b ∷ (c ∷ []))) h s k x y lt e = absurd (omega arith)

-- the last that is marked is one of four
pub last_low : (a b c d : Bool) (k : ℕ) → last_of a b c d ≡ Some k → k < 4
last_low a b c true k h = let e = same_Some 3 k h in omega (arith, e)
last_low a b true false k h = let e = same_Some 2 k h in omega (arith, e)
last_low a true false false k h = let e = same_Some 1 k h in omega (arith, e)
last_low true false false false k h = let e = same_Some 0 k h in omega (arith, e)
last_low false false false false k h = absurd (none-some k h)
