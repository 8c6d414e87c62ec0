-- Truth values: what a test that passed, or failed, says of its parts.
use Prim.Native.Nat.{ℕ}
use native.Mathlib.Omega.{arith}
use mathlib.Core.Path.{◌≡◌, refl, sym, ap, ◌∙◌}
use mathlib.Core.Logic.{◌⊎◌, inl, inr}
use mathlib.Core.Bool.{Bool, true, false, ◌&&◌, ◌||◌}
use lib.Dec.{eqb}
use borrow.Author.Tests.{eqb-true, eqb-false}

pub impossible : true ≡ false → ⊥
impossible e = let z : ◌≡◌ {A = ℕ} 0 1 = cc in omega arith

pub and_left : (x y : Bool) → (x && y) ≡ true → x ≡ true
and_left true y h = refl
and_left false y h = h

pub and_right : (x y : Bool) → (x && y) ≡ true → y ≡ true
and_right true y h = h
and_right false y h = absurd (impossible (sym h))

-- the answer of two tests in a row: no after the first, or that of the second
pub and_no : (x y : Bool) → x ≡ false → false ≡ (x && y)
and_no x y e = sym (ap (λ (z : Bool). z && y) e)

pub and_then : (x y r : Bool) → x ≡ true → r ≡ y → r ≡ (x && y)
and_then x y r e f = f ∙ sym (ap (λ (z : Bool). z && y) e)

pub or_left : (x y : Bool) → (x || y) ≡ false → x ≡ false
or_left true y h = h
or_left false y h = refl

pub or_right : (x y : Bool) → (x || y) ≡ false → y ≡ false
or_right true y h = absurd (impossible h)
or_right false y h = h

-- one of two: not the first, so the second
pub or-second : (x y : Bool) → x ≡ false → (x || y) ≡ true → y ≡ true
or-second x y e h = rw e at h

either : (b : Bool) (i n : ℕ) → eqb i n ≡ b → (i ≡ n) ⊎ (i ≡ n → ⊥)
either true i n e = inl (eqb-true i n e)
either false i n e = inr (eqb-false i n e)

pub same_or : (i n : ℕ) → (i ≡ n) ⊎ (i ≡ n → ⊥)
same_or i n = either (eqb i n) i n refl
