-- Cases of numbers and of truth values, and a test at every place below a number.
use Prim.Native.Nat.{ℕ, zero, suc, ◌≤◌, ◌<◌}
use native.Mathlib.Omega.{arith}
use mathlib.Core.Path.{◌≡◌, refl, sym, ap, ap₂, subst}
use mathlib.Core.Logic.{◌⊎◌, inl, inr, ⊎_elim}
use mathlib.Core.Bool.{Bool, true, false, ◌&&◌, ◌||◌}
use Rattle.rules.proofs.Truth.{impossible, and_left, and_right}

pub le_or_lt : (k i : ℕ) → (k ≤ i) ⊎ (i < k)
le_or_lt zero i = inl (omega arith)
le_or_lt (suc k) zero = inr (omega arith)
le_or_lt (suc k) (suc i) = ⊎_elim (λ (h : k ≤ i). inl (omega arith)) (λ (h : i < k). inr (omega arith)) (le_or_lt k i)

-- ---- truth values

pub never : {C : Type 0} {a : Bool} → a ≡ false → a ≡ true → C
never {a = a} p q = absurd (impossible (cc))

pub or_cases : {C : Type 0} (a b : Bool) → a || b ≡ true → (a ≡ true → C) → (b ≡ true → C) → C
or_cases true b e f g = f refl
or_cases false b e f g = g e

pub or_l : (a b : Bool) → a ≡ true → a || b ≡ true
or_l a b e = ap (λ (x : Bool). x || b) e

pub or_r : (a b : Bool) → b ≡ true → a || b ≡ true
or_r true b e = refl
or_r false b e = e

pub or_false : (a : Bool) → a || false ≡ a
or_false true = refl
or_false false = refl

pub both : (a b : Bool) → a ≡ true → b ≡ true → a && b ≡ true
both a b p q = ap₂ ◌&&◌ p q

pub and_false : (a : Bool) → a && false ≡ false
and_false true = refl
and_false false = refl

pub is_true : (a : Bool) → (a ≡ false → ⊥) → a ≡ true
is_true true f = refl
is_true false f = absurd (f refl)

pub same : (a b : Bool) → (a ≡ true → b ≡ true) → (b ≡ true → a ≡ true) → a ≡ b
same true b f g = sym (f refl)
same false true f g = g refl
same false false f g = refl

-- ---- places

-- f passes at 0 to n-1
abbrev pub up_to : (ℕ → Bool) → ℕ → Bool
up_to f zero = true
up_to f (suc n) = f n && up_to f n

pub below : (f : ℕ → Bool) (n : ℕ) → up_to f n ≡ true → (i : ℕ) → i < n → f i ≡ true
below f zero e i h = absurd (omega arith)
below f (suc n) e i h =
    ⊎_elim (λ (g : n ≤ i). let q : n ≡ i = omega arith in subst (λ (k : ℕ). f k ≡ true) q (and_left (f n) (up_to f n) e))
    (λ (g : i < n). below f n (and_right (f n) (up_to f n) e) i g) (le_or_lt n i)
