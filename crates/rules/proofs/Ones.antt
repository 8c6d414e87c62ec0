-- Numbers as sets of bits: to add 2 ^ b where bit b is 0 is to put one more into the set.
-- By induction on b: the bits above the lowest are those of the half.
use Prim.Native.Nat.{ℕ, zero, suc, ◌+◌, ◌/◌, ◌%◌, ◌^◌, ◌≤◌, ◌<◌, zero-le}
use native.Mathlib.Nat.{suc-add, add-suc, not-suc-le-zero}
use native.Mathlib.Numerals.{one-add}
use native.Mathlib.Omega.{arith}
use mathlib.Core.Path.{◌≡◌, sym, ap, ◌∙◌}
use mathlib.Core.Bool.{false}
use lib.Dec.{eqb}
use lib.Pow.{shr-shr}
use borrow.Author.Tests.{eqb-false}
use Rattle.rules.specs.Samples.{bit}
use Rattle.rules.specs.Ranges.{ones}

-- a number whose bit 0 is 0 is even
even : (x : ℕ) → bit 0 x ≡ false → x % 2 ≡ 0
even x h = omega (arith, eqb-false (x / 1 % 2) 1 h)

-- bit b + 1 of a number is bit b of its half
bit_half : (b x : ℕ) → bit (suc b) x ≡ bit b (x / 2)
bit_half b x = ap (λ (y : ℕ). eqb (y % 2) 1) (sym (shr-shr x 1 b ∙ ap (λ (i : ℕ). x / 2 ^ i) (one-add b)))

-- one more bit is set
pub ones-add : (n b x : ℕ) → b < n → bit b x ≡ false → ones n (x + 2 ^ b) ≡ suc (ones n x)
unfolding ones
ones-add zero b x l h = absurd (not-suc-le-zero l)
ones-add (suc n) zero x l h =
    let e : x % 2 ≡ 0 = even x h in
    let low : (x + 1) % 2 ≡ suc (x % 2) = omega arith in
    let rest : (x + 1) / 2 ≡ x / 2 = omega arith in
    rw (low, rest) (suc-add (x % 2) (ones n (x / 2)))
ones-add (suc n) (suc b) x l h =
    let low : (x + 2 ^ suc b) % 2 ≡ x % 2 = omega arith in
    let rest : (x + 2 ^ suc b) / 2 ≡ x / 2 + 2 ^ b = omega arith in
    let put : ones n (x / 2 + 2 ^ b) ≡ suc (ones n (x / 2)) = ones-add n b (x / 2) (omega arith) (sym (bit_half b x) ∙ h) in
    rw (low, rest, put) (add-suc (x % 2) (ones n (x / 2)))

-- of n bits at most n are set
pub ones-most : (n x : ℕ) → ones n x ≤ n
unfolding ones
ones-most zero x = zero-le
ones-most (suc n) x = omega (arith, ones-most n (x / 2))

-- a number of n bits is still one after a bit below n is set
pub add-below : (n b x : ℕ) → b < n → x < 2 ^ n → bit b x ≡ false → x + 2 ^ b < 2 ^ n
add-below zero b x l s h = absurd (not-suc-le-zero l)
add-below (suc n) zero x l s h = omega (arith, even x h)
add-below (suc n) (suc b) x l s h =
    let half : x / 2 < 2 ^ n = omega arith in
    omega (arith, add-below n b (x / 2) (omega arith) half (sym (bit_half b x) ∙ h))
