-- The lowest set bit. Halving moves every bit down by one, so what `count_trailing_zeros` counts is shown by induction on the width.
-- With lowest bit j a word is q * 2 ^ (j+1) + 2 ^ j, and one less is q * 2 ^ (j+1) + (2 ^ j - 1): what both have is q * 2 ^ (j+1).
use Prim.Native.Nat.{ℕ, zero, suc, ◌+◌, ◌-◌, ◌*◌, ◌/◌, ◌%◌, ◌^◌, ◌≤◌, ◌<◌}
use native.Mathlib.Omega.{arith}
use native.Mathlib.Nat.{mod-lt, div-one, pow-suc, mul_assoc, mod_self}
use native.Mathlib.Numerals.{one-add}
use mathlib.Core.Path.{◌≡◌, refl, sym, ap, ap₂, ◌∙◌, subst}
use mathlib.Core.Logic.{⊎_elim}
use mathlib.Core.Bool.{true, false}
use lib.Bits.{bit_and, and_self, and_block, and_mask}
use lib.Count.{count_trailing_zeros, under}
use lib.Dec.{eqb}
use lib.Pow.{pow_pos, pow-lt, shr-shr}
use borrow.Author.Tests.{eqb-true, eqb-false}
use Rattle.plane.specs.Words.{bit, Lowest, WithoutLowest}
use Rattle.plane.proofs.Cases.{le_or_lt, never}
use Rattle.plane.proofs.BitLaws.{bit-shr, bit-shl-low, bit-shl-high}

-- ---- halving

bit-suc : (n t : ℕ) → bit n (suc t) ≡ bit (n / 2) t
bit-suc n t = ap (bit n) (sym (one-add t)) ∙ sym (bit-shr n 1 t)

bit-zero : (n d : ℕ) → n % 2 ≡ d → bit n 0 ≡ eqb d 1
unfolding bit
bit-zero n d e = ap (λ (x : ℕ). eqb (x % 2) 1) (div-one n) ∙ ap (λ (x : ℕ). eqb x 1) e

set_in : (k n d : ℕ) → n % 2 ≡ d → d < 2 → (count_trailing_zeros k (n / 2) < k → bit (n / 2) (count_trailing_zeros k (n / 2)) ≡ true)
    → under d (count_trailing_zeros k (n / 2)) < suc k → bit n (under d (count_trailing_zeros k (n / 2))) ≡ true
set_in k n zero e l f h = bit-suc n (count_trailing_zeros k (n / 2)) ∙ f (omega arith)
set_in k n (suc zero) e l f h = bit-zero n 1 e
set_in k n (suc (suc d)) e l f h = absurd (omega arith)

-- the bit found is set
lowest_set : (k n : ℕ) → count_trailing_zeros k n < k → bit n (count_trailing_zeros k n) ≡ true
unfolding count_trailing_zeros
lowest_set zero n h = absurd (omega arith)
lowest_set (suc k) n h = set_in k n (n % 2) refl (mod-lt n (omega arith)) (lowest_set k (n / 2)) h

clear_in_lem : (k n d i : ℕ) → n % 2 ≡ d → ((j : ℕ) → j < count_trailing_zeros k (n / 2) → bit (n / 2) j ≡ false)
    → i < under d (count_trailing_zeros k (n / 2)) → bit n i ≡ false
clear_in_lem k n zero zero e f h = bit-zero n 0 e
clear_in_lem k n zero (suc i) e f h = bit-suc n i ∙ f i (omega arith)
clear_in_lem k n (suc d) i e f h = absurd (omega arith)

-- and no bit below it
clear-below : (k n i : ℕ) → i < count_trailing_zeros k n → bit n i ≡ false
unfolding count_trailing_zeros
clear-below zero n i h = absurd (omega arith)
clear-below (suc k) n i h = clear_in_lem k n (n % 2) i refl (clear-below k (n / 2)) h

-- a word that is not 0 has one
found_in : (k n d : ℕ) → n % 2 ≡ d → d < 2 → 0 < n → n < 2 ^ suc k → (0 < n / 2 → n / 2 < 2 ^ k → count_trailing_zeros k (n / 2) < k)
    → under d (count_trailing_zeros k (n / 2)) < suc k
found_in k n zero e l p h f = let g : count_trailing_zeros k (n / 2) < k = f (omega arith) (omega (arith, pow-suc 2 k)) in omega arith
found_in k n (suc zero) e l p h f = omega arith
found_in k n (suc (suc d)) e l p h f = absurd (omega arith)

found : (k n : ℕ) → 0 < n → n < 2 ^ k → count_trailing_zeros k n < k
unfolding count_trailing_zeros
found zero n p h = absurd (omega arith)
found (suc k) n p h = found_in k n (n % 2) refl (mod-lt n (omega arith)) p h (found k (n / 2))

-- so the number of zeros below is that of the lowest set bit
pub lowest-is : (x : ℕ) → 0 < x → x < 2 ^ 64 → Lowest x (count_trailing_zeros 64 x)
lowest-is x p h = record {
  below = found 64 x p h;
  set = lowest_set 64 x (found 64 x p h);
  clear = clear-below 64 x;
}

-- ---- the word without it

odd-at : (x : ℕ) → bit x 0 ≡ true → x % 2 ≡ 1
unfolding bit
odd-at x e = eqb-true (x % 2) 1 (ap (λ (y : ℕ). eqb (y % 2) 1) (sym (div-one x)) ∙ e)

even_at : (x : ℕ) → bit x 0 ≡ false → x % 2 ≡ 0
unfolding bit
even_at x e =
    let n : x % 2 ≡ 1 → ⊥ = eqb-false (x % 2) 1 (ap (λ (y : ℕ). eqb (y % 2) 1) (sym (div-one x)) ∙ e) in
    ⊎_elim (λ (g : 1 ≤ x % 2). absurd (n (omega arith))) (λ (g : x % 2 < 1). omega arith) (le_or_lt 1 (x % 2))

-- by its lowest bit j a word is known up to bit j
split_at : (j x : ℕ) → ((i : ℕ) → i < j → bit x i ≡ false) → bit x j ≡ true → x ≡ x / 2 ^ suc j * 2 ^ suc j + 2 ^ j
split_at zero x f e = omega (arith, odd-at x e)
split_at (suc j) x f e =
    let q : x / 2 ≡ x / 2 / 2 ^ suc j * 2 ^ suc j + 2 ^ j = split_at j (x / 2) (λ i h. sym (bit-suc x i) ∙ f (suc i) (omega arith)) (sym (bit-suc x j) ∙ e) in
    let d : x / 2 / 2 ^ suc j ≡ x / 2 ^ suc (suc j) = shr-shr x 1 (suc j) ∙ ap (λ (n : ℕ). x / 2 ^ n) (one-add (suc j)) in
    let m : x / 2 ^ suc (suc j) * 2 ^ suc (suc j) ≡ x / 2 ^ suc (suc j) * 2 ^ suc j * 2
    = ap (λ (y : ℕ). x / 2 ^ suc (suc j) * y) (pow-suc 2 (suc j)) ∙ sym (mul_assoc (x / 2 ^ suc (suc j)) (2 ^ suc j) 2) in
    let q' : x / 2 ≡ x / 2 ^ suc (suc j) * 2 ^ suc j + 2 ^ j = rw d at q in
    omega (arith, even_at x (f 0 (omega arith)), pow-suc 2 j, m, q')

module _ (x j : ℕ) (l : Lowest x j) where
  abbrev q : ℕ
  q = x / 2 ^ suc j

  is_split : x ≡ q * 2 ^ suc j + 2 ^ j
  is_split = split_at j x l.clear l.set

  one_less : x - 1 ≡ q * 2 ^ suc j + (2 ^ j - 1)
  one_less = omega (arith, is_split, pow_pos j)

  power_and : bit_and (2 ^ j) (2 ^ j - 1) ≡ 0
  power_and = and_mask (2 ^ j) j ∙ mod_self (2 ^ j)

  -- what x and x-1 both have
  both_have : bit_and x (x - 1) ≡ q * 2 ^ suc j
  both_have =
      let h : 2 ^ j < 2 ^ suc j = pow-lt (omega arith) in
      ap₂ bit_and is_split one_less
      ∙ and_block (suc j) q q (2 ^ j) (2 ^ j - 1) h (omega arith)
      ∙ ap₂ (λ (y z : ℕ). y * 2 ^ suc j + z) (and_self q) power_and
      ∙ (let e : q * 2 ^ suc j + 0 ≡ q * 2 ^ suc j = omega arith in e)

  kept_bits : (i : ℕ) → (i ≡ j → ⊥) → bit (q * 2 ^ suc j) i ≡ bit x i
  kept_bits i n =
      ⊎_elim
      (λ (g : suc j ≤ i). let e : suc j + (i - suc j) ≡ i = omega arith in
      subst (λ (k : ℕ). bit (q * 2 ^ suc j) k ≡ bit x k) e (bit-shl-high q (suc j) (i - suc j) ∙ bit-shr x (suc j) (i - suc j)))
      (λ (g : i < suc j). let h : i < j = (⊎_elim (λ (d : j ≤ i). absurd (n (omega arith))) (λ (d : i < j). d) (le_or_lt j i)) in
      bit-shl-low q (suc j) i g ∙ sym (l.clear i h))
      (le_or_lt (suc j) i)

  less-is : bit_and x (x - 1) < x
  less-is = omega (arith, both_have, is_split, pow_pos j)

  cleared-bit : bit (bit_and x (x - 1)) j ≡ false
  cleared-bit = ap (λ (y : ℕ). bit y j) both_have ∙ bit-shl-low q (suc j) j (omega arith)

  kept-bit : (i : ℕ) → (i ≡ j → ⊥) → bit (bit_and x (x - 1)) i ≡ bit x i
  kept-bit i n = ap (λ (y : ℕ). bit y i) both_have ∙ kept_bits i n

pub without_is : (x : ℕ) → 0 < x → x < 2 ^ 64 → WithoutLowest x (bit_and x (x - 1))
without_is x p h = record {
  less = less-is x (count_trailing_zeros 64 x) (lowest-is x p h);
  cleared = λ j l. cleared-bit x j l;
  kept = λ j i l n. kept-bit x j l i n;
}

-- ---- a word with no set bit

pub no_bits : (x : ℕ) → x < 2 ^ 64 → ((i : ℕ) → i < 64 → bit x i ≡ false) → x ≡ 0
no_bits x h f = ⊎_elim (λ (g : 1 ≤ x). some-bit (lowest-is x g h)) (λ (g : x < 1). omega arith) (le_or_lt 1 x)
  where
    some-bit : Lowest x (count_trailing_zeros 64 x) → x ≡ 0
    some-bit l = never (f (count_trailing_zeros 64 x) l.below) l.set
