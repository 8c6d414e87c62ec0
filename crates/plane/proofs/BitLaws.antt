-- Bit i of what the machine's operations give: and, or, xor, shifts, complement.
-- An operation on each bit apart commutes with shifts and remainders, so its table of four cases decides; a shift moves the division by 2 ^ i.
use Prim.Native.Nat.{ℕ, zero, suc, ◌+◌, ◌-◌, ◌*◌, ◌/◌, ◌%◌, ◌^◌, ◌≤◌, ◌<◌}
use native.Mathlib.Nat.{mod-lt, div-eq_of_lt, lt_of_lt_of_le, pow-suc, mul_assoc, mul-mod_left, mod-eq_of_lt, zero-div}
use native.Mathlib.Omega.{arith}
use native.Mathlib.Numerals.{add-one}
use mathlib.Core.Path.{◌≡◌, refl, sym, ap, ◌∙◌, subst}
use mathlib.Core.Bool.{Bool, true, false, not, ◌&&◌, ◌||◌}
use lib.Arith.{digits_mod}
use lib.Dec.{eqb}
use lib.Pow.{pow_mono, pow-add, shr-shr, shl-shr, field, mod-mod-pow, ones_split, high, ones_lt}
use lib.Bits.{bit_and, bit_or, bit_xor, and_shr, or_shr, xor_shr, and_mod, or_mod, xor_mod, xor_add_and, and_mask}
use Rattle.plane.specs.Words.{bit}

-- ---- an operation on each bit apart

-- 0 or 1
two : (P : ℕ → Type 0) → P 0 → P 1 → (n : ℕ) → n < 2 → P n
two P p q zero h = p
two P p q (suc zero) h = q
two P p q (suc (suc n)) h = absurd (omega arith)

module _ (op : ℕ → ℕ → ℕ) (f : Bool → Bool → Bool)
    (shr : (a b k : ℕ) → op a b / 2 ^ k ≡ op (a / 2 ^ k) (b / 2 ^ k))
    (rem : (a b k : ℕ) → op a b % 2 ^ k ≡ op (a % 2 ^ k) (b % 2 ^ k))
    (table : (x y : ℕ) → x < 2 → y < 2 → eqb (op x y) 1 ≡ f (eqb x 1) (eqb y 1)) where
  op_bit : (a b i : ℕ) → bit (op a b) i ≡ f (bit a i) (bit b i)
  unfolding bit
  op_bit a b i =
      ap (λ (x : ℕ). eqb (x % 2) 1) (shr a b i) ∙ ap (λ (x : ℕ). eqb x 1) (rem (a / 2 ^ i) (b / 2 ^ i) 1)
      ∙ table (a / 2 ^ i % 2) (b / 2 ^ i % 2) (mod-lt (a / 2 ^ i) (omega arith)) (mod-lt (b / 2 ^ i) (omega arith))

module _ (op : ℕ → ℕ → ℕ) (f : Bool → Bool → Bool)
    (e₀₀ : eqb (op 0 0) 1 ≡ f false false) (e₀₁ : eqb (op 0 1) 1 ≡ f false true)
    (e₁₀ : eqb (op 1 0) 1 ≡ f true false) (e₁₁ : eqb (op 1 1) 1 ≡ f true true) where
  by_table : (x y : ℕ) → x < 2 → y < 2 → eqb (op x y) 1 ≡ f (eqb x 1) (eqb y 1)
  by_table x y hx hy =
      two (λ (x : ℕ). eqb (op x y) 1 ≡ f (eqb x 1) (eqb y 1))
      (two (λ (y : ℕ). eqb (op 0 y) 1 ≡ f false (eqb y 1)) e₀₀ e₀₁ y hy)
      (two (λ (y : ℕ). eqb (op 1 y) 1 ≡ f true (eqb y 1)) e₁₀ e₁₁ y hy) x hx

unfoldable pub xor : Bool → Bool → Bool
xor true b = not b
xor false b = b

pub bit-and : (a b i : ℕ) → bit (bit_and a b) i ≡ bit a i && bit b i
bit-and = op_bit bit_and ◌&&◌ and_shr and_mod (by_table bit_and ◌&&◌ refl refl refl refl)

pub bit-or : (a b i : ℕ) → bit (bit_or a b) i ≡ bit a i || bit b i
bit-or = op_bit bit_or ◌||◌ or_shr or_mod (by_table bit_or ◌||◌ refl refl refl refl)

pub bit-xor : (a b i : ℕ) → bit (bit_xor a b) i ≡ xor (bit a i) (bit b i)
unfolding xor
bit-xor = op_bit bit_xor xor xor_shr xor_mod (by_table bit_xor xor refl refl refl refl)

-- ---- shifts

pub bit-shr : (a k i : ℕ) → bit (a / 2 ^ k) i ≡ bit a (k + i)
unfolding bit
bit-shr a k i = ap (λ (x : ℕ). eqb (x % 2) 1) (shr-shr a k i)

pub bit-above : (a k i : ℕ) → a < 2 ^ k → k ≤ i → bit a i ≡ false
unfolding bit
bit-above a k i h l = ap (λ (x : ℕ). eqb (x % 2) 1) (div-eq_of_lt (lt_of_lt_of_le h (pow_mono l)))

pub bit-shl-high : (a k m : ℕ) → bit (a * 2 ^ k) (k + m) ≡ bit a m
unfolding bit
bit-shl-high a k m = ap (λ (x : ℕ). eqb (x % 2) 1) (sym (shr-shr (a * 2 ^ k) k m) ∙ ap (λ (x : ℕ). x / 2 ^ m) (shl-shr a k))

-- a shift by j + 1 + i leaves bit i clear
shl-low : (a i j : ℕ) → bit (a * 2 ^ (suc j + i)) i ≡ false
unfolding bit
shl-low a i j =
    ap (λ (x : ℕ). eqb (x % 2) 1)
    (ap (λ (x : ℕ). a * x / 2 ^ i) (pow-add 2 (suc j) i) ∙ ap (λ (x : ℕ). x / 2 ^ i) (sym (mul_assoc a (2 ^ suc j) (2 ^ i)))
    ∙ shl-shr (a * 2 ^ suc j) i ∙ ap (λ (x : ℕ). a * x) (pow-suc 2 j) ∙ sym (mul_assoc a (2 ^ j) 2))
    ∙ ap (λ (x : ℕ). eqb x 1) (mul-mod_left (a * 2 ^ j) 2)

pub bit-shl-low : (a k i : ℕ) → i < k → bit (a * 2 ^ k) i ≡ false
bit-shl-low a k i h =
    let e : suc (k - suc i) + i ≡ k = omega arith in subst (λ (n : ℕ). bit (a * 2 ^ n) i ≡ false) e (shl-low a i (k - suc i))

-- a remainder of j + 1 + i bits keeps bit i
mod-wide : (a i j : ℕ) → bit (a % 2 ^ (suc j + i)) i ≡ bit a i
unfolding bit
mod-wide a i j =
    ap (λ (x : ℕ). eqb (x % 2) 1) (field a (suc j) i)
    ∙ ap (λ (n : ℕ). eqb (a / 2 ^ i % 2 ^ n % 2) 1) (sym (add-one j))
    ∙ ap (λ (x : ℕ). eqb x 1) (mod-mod-pow (a / 2 ^ i) j 1)

pub bit-mod : (a k i : ℕ) → i < k → bit (a % 2 ^ k) i ≡ bit a i
bit-mod a k i h =
    let e : suc (k - suc i) + i ≡ k = omega arith in subst (λ (n : ℕ). bit (a % 2 ^ n) i ≡ bit a i) e (mod-wide a i (k - suc i))

-- a word shifted n to the left
abbrev pub left : ℕ → ℕ → ℕ
left n x = (x * 2 ^ n) % 2 ^ 64

pub left-high : (n x m : ℕ) → n + m < 64 → bit (left n x) (n + m) ≡ bit x m
left-high n x m h = bit-mod (x * 2 ^ n) 64 (n + m) h ∙ bit-shl-high x n m

pub left-low : (n x i : ℕ) → i < 64 → i < n → bit (left n x) i ≡ false
left-low n x i h l = bit-mod (x * 2 ^ n) 64 i h ∙ bit-shl-low x n i l

pub zero_bit : (i : ℕ) → bit 0 i ≡ false
unfolding bit
zero_bit i = rw zero-div refl

-- ---- complement

ones-wide : (i j : ℕ) → bit (2 ^ (suc j + i) - 1) i ≡ true
unfolding bit
ones-wide i j =
    ap (λ (x : ℕ). eqb (x / 2 ^ i % 2) 1) (ones_split (suc j) i)
    ∙ ap (λ (x : ℕ). eqb (x % 2) 1) (high (2 ^ suc j - 1) i (ones_lt i))
    ∙ ap (λ (n : ℕ). eqb ((2 ^ n - 1) % 2) 1) (sym (add-one j))
    ∙ ap (λ (x : ℕ). eqb (x % 2) 1) (ones_split j 1)
    ∙ ap (λ (x : ℕ). eqb x 1) (digits_mod (2 ^ j - 1) {m = 2} {r = 1} (omega arith))

pub bit-ones : (k i : ℕ) → i < k → bit (2 ^ k - 1) i ≡ true
bit-ones k i h =
    let e : suc (k - suc i) + i ≡ k = omega arith in subst (λ (n : ℕ). bit (2 ^ n - 1) i ≡ true) e (ones-wide i (k - suc i))

xor_true : (b : Bool) → xor b true ≡ not b
unfolding xor
xor_true true = refl
xor_true false = refl

complement : (a k : ℕ) → a < 2 ^ k → (2 ^ k - 1) - a ≡ bit_xor a (2 ^ k - 1)
complement a k h =
    let e : bit_and a (2 ^ k - 1) ≡ a = and_mask a k ∙ mod-eq_of_lt h in omega (arith, xor_add_and a (2 ^ k - 1), e)

pub bit_not : (a k i : ℕ) → a < 2 ^ k → i < k → bit ((2 ^ k - 1) - a) i ≡ not (bit a i)
bit_not a k i h l =
    ap (λ (x : ℕ). bit x i) (complement a k h) ∙ bit-xor a (2 ^ k - 1) i ∙ ap (xor (bit a i)) (bit-ones k i l) ∙ xor_true (bit a i)
