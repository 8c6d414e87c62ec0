-- Gray code: how large its numbers are, and that reading and writing undo each other, for any number of digits.
use Prim.Native.Nat.{ℕ, zero, suc, ◌+◌, ◌*◌, ◌/◌, ◌%◌, ◌^◌, ◌<◌}
use native.Mathlib.Omega.{arith}
use native.Mathlib.Nat.{mul_assoc, pow-suc, pow-succ', div-one, div-div-eq-div-mul}
use mathlib.Core.Path.{◌≡◌, refl, sym, ap, ◌∙◌}
use mathlib.Core.List.{List, [], ◌∷◌}
use lib.Bits.{differ, bit_xor, xor_step, xor_shr}
use lib.ListN.{length}
use Rattle.rules.specs.Lists.{All}
use Rattle.codes.specs.Gray.{with_digit, gray_from, gray_of}

-- k digits behind a number below m make one below m 2^k
pub gray-below : (gs : List ℕ) (n m : ℕ) → n < m → gray_from n gs < m * 2 ^ length gs
gray-below [] n m h = omega arith
gray-below (g ∷ gs) n m h = rw (pow-succ' 2 (length gs), ← mul_assoc m 2 (2 ^ length gs)) (gray-below gs (with_digit n g) (m * 2) (omega arith))

-- one digit more is a half less
pub half : (n k : ℕ) → n / 2 ^ suc k ≡ n / 2 ^ k / 2
half n k = ap (λ (d : ℕ). n / d) (pow-suc 2 k) ∙ sym (div-div-eq-div-mul n (2 ^ k) 2)

again : (a : ℕ) → with_digit (a / 2) ((a + a / 2) % 2) ≡ a
again a = omega arith

-- behind all but its k lowest binary digits, n's Gray digits give n
pub read-written : (k n : ℕ) → gray_from (n / 2 ^ k) (gray_of k n) ≡ n
read-written zero n = div-one n
read-written (suc k) n =
    rw (half n k) (ap (λ (m : ℕ). gray_from m (gray_of k n)) (again (n / 2 ^ k)) ∙ read-written k n)

-- what stands before k Gray digits
pub before : (gs : List ℕ) (n : ℕ) → gray_from n gs / 2 ^ length gs ≡ n
before [] n = div-one n
before (g ∷ gs) n = half (gray_from (with_digit n g) gs) (length gs) ∙ ap (λ (m : ℕ). m / 2) (before gs (with_digit n g)) ∙ shorter n g
  where
    shorter : (n g : ℕ) → with_digit n g / 2 ≡ n
    shorter n g = omega arith

own_digit : (n g : ℕ) → g < 2 → (with_digit n g + n) % 2 ≡ g
own_digit n g h = omega arith

first : (g : ℕ) (gs : List ℕ) (n : ℕ) → g < 2 → (gray_from n (g ∷ gs) / 2 ^ length gs + gray_from n (g ∷ gs) / 2 ^ suc (length gs)) % 2 ≡ g
first g gs n h = rw (before gs (with_digit n g), before (g ∷ gs) n) (own_digit n g h)

-- Gray digits, read and written, come back
pub written_read : (gs : List ℕ) (n : ℕ) → All (λ g. g < 2) gs → gray_of (length gs) (gray_from n gs) ≡ gs
written_read [] n all = refl
written_read (g ∷ gs) n all = λ i. first g gs n all.0 i ∷ written_read gs (with_digit n g) all.1 i

-- ---- as a number: n xor n / 2

differ_digits : (x y : ℕ) → x < 2 → y < 2 → differ x y ≡ (x + y) % 2
differ_digits zero y h l = omega arith
differ_digits (suc zero) zero h l = refl
differ_digits (suc zero) (suc zero) h l = refl
differ_digits (suc zero) (suc (suc y)) h l = absurd (omega arith)
differ_digits (suc (suc x)) y h l = absurd (omega arith)

xor-odd : (a b : ℕ) → bit_xor a b % 2 ≡ (a + b) % 2
xor-odd a b = let d = differ_digits (a % 2) (b % 2) (omega arith) (omega arith) in omega (arith, xor_step a b, d)

quarter : (n k : ℕ) → n / 2 / 2 ^ k ≡ n / 2 ^ suc k
quarter n k = div-div-eq-div-mul n 2 (2 ^ k) ∙ ap (λ (d : ℕ). n / d) (sym (pow-succ' 2 k))

-- digit k of the Gray code of n
pub gray-digit : (n k : ℕ) → bit_xor n (n / 2) / 2 ^ k % 2 ≡ (n / 2 ^ k + n / 2 ^ suc k) % 2
gray-digit n k =
    ap (λ (m : ℕ). m % 2) (xor_shr n (n / 2) k) ∙ xor-odd (n / 2 ^ k) (n / 2 / 2 ^ k) ∙ ap (λ (m : ℕ). (n / 2 ^ k + m) % 2) (quarter n k)
