-- Pulses by a mask: a word and a mask have the mask's pulses of the word, and these are the mask exactly if all of them are set.
use Prim.Native.Nat.{ℕ, suc, ◌+◌, ◌*◌, ◌/◌, ◌%◌, ◌^◌, min}
use native.Mathlib.Omega.{arith}
use native.Mathlib.Nat.{div-one}
use mathlib.Core.Path.{◌≡◌, refl, sym, ap, ◌∙◌}
use mathlib.Core.Bool.{Bool, true, false, not}
use mathlib.Core.List.{List, [], ◌∷◌}
use lib.Bits.{bit_and, and_step, and_zero_r}
use lib.Dec.{eqb}
use Rattle.rules.specs.Lists.{any}
use Rattle.rules.proofs.Truth.{impossible}
use Rattle.codes.specs.Pulses.{C1, A1, C2, A2, C4, A4, B1, D1, B2, D2, B4, D4, digit, digits_at, any_clear, word_of}
use Rattle.codes.specs.Altitude.{eleven}
use Rattle.codes.specs.Identity.{twelve}
use Rattle.codes.proofs.GrayLaws.{half}
use Rattle.codes.proofs.DigitTests.{below_two, passes, passed}

-- ---- a word and a mask, digit by digit

-- the mask with these digits, lowest first
mask_of : List Bool → ℕ
mask_of [] = 0
mask_of (true ∷ ms) = 2 * mask_of ms + 1
mask_of (false ∷ ms) = 2 * mask_of ms

-- the digits of a word from place k on, where the mask has a 1
masked : List Bool → ℕ → ℕ → ℕ
masked [] k c = 0
masked (true ∷ ms) k c = 2 * masked ms (suc k) c + c / 2 ^ k % 2
masked (false ∷ ms) k c = 2 * masked ms (suc k) c

least-one : (x : ℕ) → min (x % 2) 1 ≡ x % 2
least-one x = omega arith

least-none : (x : ℕ) → min (x % 2) 0 ≡ 0
least-none x = omega arith

and_mask : (ms : List Bool) (k c : ℕ) → bit_and (c / 2 ^ k) (mask_of ms) ≡ masked ms k c
unfolding mask_of masked
and_mask [] k c = and_zero_r (c / 2 ^ k)
and_mask (true ∷ ms) k c =
    let p : (2 * mask_of ms + 1) / 2 ≡ mask_of ms = omega arith in
    let q : (2 * mask_of ms + 1) % 2 ≡ 1 = omega arith in
    rw (and_step (c / 2 ^ k) (2 * mask_of ms + 1), p, q, ← half c k, least-one (c / 2 ^ k), and_mask ms (suc k) c) (omega arith)
and_mask (false ∷ ms) k c =
    let p : 2 * mask_of ms / 2 ≡ mask_of ms = omega arith in
    let q : 2 * mask_of ms % 2 ≡ 0 = omega arith in
    rw (and_step (c / 2 ^ k) (2 * mask_of ms), p, q, ← half c k, least-none (c / 2 ^ k), and_mask ms (suc k) c) (omega arith)

-- ---- the eleven, and the twelve

eleven-sum : (d₀ d₁ d₂ d₃ d₄ d₅ d₇ d₉ d₁₀ d₁₁ d₁₂ : ℕ)
    → 2 * (2 * (2 * (2 * (2 * (2 * (2 * (2 * (2 * (2 * (2 * (2 * (2 * 0 + d₁₂) + d₁₁) + d₁₀) + d₉)) + d₇)) + d₅) + d₄) + d₃) + d₂) + d₁) + d₀
    ≡ word_of eleven (d₁₀ ∷ d₁₂ ∷ d₁ ∷ d₃ ∷ d₅ ∷ d₇ ∷ d₉ ∷ d₁₁ ∷ d₀ ∷ d₂ ∷ d₄ ∷ [])
eleven-sum d₀ d₁ d₂ d₃ d₄ d₅ d₇ d₉ d₁₀ d₁₁ d₁₂ = omega arith

and-eleven : (c : ℕ) → bit_and (c / 2 ^ 0) 0x1ebf ≡ word_of eleven (digits_at eleven c)
unfolding mask_of masked
and-eleven c =
    and_mask (true ∷ true ∷ true ∷ true ∷ true ∷ true ∷ false ∷ true ∷ false ∷ true ∷ true ∷ true ∷ true ∷ []) 0 c
    ∙ eleven-sum (digit c C1) (digit c A1) (digit c C2) (digit c A2) (digit c C4) (digit c A4) (digit c B1) (digit c B2) (digit c D2) (digit c B4) (digit c D4)

twelve-sum : (d₀ d₁ d₂ d₃ d₄ d₅ d₇ d₈ d₉ d₁₀ d₁₁ d₁₂ : ℕ)
    → 2 * (2 * (2 * (2 * (2 * (2 * (2 * (2 * (2 * (2 * (2 * (2 * (2 * 0 + d₁₂) + d₁₁) + d₁₀) + d₉) + d₈) + d₇)) + d₅) + d₄) + d₃) + d₂) + d₁) + d₀
    ≡ word_of twelve (d₅ ∷ d₃ ∷ d₁ ∷ d₁₁ ∷ d₉ ∷ d₇ ∷ d₄ ∷ d₂ ∷ d₀ ∷ d₁₂ ∷ d₁₀ ∷ d₈ ∷ [])
twelve-sum d₀ d₁ d₂ d₃ d₄ d₅ d₇ d₈ d₉ d₁₀ d₁₁ d₁₂ = omega arith

and-twelve : (c : ℕ) → bit_and (c / 2 ^ 0) 0x1fbf ≡ word_of twelve (digits_at twelve c)
unfolding mask_of masked
and-twelve c =
    and_mask (true ∷ true ∷ true ∷ true ∷ true ∷ true ∷ false ∷ true ∷ true ∷ true ∷ true ∷ true ∷ true ∷ []) 0 c
    ∙ twelve-sum (digit c C1) (digit c A1) (digit c C2) (digit c A2) (digit c C4) (digit c A4) (digit c B1) (digit c D1) (digit c B2) (digit c D2) (digit c B4) (digit c D4)

-- ---- all of them are set

agree : Bool → Bool → Bool
agree true b = b
agree false b = not b

agree_is : (a b : Bool) → agree a b ≡ true → a ≡ b
unfolding agree
agree_is true b h = sym h
agree_is false true h = absurd (impossible (sym h))
agree_is false false h = refl

-- the word of these digits is another one than the mask exactly if a digit is 0
mask_test : List ℕ → ℕ → List ℕ → Bool
mask_test ps mask ds = agree (not (eqb (word_of ps ds) mask)) (any (λ d. eqb d 0) ds)

all-eleven : passes 11 (mask_test eleven 0x1ebf) ≡ true
unfolding passes mask_test agree
all-eleven = refl

all-twelve : passes 12 (mask_test twelve 0x1fbf) ≡ true
unfolding passes mask_test agree
all-twelve = refl

by_mask : (ps : List ℕ) (mask c : ℕ) → bit_and (c / 2 ^ 0) mask ≡ word_of ps (digits_at ps c) → mask_test ps mask (digits_at ps c) ≡ true
    → not (eqb (bit_and c mask) mask) ≡ any (λ d. eqb d 0) (digits_at ps c)
unfolding mask_test
by_mask ps mask c e t =
    let same : bit_and c mask ≡ word_of ps (digits_at ps c) = ap (λ (w : ℕ). bit_and w mask) (sym (div-one c)) ∙ e in
    rw same (agree_is (not (eqb (word_of ps (digits_at ps c)) mask)) (any (λ d. eqb d 0) (digits_at ps c)) t)

pub eleven-clear : (c : ℕ) → not (eqb (bit_and c 0x1ebf) 0x1ebf) ≡ any_clear eleven c
eleven-clear c = by_mask eleven 0x1ebf c (and-eleven c) (passed 11 (mask_test eleven 0x1ebf) all-eleven (digits_at eleven c) refl (search below_two))

pub twelve-clear : (c : ℕ) → not (eqb (bit_and c 0x1fbf) 0x1fbf) ≡ any_clear twelve c
twelve-clear c = by_mask twelve 0x1fbf c (and-twelve c) (passed 12 (mask_test twelve 0x1fbf) all-twelve (digits_at twelve c) refl (search below_two))

-- both, for the functions that test one of the masks
pub ruleset masks = (eleven-clear, twelve-clear)
