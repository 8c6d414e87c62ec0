-- The steps of a number of feet; the word of so many steps, from the words of n and of h; and the eight pulses of n.
use Prim.Native.Nat.{ℕ, suc, ◌+◌, ◌-◌, ◌*◌, ◌/◌, ◌%◌, ◌^◌, ◌≤◌}
use native.Mathlib.Omega.{arith}
use native.Mathlib.Nat.{div-one}
use mathlib.Core.Path.{◌≡◌, sym, ap, ◌∙◌}
use mathlib.Core.Bool.{true, false}
use mathlib.Core.List.{[], ◌∷◌, ◌++◌}
use lib.Bits.{bit_xor}
use lib.IntN.{ℤ, pos, negsuc, ◌+ℤ◌}
use lib.Signed.{lt_z}
use Rattle.std.proofs.lemmas.Bool.Decides.{nat_tests}
use Rattle.std.proofs.lemmas.Int.{ints}
use lib.ListN.{get_or}
use Rattle.codes.specs.Pulses.{word_of}
use Rattle.codes.proofs.GrayLaws.{gray-digit}
use Rattle.codes.specs.Gray.{gray_of}
use Rattle.codes.specs.Altitude.{eight, three, eleven, groups, turned, lowest}
use Rattle.codes.specs.Writing.{highest, has_code, steps_to, group_of, written}

-- ---- feet above -1,300 ft

pub raised-low : (z : ℤ) → lt_z z lowest ≡ true → has_code z ≡ false
raised-low z h = grind (arith, ints, nat_tests)

pub raised-high : (z : ℤ) → lt_z highest z ≡ true → has_code z ≡ false
raised-high z h = grind (arith, ints, nat_tests)

pub sum_low : (a : ℕ) → a ≤ 999 → negsuc a +ℤ pos 1300 ≡ pos (1299 - a)
sum_low a h = grind (arith, ints)

-- feet above -1,300 ft of a number that has a code are a natural number, 100 ft for each step
pub sum_is : (z : ℤ) → has_code z ≡ true → z +ℤ pos 1300 ≡ pos (100 * steps_to z)
sum_is z h = grind (arith, ints, nat_tests)

pub raised-most : (z : ℤ) → has_code z ≡ true → steps_to z ≤ 1280
raised-most z h = grind (arith, ints, nat_tests)

-- the altitudes that have a code are from -1,000 ft on
pub raised-least : (z : ℤ) → has_code z ≡ true → 3 ≤ steps_to z
raised-least z h = grind (arith, ints, nat_tests)

-- h counted forth or back is one of 1 to 5
pub turned-least : (n h : ℕ) → 1 ≤ h → h ≤ 5 → (1 ≤ turned n h) × (turned n h ≤ 5)
turned-least n h l m = (grind (arith, nat_tests), grind (arith, nat_tests))

-- eight digits and three make a word of eleven
joined : (d₇ d₆ d₅ d₄ d₃ d₂ d₁ d₀ c₁ c₂ c₄ : ℕ)
    → word_of eight (d₇ ∷ d₆ ∷ d₅ ∷ d₄ ∷ d₃ ∷ d₂ ∷ d₁ ∷ d₀ ∷ []) + word_of three (c₁ ∷ c₂ ∷ c₄ ∷ [])
    ≡ word_of eleven (d₇ ∷ d₆ ∷ d₅ ∷ d₄ ∷ d₃ ∷ d₂ ∷ d₁ ∷ d₀ ∷ c₁ ∷ c₂ ∷ c₄ ∷ [])
joined d₇ d₆ d₅ d₄ d₃ d₂ d₁ d₀ c₁ c₂ c₄ = omega arith

gray-at : ℕ → ℕ → ℕ
gray-at n k = (n / 2 ^ k + n / 2 ^ suc k) % 2

-- s - 1 steps are n times five and h - 1; the code found a and b, the words of n and of h as it is counted
module _ (s : ℕ) {t : ℕ} (e : t ≡ turned ((s - 1) / 5) ((s - 1) % 5 + 1)) where
  pub one-to-five : (1 ≤ t) × (t ≤ 5)
  one-to-five =
      let l = turned-least ((s - 1) / 5) ((s - 1) % 5 + 1) (omega arith) (omega arith) in
      (omega (arith, e, l.0), omega (arith, e, l.1))

  pub word_found : {a b : ℕ} → a ≡ word_of eight (gray_of 8 ((s - 1) / 5)) → b ≡ word_of three (group_of t) → a + b ≡ written s
  unfolding written gray-at
  word_found {a} {b} f g =
      let n = (s - 1) / 5 in
      let c = get_or groups (t - 1) 0 in
      (λ i. f i + g i)
      ∙ joined (gray-at n 7) (gray-at n 6) (gray-at n 5) (gray-at n 4) (gray-at n 3) (gray-at n 2) (gray-at n 1) (gray-at n 0) (c / 4 % 2) (c / 2 % 2) (c % 2)
      ∙ ap (λ (h : ℕ). word_of eleven (gray_of 8 n ++ group_of h)) e

-- ---- the eight pulses of n

digits_word : (d₇ d₆ d₅ d₄ d₃ d₂ d₁ d₀ : ℕ)
    → 1024 * d₇ + 4096 * d₆ + (2 * d₅ + 8 * d₄ + 32 * d₃ + (128 * d₂ + 512 * d₁ + 2048 * d₀)) ≡ word_of eight (d₇ ∷ d₆ ∷ d₅ ∷ d₄ ∷ d₃ ∷ d₂ ∷ d₁ ∷ d₀ ∷ [])
digits_word d₇ d₆ d₅ d₄ d₃ d₂ d₁ d₀ = omega arith

pub gray_word : (n g : ℕ) → g ≡ bit_xor n (n / 2)
    → 1024 * (g / 128 % 2) + 4096 * (g / 64 % 2) + (2 * (g / 32 % 2) + 8 * (g / 16 % 2) + 32 * (g / 8 % 2) + (128 * (g / 4 % 2) + 512 * (g / 2 % 2) + 2048 * (g % 2)))
    ≡ word_of eight (gray_of 8 n)
gray_word n g e =
    digits_word (g / 128 % 2) (g / 64 % 2) (g / 32 % 2) (g / 16 % 2) (g / 8 % 2) (g / 4 % 2) (g / 2 % 2) (g % 2)
    ∙ (λ i. word_of eight (at 7 i ∷ at 6 i ∷ at 5 i ∷ at 4 i ∷ at 3 i ∷ at 2 i ∷ at 1 i ∷ last i ∷ []))
  where
    at : (k : ℕ) → g / 2 ^ k % 2 ≡ (n / 2 ^ k + n / 2 ^ suc k) % 2
    at k = ap (λ (m : ℕ). m / 2 ^ k % 2) e ∙ gray-digit n k

    last : g % 2 ≡ (n / 2 ^ 0 + n / 2 ^ 1) % 2
    last = ap (λ (m : ℕ). m % 2) (sym (div-one g)) ∙ at 0
