-- Digits, one by one and in pairs.
use Prim.Native.Nat.{ℕ, ◌+◌, ◌-◌, ◌*◌, ◌/◌, ◌%◌, ◌≤◌, ◌<◌}
use native.Mathlib.Omega.{arith}
use mathlib.Core.Path.{◌≡◌, refl, sym, ap, ◌∙◌}
use mathlib.Core.Bool.{Bool, true, false, cond, ◌&&◌, ◌||◌}
use mathlib.Core.List.{List, [], ◌∷◌}
use lib.Dec.{leb}
use Rattle.std.specs.List.{fold}
use borrow.Author.Tests.{leb-true, lt-ltb, le-ltb}
use Rattle.rules.proofs.Truth.{and_left, and_right}
use Rattle.characters.specs.Characters.{digit, is_digit_lem, are_digits_lem}

abbrev low : ℕ → Bool
low c = leb 48 c && leb c 57

abbrev high : ℕ → Bool
high c = leb 97 c && leb c 102

digit_low : (c : ℕ) → low c ≡ true → c - 48 ≡ digit c
unfolding digit
digit_low c h = sym (ap (λ b. cond b (c - 48) (cond (high c) (c - 87) 16)) h)

digit-high : (c : ℕ) → low c ≡ false → high c ≡ true → c - 87 ≡ digit c
unfolding digit
digit-high c l h = sym (ap (λ b. cond b (c - 48) (cond (high c) (c - 87) 16)) l ∙ ap (λ b. cond b (c - 87) 16) h)

digit-none : (c : ℕ) → low c ≡ false → high c ≡ false → 16 ≡ digit c
unfolding digit
digit-none c l h = sym (ap (λ b. cond b (c - 48) (cond (high c) (c - 87) 16)) l ∙ ap (λ b. cond b (c - 87) 16) h)

low-least : (c : ℕ) → low c ≡ true → 48 ≤ c
low-least c h = leb-true 48 c (and_left (leb 48 c) (leb c 57) h)

high-least : (c : ℕ) → high c ≡ true → 97 ≤ c
high-least c h = leb-true 97 c (and_left (leb 97 c) (leb c 102) h)

low-most : (c : ℕ) → low c ≡ true → c ≤ 57
low-most c h = leb-true c 57 (and_right (leb 48 c) (leb c 57) h)

high-most : (c : ℕ) → high c ≡ true → c ≤ 102
high-most c h = leb-true c 102 (and_right (leb 97 c) (leb c 102) h)

-- a character is a digit if it is one of 0 to 9 or one of a to f
pub digit_by_tests : (c : ℕ) → (low c || high c) ≡ is_digit_lem c
digit_by_tests c = go (low c) (high c) refl refl
  where
    go : (a b : Bool) → low c ≡ a → high c ≡ b → (a || b) ≡ is_digit_lem c
    go true b l h = sym (lt-ltb (digit c) 16 (omega (arith, digit_low c l, low-most c l)))
    go false true l h = sym (lt-ltb (digit c) 16 (omega (arith, digit-high c l h, high-most c h)))
    go false false l h = sym (le-ltb (digit c) 16 (omega (arith, digit-none c l h)))

-- the value of a digit: its low four bits, and nine more for a letter
pub digit_by_bits : (c : ℕ) → digit c < 16 → c % 16 + 9 * (c / 64) ≡ digit c
digit_by_bits c d = go (low c) (high c) refl refl
  where
    go : (a b : Bool) → low c ≡ a → high c ≡ b → c % 16 + 9 * (c / 64) ≡ digit c
    go true b l h = omega (arith, digit_low c l, low-least c l, low-most c l)
    go false true l h = omega (arith, digit-high c l h, high-least c h, high-most c h)
    go false false l h = absurd (omega (arith, d, digit-none c l h))

-- ---- many

-- the tests of all bytes, and-ed one after the other
pub all_folded : (b : Bool) (l : List ℕ) → fold (λ all c. all && is_digit_lem c) b l ≡ (b && are_digits_lem l)
all_folded true [] = refl
all_folded false [] = refl
all_folded true (c ∷ l) = all_folded (is_digit_lem c) l
all_folded false (c ∷ l) = all_folded false l
