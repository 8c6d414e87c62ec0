-- A word of eleven pulses gives its digits back, by a test that is computed for each of the 2,048 lists of eleven digits.
use Prim.Native.Nat.{ℕ, ◌<◌}
use mathlib.Core.Path.{◌≡◌, refl, sym}
use mathlib.Core.Bool.{Bool, true, false, not, ◌&&◌}
use mathlib.Core.List.{List, [], ◌∷◌}
use lib.Dec.{eqb}
use lib.ListN.{length}
use borrow.Author.Tests.{eqb-true, not-true}
use Rattle.rules.specs.Lists.{All}
use Rattle.rules.proofs.Truth.{impossible, and_left, and_right}
use Rattle.rules.specs.Samples.{bit}
use Rattle.codes.proofs.DigitTests.{passes, passed}
use Rattle.codes.specs.Pulses.{D1, digits_at, word_of}
use Rattle.codes.specs.Altitude.{eleven}

-- some digits, k of them
pub record Digits (k : ℕ) (ds : List ℕ) : Type 0 where
  pub count : length ds ≡ k
  pub each : All (λ d. d < 2) ds

-- ---- two lists of numbers are the same

same : List ℕ → List ℕ → Bool
same [] [] = true
same [] (y ∷ ys) = false
same (x ∷ xs) [] = false
same (x ∷ xs) (y ∷ ys) = eqb x y && same xs ys

same-is : (xs ys : List ℕ) → same xs ys ≡ true → xs ≡ ys
unfolding same
same-is [] [] h = refl
same-is [] (y ∷ ys) h = absurd (impossible (sym h))
same-is (x ∷ xs) [] h = absurd (impossible (sym h))
same-is (x ∷ xs) (y ∷ ys) h = λ i. eqb-true x y (and_left (eqb x y) (same xs ys) h) i ∷ same-is xs ys (and_right (eqb x y) (same xs ys) h) i

-- ---- the word of eleven digits

back_test : List ℕ → Bool
back_test ds = same (digits_at eleven (word_of eleven ds)) ds && not (bit D1 (word_of eleven ds))

all_back : passes 11 back_test ≡ true
unfolding passes back_test same
all_back = refl

pub digits-back : (ds : List ℕ) → Digits 11 ds → digits_at eleven (word_of eleven ds) ≡ ds
unfolding back_test
digits-back ds d =
    same-is (digits_at eleven (word_of eleven ds)) ds
    (and_left (same (digits_at eleven (word_of eleven ds)) ds) (not (bit D1 (word_of eleven ds))) (passed 11 back_test all_back ds d.count d.each))

pub d1_clear : (ds : List ℕ) → Digits 11 ds → bit D1 (word_of eleven ds) ≡ false
unfolding back_test
d1_clear ds d =
    not-true (bit D1 (word_of eleven ds))
    (and_right (same (digits_at eleven (word_of eleven ds)) ds) (not (bit D1 (word_of eleven ds))) (passed 11 back_test all_back ds d.count d.each))
