-- The steps of a code, how many they are at most, and which codes have none; and the altitude of a code, by the tests.
use Prim.Native.Nat.{ℕ, ◌≤◌, ◌<◌}
use native.Mathlib.Omega.{arith}
use mathlib.Core.Path.{◌≡◌}
use mathlib.Core.Bool.{true, false, ◌||◌}
use lib.Dec.{eqb, ltb, lit<}
use Rattle.std.proofs.lemmas.Bool.Decides.{nat_tests}
use Rattle.std.specs.Prelude.{Ok, Err}
use Rattle.rules.specs.Samples.{bit}
use Rattle.codes.specs.Pulses.{A1, A2, A4, B1, B2, B4, D1, D2, D4, digit, digits_at, any_clear}
use Rattle.codes.specs.Gray.{with_digit}
use Rattle.codes.specs.declared.Unread.TheVariants.{Unsure, NoAltitude}
use Rattle.codes.specs.Altitude.{eleven, eight, five_hundreds_lem, hundreds, group, turned, steps, feet_at_lem, has_none, altitude}
use Rattle.codes.proofs.GrayLaws.{gray-below}
use Rattle.altitudes.proofs.Feet.{below-lowest}

pub five-hundreds-below : (code : ℕ) → five_hundreds_lem code < 256
unfolding five_hundreds_lem
five-hundreds-below code = gray-below (digits_at eight code) 0 1 (lit< tt)

-- eight Gray digits, two at a time
pub eight-digits : (code : ℕ) {n₂ n₄ n₆ n₈ : ℕ} → n₂ ≡ with_digit (with_digit 0 (digit code D2)) (digit code D4)
    → n₄ ≡ with_digit (with_digit n₂ (digit code A1)) (digit code A2) → n₆ ≡ with_digit (with_digit n₄ (digit code A4)) (digit code B1)
    → n₈ ≡ with_digit (with_digit n₆ (digit code B2)) (digit code B4) → n₈ ≡ five_hundreds_lem code
unfolding five_hundreds_lem
eight-digits code e₂ e₄ e₆ e₈ = cc

-- another group
pub no-group : (g : ℕ) → (g ≡ 1 → ⊥) → (g ≡ 3 → ⊥) → (g ≡ 2 → ⊥) → (g ≡ 6 → ⊥) → (g ≡ 4 → ⊥) → 0 ≡ hundreds g
no-group g a b c d e = grind (arith, nat_tests)

pub hundreds-most : (g : ℕ) → hundreds g ≤ 5
hundreds-most g = grind (arith, nat_tests)

pub turned-most : (n h : ℕ) → h ≤ 5 → turned n h ≤ 6
turned-most n h l = grind (arith, nat_tests)

pub steps-most : (code : ℕ) → steps code ≤ 1281
unfolding steps
steps-most code =
    omega
    (arith, five-hundreds-below code, turned-most (five_hundreds_lem code) (hundreds (group code)) (hundreds-most (group code)))

-- no altitude, by the group, by D1 and by the steps
pub none_is : (code : ℕ) → has_none code ≡ (eqb (hundreds (group code)) 0 || (bit D1 code || ltb (steps code) 3))
unfolding has_none
none_is code = rw (below-lowest (steps code))

-- for the function that counts the steps
pub ruleset counts = (five-hundreds-below, hundreds-most, turned-most, none_is)

-- ---- the answer, by the tests

module _ (code confidence : ℕ) where
  pub is-unsure : any_clear eleven confidence ≡ true → altitude code confidence ≡ Err Unsure
  unfolding altitude
  is-unsure u = rw u

  module _ (u : any_clear eleven confidence ≡ false) where
    pub is_none : has_none code ≡ true → altitude code confidence ≡ Err NoAltitude
    unfolding altitude
    is_none h = rw (u, h)

    pub is-feet : has_none code ≡ false → altitude code confidence ≡ Ok (feet_at_lem (steps code))
    unfolding altitude
    is-feet h = rw (u, h)
