-- When a reading is unsure, and which pulses it depends on.
use Rattle.std.specs.Prelude.{ℕ, true, ◌∷◌, ◌↔◌, ◌≡◌, None, Err}
use Rattle.codes.specs.declared.Unread.TheVariants.{Unsure}
use Rattle.codes.specs.Pulses.{D1, digits_at, any_clear}
use Rattle.codes.specs.Altitude.{eleven, altitude}
use Rattle.codes.specs.Identity.{twelve, identity}

-- unsure exactly if one of the eleven, or of the twelve, has confidence 0, whatever the code is
pub record UnsureExactly : Type 0 where
  pub of-altitude : (code confidence : ℕ) → (altitude code confidence ≡ Err Unsure) ↔ (any_clear eleven confidence ≡ true)
  pub of-identity : (code confidence : ℕ) → (identity code confidence ≡ None) ↔ (any_clear twelve confidence ≡ true)

-- the same digits of code and confidence, the same answer: X, F2, SPI and bit 15 do not matter, nor does the confidence of D1 for an altitude
pub record Depends : Type 0 where
  pub of-altitude : (code code' confidence confidence' : ℕ) → digits_at (D1 ∷ eleven) code ≡ digits_at (D1 ∷ eleven) code'
      → digits_at eleven confidence ≡ digits_at eleven confidence' → altitude code confidence ≡ altitude code' confidence'
  pub of-identity : (code code' confidence confidence' : ℕ) → digits_at twelve code ≡ digits_at twelve code'
      → digits_at twelve confidence ≡ digits_at twelve confidence' → identity code confidence ≡ identity code' confidence'
