-- Altitudes and their codes, both ways.
use Rattle.std.specs.Prelude.{ℕ, ◌+◌, ◌*◌, ◌≤◌, ◌<◌, false, not, ◌≡◌, eqb, ℤ, pos, ◌+ℤ◌, Some, None, Ok}
use Rattle.rules.specs.Lists.{count}
use Rattle.codes.specs.Pulses.{digit, digits_at, any_clear, word_of}
use Rattle.codes.specs.Altitude.{eleven, lowest, altitude}
use Rattle.codes.specs.Writing.{code_of}

-- the multiples of 100 ft from -1,000 ft on; the last, 126,700 ft, has the number 1,277
abbrev pub altitude_at : ℕ → ℤ
altitude_at k = lowest +ℤ pos (100 * k)

-- a word with no other pulses than the eleven of an altitude
abbrev pub eleven_of : ℕ → ℕ
eleven_of w = word_of eleven (digits_at eleven w)

-- w is the code of that altitude: other bits are 0, and where the eleven are sure it reads as the altitude
pub record CodeOf (k w : ℕ) : Type 0 where
  pub wrote : code_of (altitude_at k) ≡ Some w
  pub others-clear : eleven_of w ≡ w
  pub reads : (confidence : ℕ) → any_clear eleven confidence ≡ false → altitude w confidence ≡ Ok (altitude_at k)

-- in how many of the eleven pulses two words differ
abbrev pub differing : ℕ → ℕ → ℕ
differing v w = count (λ p. not (eqb (digit v p) (digit w p))) eleven

pub record RoundTrip : Type 0 where
  -- each multiple of 100 ft from -1,000 to 126,700 comes back through the writer and the reader
  pub back : (k : ℕ) → k ≤ 1277 → (w : ℕ) × CodeOf k w
  -- any other number has no code
  pub no_other : (z : ℤ) → ((k : ℕ) → k ≤ 1277 → z ≡ altitude_at k → ⊥) → code_of z ≡ None
  -- a code that reads as feet is the writer's for those feet in its eleven pulses: so no altitude has two codes
  pub once : (w confidence : ℕ) (z : ℤ) → altitude w confidence ≡ Ok z → code_of z ≡ Some (eleven_of w)
  -- neighbours differ in one pulse alone, as Gray code wants it
  pub neighbours : (k v w : ℕ) → k < 1277 → code_of (altitude_at k) ≡ Some v → code_of (altitude_at (k + 1)) ≡ Some w → differing v w ≡ 1
