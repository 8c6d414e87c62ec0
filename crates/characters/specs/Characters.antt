-- Hexadecimal digits.
use Rattle.std.specs.Prelude.{ℕ, ◌+◌, ◌-◌, ◌<◌, Bool, true, cond, ◌&&◌, List, [], ◌∷◌, leb, ltb, length, get_or}

-- "Lower-case hexadecimal": the value of a digit, and 16 for another character
unfoldable pub digit : ℕ → ℕ
digit c = cond (leb 48 c && leb c 57) (c - 48) (cond (leb 97 c && leb c 102) (c - 87) 16)

abbrev pub is_digit_lem : ℕ → Bool
is_digit_lem c = ltb (digit c) 16

abbrev pub are_digits_lem : List ℕ → Bool
are_digits_lem [] = true
are_digits_lem (c ∷ l) = is_digit_lem c && are_digits_lem l

-- two digits stand at places i and i+1
pub record Digits (l : List ℕ) (i : ℕ) : Type 0 where
  pub room : i + 1 < length l
  pub high : digit (get_or l i 0) < 16
  pub low : digit (get_or l (i + 1) 0) < 16
