-- The identity of a reply of mode A or 2: four octal digits.
use Rattle.std.specs.Prelude.{ℕ, cond, List, [], ◌∷◌, Option, Some, None}
use Rattle.codes.specs.declared.Squawk.{Squawk}
use Rattle.codes.specs.Pulses.{C1, A1, C2, A2, C4, A4, B1, D1, B2, D2, B4, D4, any_clear, weighted}

-- all pulses of the four digits, the highest of each first
abbrev pub twelve : List ℕ
twelve = A4 ∷ A2 ∷ A1 ∷ B4 ∷ B2 ∷ B1 ∷ C4 ∷ C2 ∷ C1 ∷ D4 ∷ D2 ∷ D1 ∷ []

-- the digits A, B, C, D, in each of which a pulse's number is its weight; none, for it is unsure, if one of the twelve has confidence 0
unfoldable pub identity : ℕ → ℕ → Option Squawk
identity code confidence =
    cond (any_clear twelve confidence) None
    (Some (record { a = weighted A4 A2 A1 code; b = weighted B4 B2 B1 code; c = weighted C4 C2 C1 code; d = weighted D4 D2 D1 code }))
