-- The code of an altitude: only the eleven pulses of an altitude can be set.
use Rattle.std.specs.Prelude.{ℕ, ◌+◌, ◌-◌, ◌/◌, ◌%◌, Bool, ◌&&◌, cond, List, [], ◌∷◌, ◌++◌, eqb, ℤ, pos, nat_abs, ◌+ℤ◌, get_or, Option, Some, None}
use Rattle.std.specs.Int.Signed.{le_z}
use Rattle.codes.specs.Pulses.{word_of}
use Rattle.codes.specs.Gray.{gray_of}
use Rattle.codes.specs.Altitude.{eleven, groups, turned, lowest}

-- the highest altitude, 126,700 ft
abbrev pub highest : ℤ
highest = pos 126700

-- a multiple of 100 ft from the lowest altitude to the highest
abbrev pub has_code : ℤ → Bool
has_code z = le_z lowest z && (le_z z highest && eqb (nat_abs z % 100) 0)

-- the digits C1 C2 C4 of the group that counts h, from 1 to 5
abbrev pub three_digits : ℕ → List ℕ
three_digits g = g / 4 % 2 ∷ g / 2 % 2 ∷ g % 2 ∷ []

abbrev pub group_of : ℕ → List ℕ
group_of h = three_digits (get_or groups (h - 1) 0)

-- the word of n and h, from 5 n + h
unfoldable pub written : ℕ → ℕ
written s =
    let n = (s - 1) / 5 in
    word_of eleven (gray_of 8 n ++ group_of (turned n ((s - 1) % 5 + 1)))

-- 5 n + h, of an altitude in feet
abbrev pub steps_to : ℤ → ℕ
steps_to z = nat_abs (z +ℤ pos 1300) / 100

-- the code word; none for a number that has no code
unfoldable pub code_of : ℤ → Option ℕ
unfolding written
code_of z = cond (has_code z) (Some (written (steps_to z))) None
