-- The answers as numbers.
use Rattle.std.specs.Prelude.{ℕ, ◌+◌, ◌*◌, ℤ, pos, negsuc, Option, Some, None, Result, Ok, Err}
use Rattle.codes.specs.declared.Meaning.{Meaning}
use Rattle.codes.specs.declared.Meaning.TheVariants.{Altitude, Identity}
use Rattle.codes.specs.declared.Squawk.{Squawk}
use Rattle.codes.specs.declared.Unread.{Unread}
use Rattle.codes.specs.declared.Unread.TheVariants.{Unsure, NoAltitude}

-- feet; 1 for unsure and 2 for no altitude, which are no altitudes
abbrev pub altitude_number_lem : Result ℤ Unread → ℤ
altitude_number_lem (Ok z) = z
altitude_number_lem (Err Unsure) = pos 1
altitude_number_lem (Err NoAltitude) = pos 2

-- the number that the four octal digits write, at most 4,095; 4,096 for unsure
abbrev pub identity_number_lem : Option Squawk → ℤ
identity_number_lem (Some s) = pos (512 * s.a + 64 * s.b + 8 * s.c + s.d)
identity_number_lem None = pos 4096

-- that of the altitude or of the identity; -1 for no mode
abbrev pub meaning_number_lem : Option Meaning → ℤ
meaning_number_lem (Some (Altitude x)) = altitude_number_lem x
meaning_number_lem (Some (Identity x)) = identity_number_lem x
meaning_number_lem None = negsuc 0

-- the code; -1 for none
abbrev pub code_number_lem : Option ℕ → ℤ
code_number_lem (Some w) = pos w
code_number_lem None = negsuc 0
