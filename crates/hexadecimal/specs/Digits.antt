-- Bytes as they are written: each as two digits, the high one first, and a newline behind a line of them.
use Rattle.std.specs.Prelude.{ℕ, ◌+◌, ◌/◌, ◌%◌, cond, List, [], ◌∷◌, ◌++◌, ltb}

-- 0 to 9 from byte 48 on, a to f from byte 97 on
unfoldable pub glyph : ℕ → ℕ
glyph x = cond (ltb x 10) (48 + x) (87 + x)

abbrev pub hexadecimal : List ℕ → List ℕ
hexadecimal [] = []
hexadecimal (x ∷ l) = glyph (x / 16) ∷ glyph (x % 16) ∷ hexadecimal l

-- "Lower-case hexadecimal, each line ended by byte 10."
abbrev pub written : List ℕ → List ℕ
written l = hexadecimal l ++ 10 ∷ []
