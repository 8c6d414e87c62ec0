-- Bytes written into a lent buffer.
use Rattle.std.specs.Prelude.{ℕ, ◌+◌, List, ◌++◌, length, take, drop}

-- the bytes l at the start of the buffer b, "the rest stays"
unfoldable pub over : List ℕ → List ℕ → List ℕ
over l b = l ++ drop (length l) b

-- the buffer b with the bytes l from place at on
unfoldable pub over-at : List ℕ → ℕ → List ℕ → List ℕ
over-at l at b = take at b ++ l ++ drop (at + length l) b
