-- Frames as they are written.
use Rattle.std.specs.Prelude.{ℕ, zero, suc, ◌+◌, ◌*◌, ◌/◌, ◌%◌, min, List, [], ◌∷◌, ◌++◌, length, take, drop}
use Rattle.rules.specs.declared.Opening.{Opening}
use Rattle.rules.specs.declared.Reply.{Reply}
use Rattle.rules.specs.declared.Totals.{Totals}
use Rattle.rules.specs.Samples.{Trace}
use Rattle.rules.specs.Records.{record_size, bytes, record_of, totals_size}
use Rattle.hexadecimal.specs.Digits.{written}

-- ---- "In: `01` mode (1 byte) azimuth (2); `02` with 1 to 64 flag, value pairs; `03` close."

abbrev pub open_line : Opening → List ℕ
open_line ω = written (1 ∷ ω.mode ∷ ω.azimuth / 256 ∷ ω.azimuth % 256 ∷ [])

abbrev pub pairs : List ℕ → List ℕ → List ℕ
pairs [] v = []
pairs (x ∷ f) [] = []
pairs (x ∷ f) (y ∷ v) = x ∷ y ∷ pairs f v

abbrev pub samples_line : Trace → List ℕ
samples_line P = written (2 ∷ pairs P.flags P.values)

abbrev pub close_line : List ℕ
close_line = written (3 ∷ [])

-- ---- "Out: `11` and a record; `12` and six totals of 2 bytes; `1f` and a refusal number (1)."

-- a line of n bytes: two digits for each, and the newline
abbrev pub line_size : ℕ → ℕ
line_size n = 2 * n + 1

-- 39
abbrev pub reply_line_size : ℕ
reply_line_size = line_size (1 + record_size)

-- 27
abbrev pub totals_line_size : ℕ
totals_line_size = line_size (1 + totals_size)

abbrev pub reply_line : Reply → List ℕ
reply_line r = written (17 ∷ record_of r)

-- a line for each reply
abbrev pub reply_lines_lem : List Reply → List ℕ
reply_lines_lem [] = []
reply_lines_lem (r ∷ l) = reply_line r ++ reply_lines_lem l

-- the same from records end to end: the first n of them
abbrev pub record_lines : ℕ → List ℕ → List ℕ
record_lines zero l = []
record_lines (suc n) l = written (17 ∷ take record_size l) ++ record_lines n (drop record_size l)

-- the lines of the first n records, or of as many as there are
abbrev pub first_lines : ℕ → List ℕ → List ℕ
first_lines n l = record_lines (min n (length l / record_size)) l

unfoldable pub totals_bytes_lem : Totals → List ℕ
unfolding bytes
totals_bytes_lem x = bytes 2 x.found ++ bytes 2 x.replies ++ bytes 2 x.sidelobe ++ bytes 2 x.garbled ++ bytes 2 x.lost ++ bytes 2 x.phantoms

abbrev pub totals_line_lem : Totals → List ℕ
totals_line_lem x = written (18 ∷ totals_bytes_lem x)

abbrev pub refusal_line_lem : ℕ → List ℕ
refusal_line_lem k = written (31 ∷ k ∷ [])
