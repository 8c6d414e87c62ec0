-- What reading a line answers, and what it leaves in the two buffers for samples.
use Rattle.std.specs.Prelude.{Result, Ok, Err, ℕ, ◌+◌, ◌-◌, ◌*◌, ◌/◌, ◌%◌, ◌≤◌, ◌<◌, true, List, [], ◌∷◌, ◌≡◌, length, get_or, take, drop}
use Rattle.rules.specs.Buffers.{over}
use Rattle.rules.specs.declared.Refusal.{Refusal}
use Rattle.reading.specs.declared.Frame.{Frame}
use Rattle.reading.specs.declared.Frame.TheVariants.{Open, Samples, Close}
use Rattle.reading.specs.Frames.{Reading, opening, samples, closing, refused, reading, bytes, flags_in, values_in}
use Rattle.characters.specs.Characters.{digit, are_digits_lem}

-- a frame, or why the line is refused
abbrev pub Line : Type 0
Line = Result Frame Refusal

-- document 01's values for each case
abbrev pub line_of : Reading → Line
line_of (opening ω) = Ok (Open ω)
line_of (samples P) = Ok (Samples (length P.flags))
line_of closing = Ok Close
line_of (refused k) = Err k

abbrev pub flags_after : Reading → List ℕ → List ℕ
flags_after (opening ω) b = b
flags_after (samples P) b = over P.flags b
flags_after closing b = b
flags_after (refused k) b = b

abbrev pub values_after : Reading → List ℕ → List ℕ
values_after (opening ω) b = b
values_after (samples P) b = over P.values b
values_after closing b = b
values_after (refused k) b = b

pub record ReadPost (line flags values : List ℕ) (r : Line) (flags' values' : List ℕ) : Type 0 where
  pub result : r ≡ line_of (reading line)
  pub flag_bytes : flags' ≡ flags_after (reading line) flags
  pub value_bytes : values' ≡ values_after (reading line) values

-- the bytes behind the kind, of a line of m digits
unfoldable pub behind : List ℕ → ℕ → List ℕ
behind line m = bytes (take (m - 2) (drop 2 line))

-- n samples, from the pairs of bytes behind the kind
pub record FillPost (line : List ℕ) (n : ℕ) (flags values flags' values' : List ℕ) : Type 0 where
  pub flag_bytes : flags' ≡ over (flags_in (behind line (4 * n + 2))) flags
  pub value_bytes : values' ≡ over (values_in (behind line (4 * n + 2))) values

-- the line has m digits at its start
pub record AllDigits (line : List ℕ) (m : ℕ) : Type 0 where
  pub room : m ≤ length line
  pub all : are_digits_lem (take m line) ≡ true

-- the value of each digit
abbrev pub digit_values : List ℕ → List ℕ
digit_values [] = []
digit_values (c ∷ l) = digit c ∷ digit_values l

-- four values of digits
pub record FourDigits (d : List ℕ) : Type 0 where
  pub first : get_or d 0 0 < 16
  pub second : get_or d 1 0 < 16
  pub third : get_or d 2 0 < 16
  pub fourth : get_or d 3 0 < 16

-- the two bytes of four digits in one word
pub record TwoBytes (d : List ℕ) (x : ℕ) : Type 0 where
  pub low : x % 256 ≡ 16 * get_or d 0 0 + get_or d 1 0
  pub high : x / 65536 % 256 ≡ 16 * get_or d 2 0 + get_or d 3 0
