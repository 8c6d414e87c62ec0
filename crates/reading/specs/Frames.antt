-- Frames, one a line: what a line says.
use Rattle.std.specs.Prelude.{ℕ, ◌+◌, ◌-◌, ◌*◌, ◌%◌, Bool, cond, ◌&&◌, List, [], ◌∷◌, leb, eqb, length, get_or, take}
use Rattle.rules.specs.declared.Opening.{Opening}
use Rattle.rules.specs.declared.Refusal.{Refusal}
use Rattle.rules.specs.declared.Refusal.TheVariants.{Malformed, NoFrame}
use Rattle.rules.specs.Samples.{Trace}
use Rattle.characters.specs.Characters.{digit, are_digits_lem}

-- two digits a byte, the high one first
abbrev pub bytes : List ℕ → List ℕ
bytes [] = []
bytes (a ∷ []) = []
bytes (a ∷ b ∷ l) = (16 * digit a + digit b) ∷ bytes l

-- ---- the line

-- A line is all bytes up to its newline (byte 10) with it, or up to the end of input. Its digits are those before the newline.
abbrev pub digits : List ℕ → List ℕ
digits l = take (length l - 1) l

abbrev pub ended : List ℕ → Bool
ended l = eqb (get_or l (length l - 1) 0) 10

-- "9: empty, over 258 digits, odd, another character, or no final newline." With the newline a line has 3 to 259 bytes, an odd number.
unfoldable pub well_formed_lem : List ℕ → Bool
unfolding digit
well_formed_lem l = leb 2 (length l) && (leb (length l) 259 && (eqb (length l % 2) 1 && (ended l && are_digits_lem (digits l))))

-- ---- what it says

pub data Reading : Type 0 where
  opening : Opening → Reading
  samples : Trace → Reading
  closing : Reading
  refused : Refusal → Reading

-- flag, value pairs
abbrev pub flags_in : List ℕ → List ℕ
flags_in [] = []
flags_in (f ∷ []) = []
flags_in (f ∷ v ∷ l) = f ∷ flags_in l

abbrev pub values_in : List ℕ → List ℕ
values_in [] = []
values_in (f ∷ []) = []
values_in (f ∷ v ∷ l) = v ∷ values_in l

-- "`01` mode (1 byte) azimuth (2); `02` with 1 to 64 flag, value pairs; `03` close." (258 digits have no more than 64 pairs.)
abbrev pub opening_of : List ℕ → Reading
opening_of l = cond (eqb (length l) 3) (opening (record { mode = get_or l 0 0; azimuth = 256 * get_or l 1 0 + get_or l 2 0 })) (refused NoFrame)

abbrev pub samples_of : List ℕ → Reading
samples_of l = cond (leb 2 (length l) && eqb (length l % 2) 0) (samples (record { flags = flags_in l; values = values_in l })) (refused NoFrame)

abbrev pub closing_of : List ℕ → Reading
closing_of l = cond (eqb (length l) 0) closing (refused NoFrame)

-- "10: unknown kind, or wrong length for it."
abbrev pub frame : List ℕ → Reading
frame [] = refused NoFrame
frame (kind ∷ l) = cond (eqb kind 1) (opening_of l) (cond (eqb kind 2) (samples_of l) (cond (eqb kind 3) (closing_of l) (refused NoFrame)))

-- "Each line's reading": 9 is tried before 10
unfoldable pub reading : List ℕ → Reading
unfolding well_formed_lem digit
reading l = cond (well_formed_lem l) (frame (bytes (digits l))) (refused Malformed)
