-- The altitude of a mode C reply, in feet.
use Rattle.std.specs.Prelude.{ℕ, suc, ◌+◌, ◌-◌, ◌*◌, Bool, ◌||◌, cond, List, [], ◌∷◌, ◌++◌, eqb, ℤ, pos, neg_ℤ, ◌-ℤ◌, ◌*ℤ◌, Result, Ok, Err}
use Rattle.std.specs.Int.Signed.{lt_z}
use Rattle.rules.specs.Samples.{odd, bit}
use Rattle.codes.specs.declared.Unread.{Unread}
use Rattle.codes.specs.declared.Unread.TheVariants.{Unsure, NoAltitude}
use Rattle.codes.specs.Pulses.{C1, A1, C2, A2, C4, A4, B1, D1, B2, D2, B4, D4, digits_at, any_clear, weighted}
use Rattle.codes.specs.Gray.{gray}

-- the eight pulses that count 500 ft, highest first, the three that count 100 ft, and all eleven
abbrev pub eight : List ℕ
eight = D2 ∷ D4 ∷ A1 ∷ A2 ∷ A4 ∷ B1 ∷ B2 ∷ B4 ∷ []

abbrev pub three : List ℕ
three = C1 ∷ C2 ∷ C4 ∷ []

abbrev pub eleven : List ℕ
eleven = eight ++ three

-- n, the number of whole 500 ft: the eight are its Gray code
unfoldable pub five_hundreds_lem : ℕ → ℕ
five_hundreds_lem code = gray (digits_at eight code)

-- C1 C2 C4 as a number of three digits, and the five groups that count 100 ft
abbrev pub group : ℕ → ℕ
group code = weighted C1 C2 C4 code

abbrev pub groups : List ℕ
groups = 0b001 ∷ 0b011 ∷ 0b010 ∷ 0b110 ∷ 0b100 ∷ []

-- the place of g in a list whose first place has the number k; 0 if it is not there
abbrev pub place_from : ℕ → List ℕ → ℕ → ℕ
place_from k [] g = 0
place_from k (x ∷ l) g = cond (eqb g x) k (place_from (suc k) l g)

-- h, from 1 to 5; 0 for another group
abbrev pub hundreds : ℕ → ℕ
hundreds g = place_from 1 groups g

-- for odd n, h is counted the other way: 6 - h
abbrev pub turned : ℕ → ℕ → ℕ
turned n h = cond (odd n) (6 - h) h

-- 5 n + h
abbrev pub steps_by : ℕ → ℕ → ℕ
steps_by n h = 5 * n + turned n h

unfoldable pub steps : ℕ → ℕ
unfolding five_hundreds_lem
steps code = steps_by (five_hundreds_lem code) (hundreds (group code))

-- 100 (5 n + h - 13) ft
abbrev pub feet_at_lem : ℕ → ℤ
feet_at_lem s = pos 100 *ℤ (pos s -ℤ pos 13)

-- the lowest altitude, -1,000 ft
abbrev pub lowest : ℤ
lowest = neg_ℤ (pos 1000)

-- no altitude: another C group, D1 set, or below -1,000 ft
unfoldable pub has_none : ℕ → Bool
unfolding steps
has_none code = eqb (hundreds (group code)) 0 || (bit D1 code || lt_z (feet_at_lem (steps code)) lowest)

-- feet; or unsure, whatever the code says, if one of the eleven has confidence 0; or no altitude
unfoldable pub altitude : ℕ → ℕ → Result ℤ Unread
unfolding has_none steps
altitude code confidence = cond (any_clear eleven confidence) (Err Unsure) (cond (has_none code) (Err NoAltitude) (Ok (feet_at_lem (steps code))))
