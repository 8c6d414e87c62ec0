-- The numbers tell refusals apart.
use Prim.Native.Nat.{ℕ}
use lib.Dec.{eqb}
use mathlib.Core.Bool.{cond}
use mathlib.Core.Path.{◌≡◌, refl, sym, ap, ◌∙◌}
use Rattle.rules.specs.declared.Refusal.{Refusal}
use Rattle.rules.specs.declared.Refusal.TheVariants.{Mode, Azimuth, NotOpen, Unequal, PieceLength, SweepLength, NoRoom, BadFlag, Malformed, NoFrame}
use Rattle.rules.specs.Calls.{number_of}

-- the refusal of a number
abbrev numbered : ℕ → Refusal
numbered n =
    cond (eqb n 1) Mode (cond (eqb n 2) Azimuth (cond (eqb n 3) NotOpen (cond (eqb n 4) Unequal (cond (eqb n 5) PieceLength
    (cond (eqb n 6) SweepLength (cond (eqb n 7) NoRoom (cond (eqb n 8) BadFlag (cond (eqb n 9) Malformed NoFrame))))))))

numbered_back : (r : Refusal) → numbered (number_of r) ≡ r
numbered_back Mode = refl
numbered_back Azimuth = refl
numbered_back NotOpen = refl
numbered_back Unequal = refl
numbered_back PieceLength = refl
numbered_back SweepLength = refl
numbered_back NoRoom = refl
numbered_back BadFlag = refl
numbered_back Malformed = refl
numbered_back NoFrame = refl

pub numbers_apart : (r s : Refusal) → number_of r ≡ number_of s → r ≡ s
numbers_apart r s e = sym (numbered_back r) ∙ ap numbered e ∙ numbered_back s
