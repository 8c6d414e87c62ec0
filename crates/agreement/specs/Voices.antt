-- Which of the four places cover an edge and agree with its value.
use Rattle.std.specs.Prelude.{ℕ, Bool, false, ◌&&◌, List, [], ◌∷◌, get_or}
use Rattle.rules.specs.declared.Place.{Place}
use Rattle.rules.specs.Replies.{agrees}
use Rattle.rules.specs.Settings.{standard}
use Rattle.places.specs.Places.{test, idle, any3}
use Rattle.plane.specs.Words.{bit}
use Rattle.marking.specs.declared.Words.{Words}
use Rattle.agreement.specs.declared.Agreement.{Agreement}

-- those whose word marks tick i
abbrev pub covers_in : Words → ℕ → List Bool
covers_in w i = bit w.a i ∷ bit w.b i ∷ bit w.c i ∷ bit w.d i ∷ []

-- place k of l covers it, by c, and agrees with v
abbrev pub voice_by : ℕ → List Bool → List Place → ℕ → Bool
voice_by v c l k = get_or c k false && test (agrees standard v) (get_or l k idle)

-- of those that cover it the ones that agree with v
abbrev pub voices_by : ℕ → List Bool → List Place → List Bool
voices_by v c l = voice_by v c l 0 ∷ voice_by v c l 1 ∷ voice_by v c l 2 ∷ voice_by v c l 3 ∷ []

-- of three of the four, whether one does
abbrev pub any_of : List Bool → ℕ → ℕ → ℕ → Bool
any_of v j k m = any3 (get_or v j false) (get_or v k false) (get_or v m false)

-- beside each, whether another does
abbrev pub others_of : List Bool → List Bool
others_of v = any_of v 1 2 3 ∷ any_of v 0 2 3 ∷ any_of v 0 1 3 ∷ any_of v 0 1 2 ∷ []

abbrev pub agreement_by : ℕ → List Bool → List Place → Agreement
agreement_by v c l = record { covers = c; own = voices_by v c l; other = others_of (voices_by v c l) }
