-- What becomes of a bracket with F1 at e and F2 at w, with M if main, phantoms removed one by one.
use Rattle.std.specs.Prelude.{ℕ, ◌≡◌, Bool, true, false, not, ◌&&◌, ◌||◌, cond, List, Option, Some, None}
use Rattle.rules.specs.declared.Place.{Place}
use Rattle.rules.specs.declared.Pulse.{Pulse}
use Rattle.rules.specs.declared.Counts.{Counts}
use Rattle.rules.specs.declared.Fate.{Fate}
use Rattle.rules.specs.declared.Fate.TheVariants.{Sidelobe, Garbled, Lost, Opens}
use Rattle.rules.specs.Replies.{covers, is_phantom}
use Rattle.rules.specs.Machine.{tally}
use Rattle.replies.specs.Sums.{wrapped}
use Rattle.places.specs.Places.{any_in}
use Rattle.marking.specs.declared.Words.{Words}
use Rattle.marking.specs.Marks.{four, Marked, last_in, last_on}
use Rattle.firsts.specs.declared.Firsts.{Firsts}
use Rattle.outcomes.specs.declared.Outcome.{Outcome}
use Rattle.outcomes.specs.declared.Outcome.TheVariants.{Sidelobe as Aside, Removes, Garbled as Garbles, Lost as Loses, Opens as Opening}
use Rattle.firsts.specs.Ticks.{firsts_of_lem, AllEarly}

-- the phantom of the place goes, if there is one; else y
abbrev pub removes_or : Option ℕ → Outcome → Outcome
removes_or None y = y
removes_or (Some k) y = Removes k

-- By whether a framing pulse has M, by the place of the last phantom, by whether a framing pulse has M and is uncovered, and by whether no place is idle.
abbrev pub outcome_by : Bool → Option ℕ → Bool → Bool → Outcome
outcome_by main k clear busy = cond main (removes_or k (cond clear (cond busy Loses Opening) Garbles)) Aside

-- a framing pulse has M and is uncovered by every open reply
abbrev pub clear_in : Pulse → ℕ → Bool → List Place → Bool
clear_in e w main l =
    (e.main && not (any_in (covers e.tick.0) (four l))) || (main && not (any_in (covers w) (four l)))

-- the place of the phantom that goes
abbrev pub removed_by : Outcome → Option ℕ
removed_by Aside = None
removed_by (Removes k) = Some k
removed_by Garbles = None
removed_by Loses = None
removed_by Opening = None

pub record OutcomePost (f : Firsts) (on risk : Words) (i : ℕ) (e : Pulse) (w : ℕ) (main busy : Bool) (y : Outcome) : Type 0 where
  -- a place that is left is one whose word marks the tick
  pub last : (k : ℕ) → y ≡ Removes k → last_in risk i ≡ Some k
  pub at : (l : List Place) → f ≡ firsts_of_lem l → AllEarly w l → Marked on i (covers e.tick.0) l → Marked risk i (is_phantom e.tick.0) l
      → y ≡ outcome_by (e.main || main) (last_on (is_phantom e.tick.0) l) (clear_in e w main l) busy

abbrev pub is_opening : Outcome → Bool
is_opening Aside = false
is_opening (Removes k) = false
is_opening Garbles = false
is_opening Loses = false
is_opening Opening = true

-- the same of a bracket's fate
abbrev pub is_opens : Fate → Bool
is_opens Sidelobe = false
is_opens Garbled = false
is_opens Lost = false
is_opens Opens = true

abbrev pub phantom_more_lem : Counts → Counts
phantom_more_lem c =
    record { found = c.found; opened = c.opened; sidelobe = c.sidelobe; garbled = c.garbled; lost = c.lost; phantoms = wrapped c.phantoms 1 }

abbrev pub counted_by : Outcome → Counts → Counts
counted_by Aside c = tally wrapped Sidelobe 0 c
counted_by (Removes k) c = phantom_more_lem c
counted_by Garbles c = tally wrapped Garbled 0 c
counted_by Loses c = tally wrapped Lost 0 c
counted_by Opening c = tally wrapped Opens 0 c
