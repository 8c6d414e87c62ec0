-- The four places as an array, and what a processor becomes by a piece.
use Rattle.std.specs.Prelude.{ℕ, List, [], ◌∷◌}
use Rattle.rules.specs.declared.Place.{Place}
use Rattle.places.specs.Four.{Places, Machine}
use Rattle.rules.specs.declared.Counts.{Counts}
use Rattle.marking.specs.Marks.{four}
use Rattle.processor.specs.declared.Processor.{Processor}
use Rattle.processor.specs.declared.Progress.{Progress}

-- the four places, as a list
abbrev pub listed : Places → List Place
listed p = p.p0 ∷ (p.p1 ∷ (p.p2 ∷ (p.p3 ∷ [])))

-- the machine of the places and the counts
abbrev pub machine_in : List Place → Counts → Machine
machine_in l c = record { places = four l; counts = c }

-- the machine of how far a piece has come
abbrev pub machine_at : Progress → Machine
machine_at y = machine_in y.places y.counts

-- where a piece, or the zeros past the end, begin: at the start of a buffer
abbrev pub progress_of_lem : Processor → Progress
progress_of_lem p = record { front = p.front; places = p.places; counts = p.counts; at = 0 }

-- the processor that p has become after n ticks
abbrev pub processor_at : Processor → Progress → List ℕ → ℕ → Processor
processor_at p y recent n = record { opening = p.opening; taken = n; front = y.front; recent = recent; places = listed (four y.places); counts = y.counts }
