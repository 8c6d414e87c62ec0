-- A processor with no tick taken; what the processor of a trace holds.
use native.Mathlib.Omega.{arith}
use mathlib.Core.Path.{◌≡◌, refl, sym, ap, ◌∙◌}
use mathlib.Core.List.{List, [], ◌∷◌}
use lib.ListN.{length, replicate}
use Rattle.rules.specs.declared.Place.{Place}
use Rattle.rules.specs.declared.Counts.{Counts}
use Rattle.rules.specs.declared.Opening.{Opening}
use Rattle.rules.specs.Samples.{Trace, nothing}
use Rattle.rules.specs.Machine.{start, after}
use Rattle.places.specs.Places.{idle}
use Rattle.marking.specs.Marks.{four}
use Rattle.front.specs.declared.words.Front.{Front}
use Rattle.front.specs.Words.{front_of, recent_of}
use Rattle.processor.specs.declared.Processor.{Processor}
use Rattle.processor.specs.Arrays.{listed, machine_in}
use Rattle.processor.specs.State.{machine_after, running_processor, idle_processor}

-- four places are those that their names name
pub all_listed : (l : List Place) → length l ≡ 4 → l ≡ listed (four l)
all_listed (w ∷ x ∷ y ∷ z ∷ []) s = refl
all_listed [] s = absurd (omega arith)
all_listed (w ∷ []) s = absurd (omega arith)
all_listed (w ∷ x ∷ []) s = absurd (omega arith)
all_listed (w ∷ x ∷ y ∷ []) s = absurd (omega arith)
all_listed (w ∷ x ∷ y ∷ z ∷ t ∷ l) s = absurd (omega arith)

pub begun_law : (f : Front) (l : List Place) (c : Counts) → f ≡ front_of [] → l ≡ replicate 4 idle → c ≡ start.counts → (ω : Opening)
    → record { opening = ω; taken = 0; front = f; recent = replicate 256 0; places = l; counts = c } ≡ running_processor ω nothing
unfolding running_processor recent_of after
begun_law f l c ef el ec ω = λ i. record { opening = ω; taken = 0; front = ef i; recent = replicate 256 0; places = el i; counts = ec i }

pub idle_law : (p : Processor) → p ≡ running_processor (record { mode = 0; azimuth = 0 }) nothing → p ≡ idle_processor
unfolding idle_processor
idle_law p e = e

module _ (ω : Opening) (T : Trace) (p : Processor) (e : p ≡ running_processor ω T) where
  pub opening_of_lem : p.opening ≡ ω
  unfolding running_processor
  opening_of_lem = ap (λ (q : Processor). q.opening) e

  pub taken_of : p.taken ≡ length T.flags
  unfolding running_processor
  taken_of = ap (λ (q : Processor). q.taken) e

  pub front_of_lem : p.front ≡ front_of T.flags
  unfolding running_processor
  front_of_lem = ap (λ (q : Processor). q.front) e

  pub recent-of : p.recent ≡ recent_of T.values
  unfolding running_processor
  recent-of = ap (λ (q : Processor). q.recent) e

  pub machine-of : machine_in p.places p.counts ≡ machine_after T
  unfolding running_processor
  machine-of = ap (λ (q : Processor). machine_in q.places q.counts) e

  pub places_of : p.places ≡ listed (machine_after T).places
  unfolding running_processor
  places_of = ap (λ (q : Processor). q.places) e

  -- the places of a processor are four
  pub four_of : p.places ≡ listed (four p.places)
  four_of = places_of ∙ sym (ap (λ (l : List Place). listed (four l)) places_of)
