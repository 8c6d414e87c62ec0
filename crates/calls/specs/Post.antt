-- What each operation returns and leaves in its buffer. The equations hold for every processor that belongs to a sweep (`Made`);
-- for a processor value that no calls make, an operation is safe and ends.
use Rattle.std.specs.Prelude.{ℕ, ◌-◌, ◌*◌, ◌≤◌, List, [], ◌≡◌, length}
use Rattle.rules.specs.declared.Opening.{Opening}
use Rattle.rules.specs.Settings.{standard}
use Rattle.rules.specs.Samples.{Trace, ◌⧺◌, nothing}
use Rattle.rules.specs.Buffers.{over}
use Rattle.rules.specs.Machine.{final}
use Rattle.rules.specs.Records.{record_size, records, totals}
use Rattle.rules.specs.Calls.{Answer, accepted, refused, open_answer, take_answer, close_answer, fresh, rest}
use Rattle.rules.specs.declared.Totals.{Totals}
use Rattle.std.specs.Prelude.{Ok, Err}
use Rattle.rules.specs.declared.Counts.{Counts}
use Rattle.processor.specs.declared.Processor.{Processor}
use Rattle.calls.specs.declared.Answered.{Answered}
use Rattle.calls.specs.declared.Closed.{Closed}
use Rattle.processor.specs.State.{Sweep, none, running, processor_of, idle_processor, running_processor, is_open, taken_by, Made}

-- ---- open. "No processor comes back": a refused opening's is the idle one.

abbrev pub open_as : Answer → Opening → Answered
open_as accepted ω = record { answer = Ok 0; processor = running_processor ω nothing }
open_as (refused r) ω = record { answer = Err r; processor = idle_processor }

unfoldable pub open_of : Opening → Answered
unfolding open_answer
open_of ω = open_as (open_answer ω) ω

-- ---- take

-- a sweep with a piece more
abbrev pub longer : Sweep → Trace → Sweep
longer none P = none
longer (running ω T) P = running ω (T ⧺ P)

abbrev pub handed_out : Sweep → Trace → List ℕ
handed_out none P = []
handed_out (running ω T) P = records (fresh standard T P)

abbrev pub count_of : Sweep → Trace → ℕ
count_of none P = 0
count_of (running ω T) P = length (fresh standard T P)

unfoldable pub take_answer_at : Sweep → Trace → ℕ → Answer
unfolding take_answer
take_answer_at σ P room = take_answer (is_open σ) (taken_by σ) P room

abbrev pub take_as : Answer → Sweep → Trace → Answered
take_as accepted σ P = record { answer = Ok (count_of σ P); processor = processor_of (longer σ P) }
take_as (refused r) σ P = record { answer = Err r; processor = processor_of σ }

abbrev pub take_buffer_as : Answer → Sweep → Trace → List ℕ → List ℕ
take_buffer_as accepted σ P b = over (handed_out σ P) b
take_buffer_as (refused r) σ P b = b

pub record TakePost (p : Processor) (P : Trace) (b : List ℕ) (r : Answered) (b' : List ℕ) : Type 0 where
  pub result : (σ : Sweep) → Made σ p → r ≡ take_as (take_answer_at σ P (length b)) σ P
  pub buffer : (σ : Sweep) → Made σ p → b' ≡ take_buffer_as (take_answer_at σ P (length b)) σ P b

-- A piece that nothing turns down: where a sweep is open, flags and values are alike, and the buffer has room for the records that the piece lets out.
pub record TakenPiece (p : Processor) (P : Trace) (b : List ℕ) (r : Answered) (b' : List ℕ) : Type 0 where
  pub done : (ω : Opening) (T : Trace) → Made (running ω T) p → length P.flags ≡ length P.values → record_size * length (fresh standard T P) ≤ length b
      → (r ≡ take_as accepted (running ω T) P) × (b' ≡ take_buffer_as accepted (running ω T) P b)

-- ---- close

unfoldable pub close_answer_at : Sweep → ℕ → Answer
unfolding close_answer
close_answer_at σ room = close_answer (is_open σ) room

abbrev pub no_totals_lem : Totals
no_totals_lem = record { found = 0; replies = 0; sidelobe = 0; garbled = 0; lost = 0; phantoms = 0 }

-- what is left of a sweep, and its totals
abbrev pub left_over : Sweep → List ℕ
left_over none = []
left_over (running ω T) = records (rest standard T)

abbrev pub left_count : Sweep → ℕ
left_count none = 0
left_count (running ω T) = length (rest standard T)

abbrev pub totals_of_lem : Sweep → Totals
totals_of_lem none = no_totals_lem
totals_of_lem (running ω T) = totals (final standard T)

-- a refusal "returns its number alone": the totals beside it are zero
abbrev pub close_as : Answer → Sweep → Closed
close_as accepted σ = record { answer = Ok (left_count σ); totals = totals_of_lem σ; processor = idle_processor }
close_as (refused r) σ = record { answer = Err r; totals = no_totals_lem; processor = processor_of σ }

abbrev pub close_buffer_as : Answer → Sweep → List ℕ → List ℕ
close_buffer_as accepted σ b = over (left_over σ) b
close_buffer_as (refused r) σ b = b

pub record ClosePost (p : Processor) (b : List ℕ) (r : Closed) (b' : List ℕ) : Type 0 where
  pub result : (σ : Sweep) → Made σ p → r ≡ close_as (close_answer_at σ (length b)) σ
  pub buffer : (σ : Sweep) → Made σ p → b' ≡ close_buffer_as (close_answer_at σ (length b)) σ b

-- A close that nothing turns down: where a sweep is open, and the buffer has room for the records that are left.
pub record ClosedOpen (p : Processor) (b : List ℕ) (r : Closed) (b' : List ℕ) : Type 0 where
  pub done : (ω : Opening) (T : Trace) → Made (running ω T) p → record_size * length (rest standard T) ≤ length b
      → (r ≡ close_as accepted (running ω T)) × (b' ≡ close_buffer_as accepted (running ω T) b)

-- the totals, from the counts of the machine
abbrev pub totals_from : Counts → Totals
totals_from c =
    record { found = c.found; replies = c.opened - c.phantoms; sidelobe = c.sidelobe; garbled = c.garbled; lost = c.lost; phantoms = c.phantoms }
