-- What a line leaves in the processor and in the output.
use Rattle.std.specs.Prelude.{ℕ, ◌+◌, ◌*◌, ◌≤◌, ◌<◌, Bool, true, false, List, ◌≡◌, leb, length, take}
use Rattle.rules.specs.Calls.{number_of, most_left}
use Rattle.rules.specs.Samples.{Trace}
use Rattle.rules.specs.Buffers.{over-at}
use Rattle.processor.specs.declared.Processor.{Processor}
use Rattle.processor.specs.State.{Sweep, processor_of, Made}
use Rattle.reading.specs.Post.{Line}
use Rattle.rules.specs.declared.Refusal.{Refusal}
use Rattle.reading.specs.declared.Frame.{Frame}
use Rattle.reading.specs.declared.Frame.TheVariants.{Open, Samples, Close}
use Rattle.frames.specs.Writing.{first_lines, totals_line_lem, refusal_line_lem, reply_line_size, totals_line_size}
use Rattle.frames.specs.Post.{WritePost}
use Rattle.rules.specs.declared.Totals.{Totals}
use Rattle.calls.specs.Answers.{Answer}
use Rattle.std.specs.Prelude.{Ok, Err}
use Rattle.ends.specs.Ends.{LinePast}
use Rattle.steps.specs.declared.Step.{Step}
use Rattle.steps.specs.declared.Step.TheVariants.{Goes, Stops, Full}
use Rattle.steps.specs.declared.Stepped.{Stepped}
use Rattle.steps.specs.Outcomes.{Outcome, goes, stops, opened_at, taken_at, closed_at, line_at, printed}

-- ---- one line

-- document 01's answer for each outcome: the place behind what is printed, the refusal, the processor of the sweep
abbrev pub stepped_by : Outcome → Processor → ℕ → Stepped
stepped_by (goes σ l) p at = record { step = Goes (at + length l); processor = processor_of σ }
stepped_by (stops k) p at = record { step = Stops k (at + length (refusal_line_lem (number_of k))); processor = p }

-- the most that a line prints: the replies and the totals of a close
abbrev pub line_most : ℕ
line_most = most_left * reply_line_size + totals_line_size

-- the room for it
abbrev pub has_room_lem : ℕ → List ℕ → Bool
has_room_lem at b = leb (at + line_most) (length b)

-- without room nothing happens
abbrev pub stepped_as : Bool → Outcome → Processor → ℕ → Stepped
stepped_as true o p at = stepped_by o p at
stepped_as false o p at = record { step = Full; processor = p }

abbrev pub output_as : Bool → Outcome → ℕ → List ℕ → List ℕ
output_as true o at b = over-at (printed o) at b
output_as false o at b = b

abbrev pub place_of : Step → ℕ → ℕ
place_of (Goes e) at = e
place_of (Stops k e) at = e
place_of Full at = at

pub record StepPost (p : Processor) (line : List ℕ) (at : ℕ) (b : List ℕ) (r : Stepped) (b' : List ℕ) : Type 0 where
  pub inside : at ≤ length b → place_of r.step at ≤ length b
  pub result : (σ : Sweep) → Made σ p → r ≡ stepped_as (has_room_lem at b) (line_at σ line) p at
  pub output : (σ : Sweep) → Made σ p → b' ≡ output_as (has_room_lem at b) (line_at σ line) at b

-- ---- parts of it, with room

-- what is done at each sweep is given by `o`
pub record AnswerPost (o : Sweep → Outcome) (p : Processor) (at : ℕ) (b : List ℕ) (r : Stepped) (b' : List ℕ) : Type 0 where
  pub inside : place_of r.step at ≤ length b
  pub result : (σ : Sweep) → Made σ p → r ≡ stepped_by (o σ) p at
  pub output : (σ : Sweep) → Made σ p → b' ≡ over-at (printed (o σ)) at b

-- a refusal stops the survey, and its number is written from place at on, up to `place`
pub record StopPost (k : Refusal) (at : ℕ) (b : List ℕ) (r : Step) (b' : List ℕ) : Type 0 where
  pub place : ℕ
  pub step : r ≡ Stops k place
  pub prints : WritePost (refusal_line_lem (number_of k)) at b place b'

-- the step of an answer whose lines end at place e
abbrev pub step_of : Answer → ℕ → Step
step_of (Ok n) e = Goes e
step_of (Err k) e = Stops k e

-- for every answer, what is written from place at on, up to place e: the refusal, or the replies
abbrev pub TakePrints : Answer → List ℕ → ℕ → List ℕ → ℕ → List ℕ → Type 0
TakePrints (Ok n) h at b e b' = WritePost (first_lines n h) at b e b'
TakePrints (Err k) h at b e b' = WritePost (refusal_line_lem (number_of k)) at b e b'

pub record TakeShown (a : Answer) (h : List ℕ) (at : ℕ) (b : List ℕ) (r : Step) (b' : List ℕ) : Type 0 where
  pub place : ℕ
  pub step : r ≡ step_of a place
  pub prints : TakePrints a h at b place b'

-- the same for a close, with the totals behind the replies
pub record RepliesThenTotals (n : ℕ) (x : Totals) (h : List ℕ) (at : ℕ) (b : List ℕ) (e : ℕ) (b' : List ℕ) : Type 0 where
  pub middle : ℕ
  pub between : List ℕ
  pub first : WritePost (first_lines n h) at b middle between
  pub then-totals : WritePost (totals_line_lem x) middle between e b'

abbrev pub ClosePrints : Answer → Totals → List ℕ → ℕ → List ℕ → ℕ → List ℕ → Type 0
ClosePrints (Ok n) x h at b e b' = RepliesThenTotals n x h at b e b'
ClosePrints (Err k) x h at b e b' = WritePost (refusal_line_lem (number_of k)) at b e b'

pub record CloseShown (a : Answer) (x : Totals) (h : List ℕ) (at : ℕ) (b : List ℕ) (r : Step) (b' : List ℕ) : Type 0 where
  pub place : ℕ
  pub step : r ≡ step_of a place
  pub prints : ClosePrints a x h at b place b'

abbrev pub piece_of : List ℕ → List ℕ → Trace
piece_of flags values = record { flags = flags; values = values }

-- a frame, and the samples that came with it
abbrev pub frame_at : Frame → List ℕ → List ℕ → Sweep → Outcome
frame_at (Open ω) f v σ = opened_at ω σ
frame_at (Samples n) f v σ = taken_at (piece_of (take n f) (take n v)) σ
frame_at Close f v σ = closed_at σ

abbrev pub said_at : Line → List ℕ → List ℕ → Sweep → Outcome
said_at (Ok x) f v σ = frame_at x f v σ
said_at (Err k) f v σ = stops k

-- how many samples came with it
abbrev pub count_in_lem : Line → ℕ
count_in_lem (Ok (Open ω)) = 0
count_in_lem (Ok (Samples n)) = n
count_in_lem (Ok Close) = 0
count_in_lem (Err k) = 0

-- ---- the end of the input

-- What is left at the end of the input, bytes without a newline, is a last line: what any such line makes of any sweep, and prints.
pub record RestPost (at : ℕ) (b : List ℕ) (r : Step) (b' : List ℕ) : Type 0 where
  pub inside : at ≤ length b → place_of r at ≤ length b
  pub result : (σ : Sweep) (p : Processor) (l : List ℕ) → LinePast l 0 → 0 < length l → record { step = r; processor = p } ≡ stepped_as (has_room_lem at b) (line_at σ l) p at
  pub output : (σ : Sweep) (l : List ℕ) → LinePast l 0 → 0 < length l → b' ≡ output_as (has_room_lem at b) (line_at σ l) at b
