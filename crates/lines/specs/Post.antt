-- What the lines of a part of the input leave in the processor and in the output.
use Rattle.std.specs.Prelude.{ℕ, ◌+◌, ◌-◌, ◌≤◌, ◌<◌, List, [], ◌++◌, ◌≡◌, length, take, drop}
use Rattle.steps.specs.Post.{line_most}
use Rattle.rules.specs.Buffers.{over-at}
use Rattle.rules.specs.Calls.{number_of}
use Rattle.rules.specs.declared.Refusal.{Refusal}
use Rattle.processor.specs.declared.Processor.{Processor}
use Rattle.processor.specs.State.{Sweep, Made}
use Rattle.frames.specs.Writing.{refusal_line_lem}
use Rattle.ends.specs.Ends.{LineEnd, LinePast}
use Rattle.steps.specs.Outcomes.{stops, line_at}
use Rattle.lines.specs.declared.scan.Scan.{Scan}
use Rattle.lines.specs.declared.scan.Scan.TheVariants.{Rest, Stopped, Full as NoRoom}
use Rattle.lines.specs.declared.scan.Scanned.{Scanned}
use Rattle.lines.specs.Survey.{lines_in, surveyed}

-- what is printed from here on, unless the survey has stopped
abbrev pub afterwards : Scan → List (List ℕ) → Sweep → List ℕ
afterwards Rest ls σ = surveyed ls σ
afterwards NoRoom ls σ = surveyed ls σ
afterwards (Stopped k) ls σ = []

-- the line that ends before `to` was refused with k, and its `1f` is the last that was printed
pub record StopsWith (k : Refusal) (input : List ℕ) (to : ℕ) (new : List ℕ) (σ : Sweep) : Type 0 where
  pub from : ℕ
  pub line : LineEnd input from to
  pub refused : line_at σ (take (to - from) (drop from input)) ≡ stops k
  pub before : List ℕ
  pub printed-last : new ≡ before ++ refusal_line_lem (number_of k)

abbrev pub WhyEnded : Scan → List ℕ → ℕ → List ℕ → Sweep → Type 0
WhyEnded Rest input to new σ = Unit {0}
WhyEnded NoRoom input to new σ = Unit {0}
WhyEnded (Stopped k) input to new σ = StopsWith k input to new σ

-- From the sweep σ on: `new` was printed, and `next` is the sweep then. Whatever bytes R come behind the input, what the survey prints for both
-- is what was printed, and then what it prints for the rest.
pub record Scans (σ : Sweep) (input : List ℕ) (from at : ℕ) (b : List ℕ) (r : Scanned) (b' : List ℕ) : Type 0 where
  pub new : List ℕ
  pub next : Sweep
  pub made : Made next r.processor
  pub place : r.at ≡ at + length new
  pub output : b' ≡ over-at new at b
  pub why : WhyEnded r.scan input r.from new next
  pub same : (R : List ℕ) → surveyed (lines_in (drop from input ++ R)) σ ≡ new ++ afterwards r.scan (lines_in (drop r.from input ++ R)) next

-- why it came to an end: the rest has no newline and is shorter than a line may be, or the output has no room for what a line may print
abbrev pub Because : Scan → List ℕ → ℕ → ℕ → List ℕ → Type 0
Because Rest input from at b = LinePast input from
Because NoRoom input from at b = length b < at + line_most
Because (Stopped k) input from at b = Unit {0}

pub record ScanPost (p : Processor) (input : List ℕ) (from at : ℕ) (b : List ℕ) (r : Scanned) (b' : List ℕ) : Type 0 where
  pub reach : from ≤ length input → r.from ≤ length input
  pub inside : at ≤ length b → r.at ≤ length b
  pub because : (σ : Sweep) → Made σ p → Because r.scan input r.from r.at b
  pub scans : (σ : Sweep) → Made σ p → Scans σ input from at b r b'
