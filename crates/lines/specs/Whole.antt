-- The whole input, however it is cut into reads: what all scans print is what the survey of the input prints.
use Rattle.std.specs.Prelude.{ℕ, ◌-◌, ◌≤◌, List, [], ◌∷◌, ◌++◌, ◌≡◌, length, take, drop}
use Rattle.processor.specs.declared.Processor.{Processor}
use Rattle.processor.specs.State.{Sweep, idle_processor, Made}
use Rattle.lines.specs.declared.scan.Scan.{Scan}
use Rattle.lines.specs.declared.scan.Scan.TheVariants.{Rest, Stopped, Full as NoRoom}
use Rattle.lines.specs.declared.scan.Scanned.{Scanned}
use Rattle.lines.specs.Survey.{lines_in, survey}
use Rattle.lines.specs.Post.{afterwards, ScanPost}

-- A scan: the bytes read before it, what it was lent, what it answered, and the output as it left it.
pub data Turn : Type 0 where
  turn : (new input : List ℕ) (from at : ℕ) (b : List ℕ) (r : Scanned) (b' : List ℕ) → Turn

-- after a refusal there is no further scan
abbrev pub Then : Scan → List Turn → Type 0 → Type 0
Then Rest ts X = X
Then NoRoom ts X = X
Then (Stopped k) ts X = ts ≡ []

-- Each scan gets the processor that the one before it left, and the bytes that it left with the new ones behind them; it prints behind a
-- place that the buffer has, and does what its contract says.
abbrev pub Chain : Processor → List ℕ → List Turn → Type 0
Chain p held [] = Unit {0}
Chain p held (turn new input from at b r b' ∷ ts) =
    (drop from input ≡ held ++ new) × (at ≤ length b) × ScanPost p input from at b r b' × Then r.scan ts (Chain r.processor (drop r.from input) ts)

-- all bytes read
abbrev pub all_read : List Turn → List ℕ
all_read [] = []
all_read (turn new input from at b r b' ∷ ts) = new ++ all_read ts

-- all bytes printed: of each scan's output, as that scan left it, those from its place on up to the place that it answered
abbrev pub all_printed : List Turn → List ℕ
all_printed [] = []
all_printed (turn new input from at b r b' ∷ ts) = take (r.at - at) (drop at b') ++ all_printed ts

-- how the last scan ended, the processor that it left, and the bytes that it left
abbrev pub last_scan : Scan → List Turn → Scan
last_scan s [] = s
last_scan s (turn new input from at b r b' ∷ ts) = last_scan r.scan ts

abbrev pub last_processor : Processor → List Turn → Processor
last_processor p [] = p
last_processor p (turn new input from at b r b' ∷ ts) = last_processor r.processor ts

abbrev pub last_held : List ℕ → List Turn → List ℕ
last_held held [] = held
last_held held (turn new input from at b r b' ∷ ts) = last_held (drop r.from input) ts

-- Whatever bytes R are still to come, the survey of the whole input prints what was printed, and, unless it has stopped, what the bytes left and R
-- print from the sweep of the processor that was left.
pub record Whole (ts : List Turn) : Type 0 where
  pub next : Sweep
  pub made : Made next (last_processor idle_processor ts)
  pub same : (R : List ℕ) → survey (all_read ts ++ R) ≡ all_printed ts ++ afterwards (last_scan Rest ts) (lines_in (last_held [] ts ++ R)) next

-- for every list of scans from the idle processor on
abbrev pub AnyCutting : Type 0
AnyCutting = (ts : List Turn) → Chain idle_processor [] ts → Whole ts
