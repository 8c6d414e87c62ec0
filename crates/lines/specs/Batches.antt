-- Lines of samples that are taken as one piece.
use Rattle.std.specs.Prelude.{Option, Some, None, IfSome, ℕ, ◌+◌, ◌-◌, ◌*◌, ◌≤◌, ◌<◌, Bool, true, false, ◌&&◌, List, [], ◌∷◌, ◌++◌, ◌≡◌, leb, eqb, length, get_or, take, drop}
use Rattle.rules.specs.Lists.{any, All}
use Rattle.rules.specs.Samples.{Trace, bad, sweep_limit, piece_limit}
use Rattle.rules.specs.Buffers.{over-at}
use Rattle.rules.specs.Calls.{Answer, accepted, refused, most_replies, take_room}
use Rattle.processor.specs.declared.Processor.{Processor}
use Rattle.processor.specs.State.{Sweep, is_open, taken_by, processor_of, Sound, Made}
use Rattle.calls.specs.Post.{longer, take_answer_at}
use Rattle.reading.specs.Frames.{Reading, opening, samples, closing, reading, refused as unread}
use Rattle.frames.specs.Writing.{reply_lines_lem, reply_line_size}
use Rattle.ends.specs.Ends.{LineEnd}
use Rattle.lines.specs.declared.batch.Gathering.{Gathering}
use Rattle.lines.specs.declared.batch.Batched.{Batched}
use Rattle.lines.specs.declared.scan.Scan.TheVariants.{Rest}
use Rattle.steps.specs.Outcomes.{fresh_of}
use Rattle.steps.specs.Post.{piece_of}
use Rattle.lines.specs.Survey.{lines_in, surveyed}
use Rattle.lines.specs.Post.{Scans}

-- ---- the samples of lines

-- a line with samples begins with 02
abbrev pub begins_samples : List ℕ → ℕ → Bool
begins_samples input from = leb (from + 2) (length input) && (eqb (get_or input from 0) 48 && eqb (get_or input (from + 1) 0) 50)

-- what a line adds: its samples, and nothing where it says something else
abbrev pub samples_in : Reading → Trace
samples_in (opening ω) = piece_of [] []
samples_in (samples P) = P
samples_in closing = piece_of [] []
samples_in (unread k) = piece_of [] []

pub record AddPost (line : List ℕ) (n : ℕ) (flags values : List ℕ) (r : ℕ) (flags' values' : List ℕ) : Type 0 where
  pub count : r ≡ length (samples_in (reading line)).flags
  pub flag_room : length flags' ≡ length flags
  pub value_room : length values' ≡ length values
  pub flag_bytes : take (n + r) flags' ≡ take n flags ++ (samples_in (reading line)).flags
  pub value_bytes : take (n + r) values' ≡ take n values ++ (samples_in (reading line)).values

-- a sweep that is open, stays within its limit with T, and finds no bad flag byte in it
pub record Takes (σ : Sweep) (T : Trace) : Type 0 where
  pub is_open : is_open σ ≡ true
  pub within : taken_by σ + length T.flags ≤ sweep_limit
  pub good : any bad T.flags ≡ false

-- The lines from `from` to before `to` say samples, and T is all of these end to end: from any sweep on that takes T, whatever bytes R come behind
-- the input, the lines print the replies that T lets out, and then the rest is carried out with the sweep that has taken T.
pub record Gathered (input : List ℕ) (from to : ℕ) (T : Trace) : Type 0 where
  pub start : from ≤ to
  pub reach : from ≤ length input → to ≤ length input
  pub alike : length T.flags ≡ length T.values
  pub bytes : All (λ v. v ≤ 255) T.values
  pub same : (σ : Sweep) → Sound σ → Takes σ T → (R : List ℕ)
      → surveyed (lines_in (drop from input ++ R)) σ ≡ reply_lines_lem (fresh_of σ T) ++ surveyed (lines_in (drop to input ++ R)) (longer σ T)

-- a line with samples: where it ends, and what it says
pub record Told : Type 0 where
  pub end : ℕ
  pub said : Trace

-- these are the lines from one place to before another
abbrev pub Laid : List ℕ → ℕ → List Told → ℕ → Type 0
Laid input from [] to = from ≡ to
Laid input from (l ∷ ls) to = LineEnd input from l.end × (reading (take (l.end - from) (drop from input)) ≡ samples l.said) × Laid input l.end ls to

abbrev pub all_flags : List Told → List ℕ
all_flags [] = []
all_flags (l ∷ ls) = l.said.flags ++ all_flags ls

abbrev pub all_values : List Told → List ℕ
all_values [] = []
all_values (l ∷ ls) = l.said.values ++ all_values ls

-- the samples of the lines from `from` to before `to`, end to end
pub record Parts (input : List ℕ) (from to : ℕ) (flags values : List ℕ) : Type 0 where
  pub lines : List Told
  pub laid : Laid input from lines to
  pub flag_parts : flags ≡ all_flags lines
  pub value_parts : values ≡ all_values lines

pub record GatherPost (input : List ℕ) (from : ℕ) (r : Gathering) (flags values : List ℕ) : Type 0 where
  pub most : r.n ≤ 4096
  pub all : Gathered input from r.end (piece_of (take r.n flags) (take r.n values))
  pub parts : Parts input from r.end (take r.n flags) (take r.n values)

-- ---- the piece

-- the buffer that is lent for it, and the most that it prints
abbrev pub batch_room : ℕ
batch_room = take_room piece_limit

abbrev pub batch_most : ℕ
batch_most = most_replies piece_limit * reply_line_size

-- it is taken and its replies printed, or nothing happens
abbrev pub batch_as : Answer → Sweep → Trace → (to at : ℕ) → Option Batched
batch_as accepted σ T to at = Some (record { processor = processor_of (longer σ T); from = to; at = at + length (reply_lines_lem (fresh_of σ T)) })
batch_as (refused k) σ T to at = None

abbrev pub printed_as : Answer → Sweep → Trace → List ℕ
printed_as accepted σ T = reply_lines_lem (fresh_of σ T)
printed_as (refused k) σ T = []

pub record TookAll (p : Processor) (T : Trace) (to at : ℕ) (b : List ℕ) (r : Option Batched) (b' : List ℕ) : Type 0 where
  pub place : IfSome r (λ s. (s.from ≡ to) × (s.at ≤ length b))
  pub nothing : r ≡ None → b' ≡ b
  pub result : (σ : Sweep) → Made σ p → r ≡ batch_as (take_answer_at σ T batch_room) σ T to at
  pub output : (σ : Sweep) → Made σ p → b' ≡ over-at (printed_as (take_answer_at σ T batch_room) σ T) at b

-- without room for 80 replies of 39 bytes nothing happens
pub record TakeAllPost (p : Processor) (T : Trace) (to at : ℕ) (b : List ℕ) (r : Option Batched) (b' : List ℕ) : Type 0 where
  pub room : at + batch_most ≤ length b → TookAll p T to at b r b'
  pub no_room : length b < at + batch_most → (r ≡ None) × (b' ≡ b)

-- the lines so far are carried out; behind the end of the output nothing happens
pub record BatchPost (p : Processor) (input : List ℕ) (from at : ℕ) (b : List ℕ) (r : Batched) (b' : List ℕ) : Type 0 where
  pub start : from ≤ r.from
  pub reach : from ≤ length input → r.from ≤ length input
  pub inside : at ≤ length b → r.at ≤ length b
  pub past_end : length b < at → (r ≡ record { processor = p; from = from; at = at }) × (b' ≡ b)
  pub scans : (σ : Sweep) → Made σ p → Scans σ input from at b (record { scan = Rest; processor = r.processor; from = r.from; at = r.at }) b'
