-- Demand 3: every list of takes and closes, refused ones included and in any order, from the processor of an accepted opening.
use Rattle.std.specs.Prelude.{ℕ, ◌+◌, ◌≤◌, false, List, [], ◌∷◌, ◌++◌, ◌≡◌, length}
use Rattle.rules.specs.declared.Refusal.TheVariants.{NotOpen}
use Rattle.rules.specs.declared.Opening.{Opening}
use Rattle.rules.specs.Settings.{standard}
use Rattle.rules.specs.Lists.{any, All}
use Rattle.rules.specs.Samples.{Trace, nothing, ◌⧺◌, bad}
use Rattle.rules.specs.Machine.{given, final, brackets_below}
use Rattle.rules.specs.Records.{first_records, records, replies, totals}
use Rattle.rules.specs.Calls.{Answer as RulesAnswer, accepted, refused, handed}
use Rattle.rules.specs.declared.Totals.{Totals}
use Rattle.calls.specs.Answers.{Answer}
use Rattle.std.specs.Prelude.{Ok, Err}
use Rattle.processor.specs.declared.Processor.{Processor}
use Rattle.calls.specs.declared.Answered.{Answered}
use Rattle.calls.specs.declared.Closed.{Closed}
use Rattle.processor.specs.State.{Sweep, none, running, idle_processor, running_processor, Within}
use Rattle.calls.specs.Post.{open_of, longer, take_answer_at, close_answer_at, TakePost, ClosePost}

-- ---- calls

-- What a call asks: a piece to take and the buffer lent for it, or a close with its buffer.
pub data Request : Type 0 where
  to_take : (P : Trace) (b : List ℕ) → Request
  to_close : (b : List ℕ) → Request

-- A call: what it was lent (a piece, a buffer), what it returned, and the buffer as it left it.
pub data Call : Type 0 where
  taking : (P : Trace) (b : List ℕ) (r : Answered) (b' : List ℕ) → Call
  closing : (b : List ℕ) (r : Closed) (b' : List ℕ) → Call

abbrev pub request : Call → Request
request (taking P b r b') = to_take P b
request (closing b r b') = to_close b

-- the values lent are bytes
abbrev pub Bytes : Request → Type 0
Bytes (to_take P b) = All (λ v. v ≤ 255) P.values
Bytes (to_close b) = Unit {0}

-- the call on the processor p did what the contract of its operation says
abbrev pub Meets : Processor → Call → Type 0
Meets p (taking P b r b') = TakePost p P b r b'
Meets p (closing b r b') = ClosePost p b r b'

abbrev pub left : Call → Processor
left (taking P b r b') = r.processor
left (closing b r b') = r.processor

-- "Each take or close gets the processor that the call before it returned, after a refusal the old one."
abbrev pub Chain : Processor → List Call → Type 0
Chain p [] = Unit {0}
Chain p (c ∷ cs) = Bytes (request c) × Meets p c × Chain (left c) cs

-- the processor after all calls
abbrev pub last : Processor → List Call → Processor
last p [] = p
last p (c ∷ cs) = last (left c) cs

-- ---- what the calls say, end to end

abbrev pub piece_by : Answer → Trace → Trace
piece_by (Ok k) P = P
piece_by (Err k) P = nothing

abbrev pub piece : Call → Trace
piece (taking P b r b') = piece_by r.answer P
piece (closing b r b') = nothing

-- "Joined trace: the flags and the values of the accepted pieces, each end to end in call order."
abbrev pub joined_trace : List Call → Trace
joined_trace [] = nothing
joined_trace (c ∷ cs) = piece c ⧺ joined_trace cs

-- "Replies handed out: from each accepted call's buffer, as that call left it, the first records, as many as its count, end to end in call order."
abbrev pub handed_by : Answer → List ℕ → List ℕ
handed_by (Ok k) b' = first_records k b'
handed_by (Err k) b' = []

abbrev pub handed_out : Call → List ℕ
handed_out (taking P b r b') = handed_by r.answer b'
handed_out (closing b r b') = handed_by r.answer b'

abbrev pub all_handed_out : List Call → List ℕ
all_handed_out [] = []
all_handed_out (c ∷ cs) = handed_out c ++ all_handed_out cs

-- the totals of each accepted close
abbrev pub totals_by : Answer → Totals → List Totals
totals_by (Ok k) x = x ∷ []
totals_by (Err k) x = []

abbrev pub totals_in : Call → List Totals
totals_in (taking P b r b') = []
totals_in (closing b r b') = totals_by r.answer r.totals

abbrev pub all_totals : List Call → List Totals
all_totals [] = []
all_totals (c ∷ cs) = totals_in c ++ all_totals cs

-- ---- accepted or refused

-- "A call is accepted exactly when none of its refusal numbers holds", and otherwise returns the first that holds, at the sweep that the calls before it made
abbrev pub answer_by : Answer → RulesAnswer
answer_by (Ok k) = accepted
answer_by (Err k) = refused k

abbrev pub sweep_by : Answer → Sweep → Sweep → Sweep
sweep_by (Ok k) σ' σ = σ'
sweep_by (Err k) σ' σ = σ

abbrev pub Judged : Sweep → List Call → Type 0
Judged σ [] = Unit {0}
Judged σ (taking P b r b' ∷ cs) = (answer_by r.answer ≡ take_answer_at σ P (length b)) × Judged (sweep_by r.answer (longer σ P) σ) cs
Judged σ (closing b r b' ∷ cs) = (answer_by r.answer ≡ close_answer_at σ (length b)) × Judged (sweep_by r.answer none σ) cs

abbrev pub answer : Call → Answer
answer (taking P b r b') = r.answer
answer (closing b r b') = r.answer

-- the calls after the first accepted close
abbrev pub after_by : Answer → List Call → List Call → List Call
after_by (Ok k) cs ds = cs
after_by (Err k) cs ds = ds

abbrev pub after_close : List Call → List Call
after_close [] = []
after_close (taking P b r b' ∷ cs) = after_close cs
after_close (closing b r b' ∷ cs) = after_by r.answer cs (after_close cs)

-- ---- the claim

-- the six totals, and the two sides of their sum
pub record Counted (T : Trace) (x : Totals) : Type 0 where
  pub rules : x ≡ totals (final standard T)
  pub sum : x.found ≡ x.replies + x.sidelobe + x.garbled + x.lost + x.phantoms
  pub brackets : x.found ≡ brackets_below (given standard T) (length T.flags)

pub record Whole (ω : Opening) (p : Processor) (cs : List Call) : Type 0 where
  pub judged : Judged (running ω nothing) cs
  -- the joined trace has no bad byte, a flag and a value for each tick, and stays within the limit of a sweep
  pub good : any bad (joined_trace cs).flags ≡ false
  pub within : Within ω (joined_trace cs)
  -- as long as no close has been accepted, the processor is a function of opening and joined trace, and what was handed out are the replies due
  pub unclosed : all_totals cs ≡ [] → (last p cs ≡ running_processor ω (joined_trace cs)) × (all_handed_out cs ≡ records (handed standard (joined_trace cs)))
  -- once a close has been accepted, it is the only one; replies and totals are those of the joined trace; every later call is refused with 3
  pub closed : (x : Totals) (xs : List Totals) → all_totals cs ≡ x ∷ xs
      → (xs ≡ []) × Counted (joined_trace cs) x × (all_handed_out cs ≡ records (replies (final standard (joined_trace cs)))) × (last p cs ≡ idle_processor)
  pub later : All (λ c. answer c ≡ Err NotOpen) (after_close cs)

-- the processor o of an accepted opening with ω
pub record Begins (ω : Opening) (o : Answered) : Type 0 where
  pub opened : o ≡ open_of ω
  pub count : ℕ
  pub accepts : o.answer ≡ Ok count

pub record Demand3 : Type 0 where
  -- for every list of calls that starts from the processor of an accepted opening
  pub whole : (ω : Opening) (o : Answered) → Begins ω o → (cs : List Call) → Chain o.processor cs → Whole ω o.processor cs
  -- "lists alike in these three leave equal processors"
  pub alike : (ω : Opening) (o : Answered) → Begins ω o → (cs ds : List Call) → Chain o.processor cs → Chain o.processor ds
      → all_totals cs ≡ [] → all_totals ds ≡ [] → joined_trace cs ≡ joined_trace ds → last o.processor cs ≡ last o.processor ds
