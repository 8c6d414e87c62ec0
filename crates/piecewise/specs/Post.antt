-- What a sweep that is opened, taken and closed by calls answers and leaves in its buffer, and the calls on the way.
use Rattle.std.specs.Prelude.{ℕ, ◌≤◌, List, [], ◌≡◌, length}
use Rattle.rules.specs.declared.Opening.{Opening}
use Rattle.rules.specs.Settings.{standard}
use Rattle.rules.specs.Samples.{Trace}
use Rattle.rules.specs.Buffers.{over}
use Rattle.rules.specs.Machine.{final}
use Rattle.rules.specs.Records.{records, replies, totals, totals_size}
use Rattle.rules.specs.Calls.{Answer, accepted, refused}
use Rattle.processor.specs.declared.Processor.{Processor}
use Rattle.std.specs.Prelude.{Ok, Err}
use Rattle.calls.specs.Post.{open_of, no_totals_lem}
use Rattle.calls.specs.Whole.{Call, Chain, last, joined_trace, all_handed_out, all_totals}
use Rattle.whole_refusals.specs.Whole.{whole_answer}
use Rattle.piecewise.specs.declared.Swept.{Swept}

-- ---- the answer

abbrev pub swept_as : Answer → Trace → Swept
swept_as accepted T = record { answer = Ok (length (replies (final standard T))); totals = totals (final standard T) }
swept_as (refused k) T = record { answer = Err k; totals = no_totals_lem }

abbrev pub buffer_as : Answer → Trace → List ℕ → List ℕ
buffer_as accepted T b = over (records (replies (final standard T))) b
buffer_as (refused k) T b = b

-- the answer and the whole buffer, whether the sweep is turned down or not
pub record ByCallsPost (ω : Opening) (T : Trace) (piece : ℕ) (b : List ℕ) (r : Swept) (b' : List ℕ) : Type 0 where
  pub result : r ≡ swept_as (whole_answer ω T piece (length b) totals_size) T
  pub buffer : b' ≡ buffer_as (whole_answer ω T piece (length b) totals_size) T b

-- ---- the calls

-- A list of calls from the processor of the opening: each met its contract, together they took T and no close is among them. They left the processor p,
-- and what they handed out is at the start of the buffer, up to place at.
pub record Calls (ω : Opening) (T : Trace) (b : List ℕ) (p : Processor) (at : ℕ) (b' : List ℕ) : Type 0 where
  pub calls : List Call
  pub chain : Chain (open_of ω).processor calls
  pub leaves : last (open_of ω).processor calls ≡ p
  pub joined : joined_trace calls ≡ T
  pub unclosed : all_totals calls ≡ []
  pub place : at ≡ length (all_handed_out calls)
  pub inside : at ≤ length b
  pub buffer : b' ≡ over (all_handed_out calls) b
