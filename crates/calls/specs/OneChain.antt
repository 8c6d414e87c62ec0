-- For every list of pieces and buffers lent after an accepted opening there is exactly one list of calls.
use Rattle.std.specs.Prelude.{List, [], ◌∷◌, map, ◌≡◌, length}
use Rattle.rules.specs.declared.Opening.{Opening}
use Rattle.rules.specs.Lists.{All}
use Rattle.rules.specs.Samples.{nothing}
use Rattle.processor.specs.declared.Processor.{Processor}
use Rattle.processor.specs.State.{Sweep, none, running}
use Rattle.calls.specs.declared.Answered.{Answered}
use Rattle.calls.specs.Post.{longer, take_answer_at, take_as, take_buffer_as, close_answer_at, close_as, close_buffer_as}
use Rattle.calls.specs.Whole.{Request, Bytes, Call, taking, closing, request, Chain, sweep_by, Begins}

-- the call did, at the sweep σ, what document 01 says
abbrev pub DidAt : Sweep → Call → Type 0
DidAt σ (taking P b r b') = (r ≡ take_as (take_answer_at σ P (length b)) σ P) × (b' ≡ take_buffer_as (take_answer_at σ P (length b)) σ P b)
DidAt σ (closing b r b') = (r ≡ close_as (close_answer_at σ (length b)) σ) × (b' ≡ close_buffer_as (close_answer_at σ (length b)) σ b)

-- the sweep after it
abbrev pub sweep_after : Sweep → Call → Sweep
sweep_after σ (taking P b r b') = sweep_by r.answer (longer σ P) σ
sweep_after σ (closing b r b') = sweep_by r.answer none σ

-- each call did so at the sweep that those before it made
abbrev pub AllDid : Sweep → List Call → Type 0
AllDid σ [] = Unit {0}
AllDid σ (c ∷ cs) = DidAt σ c × AllDid (sweep_after σ c) cs

-- For every list of pieces and buffers lent after an accepted opening there is a list of calls that did what document 01 says, and no other list of
-- calls meets the contracts.
pub record OneChain (p : Processor) (ω : Opening) (qs : List Request) : Type 0 where
  pub calls : List Call
  pub asked : map request calls ≡ qs
  pub did : AllDid (running ω nothing) calls
  pub only : (ds : List Call) → map request ds ≡ qs → Chain p ds → ds ≡ calls

abbrev pub EachOneChain : Type 0
EachOneChain = (ω : Opening) (o : Answered) → Begins ω o → (qs : List Request) → All Bytes qs → OneChain o.processor ω qs
