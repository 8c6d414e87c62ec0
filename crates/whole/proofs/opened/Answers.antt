-- `opened` answers the processor of the opening.
use mathlib.Core.Path.{ap}
use Rattle.calls.specs.declared.Answered.{Answered}
use Rattle.whole.proofs.opened.Goals as goal

pub returns : goal.returns
returns c = ap (λ (x : Answered). x.processor) c.open-o.ensures
