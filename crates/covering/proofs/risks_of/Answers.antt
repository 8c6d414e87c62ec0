-- `risks_of` answers the ticks at which a bracket removes the places' replies.
use Rattle.rules.specs.Replies.{is_phantom}
use Rattle.std.proofs.Common.{rules}
use Rattle.covering.proofs.Starting.{all_tell, risk_tells}
use Rattle.covering.proofs.risks_of.Goals as goal

pub returns : goal.returns
returns c = all_tell is_phantom _ c.args.t.0 (λ r x e. risk_tells c.args.t.0 x r (search rules)) _ c.args.p c.words_of.ensures
