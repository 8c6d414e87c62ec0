-- `covers_of` answers the ticks that the places cover.
use Rattle.rules.specs.Replies.{covers}
use Rattle.std.proofs.Common.{rules}
use Rattle.covering.proofs.Starting.{all_tell, cover_tells}
use Rattle.covering.proofs.covers_of.Goals as goal

pub returns : goal.returns
returns c = all_tell covers _ c.args.t.0 (λ r x e. cover_tells c.args.t.0 x r (search rules)) _ c.args.p c.words_of.ensures
