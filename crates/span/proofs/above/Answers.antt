use Rattle.span.proofs.PartLaws.{above_law}
use Rattle.span.proofs.above.Goals as goal

pub returns : goal.returns
returns c = above_law c.args.x c.args.i.n c.args.i.below
