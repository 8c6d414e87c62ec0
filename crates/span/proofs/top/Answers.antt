use Rattle.span.proofs.PartLaws.{top_law}
use Rattle.span.proofs.top.Goals as goal

pub returns : goal.returns
returns c = top_law c.args.x c.args.r c.requires.0 c.requires.1
