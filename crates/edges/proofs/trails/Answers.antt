-- `trails` answers the trail shapes.
use Rattle.edges.proofs.Shapes.{falls_are}
use Rattle.edges.proofs.trails.Goals as goal

pub returns : goal.returns
returns c = falls_are c.back.ensures c.back-2.ensures c.back-3.ensures c.back-4.ensures c.back-5.ensures
