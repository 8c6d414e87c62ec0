-- `long` answers the ticks in a long run.
use Rattle.edges.proofs.EdgeWords.{drawn_out_are}
use Rattle.edges.proofs.long.Goals as goal

pub returns : goal.returns
returns c = drawn_out_are c.back.ensures c.back-2.ensures c.back-3.ensures c.back-4.ensures c.back-5.ensures c.back-6.ensures
