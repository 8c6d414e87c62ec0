-- `no_trail` answers the ticks that no trail follows too soon.
use Rattle.edges.proofs.EdgeWords.{untrailed_are}
use Rattle.edges.proofs.no_trail.Goals as goal

pub returns : goal.returns
returns c = untrailed_are c.back.ensures c.back-2.ensures c.back-3.ensures c.back-4.ensures c.back-5.ensures c.back-6.ensures
