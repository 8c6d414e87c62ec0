-- `edges` answers the edges: the rule of an edge in leads, calm ticks and the chain.
use Rattle.edges.proofs.EdgeWords.{edges_are}
use Rattle.edges.proofs.edges.Goals as goal

pub returns : goal.returns
returns c =
    edges_are c.no_trail-untrailed.ensures c.long-drawn_out.ensures c.back-calm_1.ensures c.back.ensures c.back-2.ensures
    c.back-3.ensures c.back-4.ensures c.back-5.ensures c.back-6.ensures
