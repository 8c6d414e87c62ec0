-- `turn` swaps bits that stand 7, then 14, then 28 apart.
use Rattle.packing.proofs.Network.{turn_is}
use Rattle.packing.proofs.turn.Goals as goal

pub returns : goal.returns
returns c = turn_is _ _ _ _ c.swap-y.ensures c.swap-z.ensures c.swap.ensures
