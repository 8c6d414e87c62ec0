-- `settling::taken_in` meets its contract.
use Rattle.settling.proofs.Hearing.{taken_law}
use Rattle.settling.proofs.taken_in.Goals as goal

pub returns : goal.returns
returns c =
    let a = c.args in
    taken_law a.f a.h a.v c.requires _ c.average-g.ensures _ _ c.level_of.ensures c.level_of-2.ensures _ _ _ c.kind_of.ensures c.kind_of-2.ensures c.choose-kind.ensures _ c.from.ensures _ c.estimate_of.ensures _ _ c.choose.ensures c.choose-2.ensures
