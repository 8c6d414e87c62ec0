-- `drain` feeds 448 zeros.
use native.Mathlib.Omega.{arith}
use Rattle.pieces.proofs.Pieces.{drain_law}
use Rattle.pieces.proofs.drain.Goals as goal

pub work-requires : goal.work-requires
work-requires c = omega (arith, c.requires)

pub shape_of-out : goal.shape_of-out
shape_of-out c = c.work.ensures.same

pub returns : goal.returns
returns c =
    let a = c.args in
    drain_law a.o a.recent.now a.base a.out.now _ _ c.work.ensures
