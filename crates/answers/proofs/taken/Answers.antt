use mathlib.Core.Path.{refl}
use Rattle.steps.specs.Post.{piece_of}
use Rattle.steps.proofs.Answering.{take_step}
use Rattle.answers.proofs.taken.Goals as goal

pub returns : goal.returns
returns c =
    let a = c.args in
    let pre = c.requires in
    take_step a.p a.at a.out.now pre.1 (piece_of a.flags.now a.values.now) pre.0 _ _ refl _ c.take-t.ensures _ _ c.show_take.ensures
