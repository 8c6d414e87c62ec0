use mathlib.Core.Path.{refl}
use Rattle.steps.proofs.Answering.{close-step}
use Rattle.answers.proofs.closed.Goals as goal

pub returns : goal.returns
returns c =
    let a = c.args in
    close-step a.p a.at a.out.now c.requires _ _ refl _ c.close-c.ensures _ _ c.show_close.ensures
