use Rattle.steps.proofs.Answering.{open-refused, open-accepted}
use Rattle.answers.proofs.opened.Goals as goal

pub returns-in-Err : goal.returns-in-Err
returns-in-Err c =
    let a = c.args in
    open-refused a.p a.at a.out.now c.requires a.opening _ c.open-o.ensures _ c.in-Err.is _ _ c.stopped.ensures

pub returns-in-Ok : goal.returns-in-Ok
returns-in-Ok c =
    let a = c.args in
    open-accepted a.p a.at a.out.now c.requires a.opening _ c.open-o.ensures _ c.in-Ok.is
