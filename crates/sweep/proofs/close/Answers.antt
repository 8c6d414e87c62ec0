use mathlib.Core.Path.{sym}
use Rattle.sweep.proofs.Operations.{close-no, close-yes}
use Rattle.sweep.proofs.close.Goals as goal

pub returns-in-Err : goal.returns-in-Err
returns-in-Err c =
    let a = c.args in
    close-no a.p a.out.now _ _ (sym c.in-Err.ensures) c.no_close.ensures

pub returns-in-Ok : goal.returns-in-Ok
returns-in-Ok c =
    let a = c.args in
    close-yes a.p a.out.now _ _ (sym c.in-Ok.ensures) c.close_open.ensures
