use mathlib.Core.Path.{sym}
use Rattle.calls.proofs.Opening.{open_no, open-yes}
use Rattle.sweep.proofs.open.Goals as goal

pub returns-in-Err : goal.returns-in-Err
returns-in-Err c = open_no c.args.opening _ _ (sym c.in-Err.ensures) c.opened_with.ensures

pub returns-in-Ok : goal.returns-in-Ok
returns-in-Ok c = open-yes c.args.opening _ (sym c.in-Ok.ensures) c.opened_with-in-Ok.ensures
