use Rattle.whole.proofs.Closing.{closed-refused, closed-accepted}
use Rattle.whole.proofs.close_at.Goals as goal

pub returns-in-Err : goal.returns-in-Err
returns-in-Err c =
    let a = c.args in
    closed-refused a.p a.at a.out.now c.requires.0 _ _ c.close_open-c.ensures a.totals.now _ _ c.in-Err.is

pub returns-in-Ok : goal.returns-in-Ok
returns-in-Ok c =
    let a = c.args in
    closed-accepted a.p a.at a.out.now c.requires.0 _ _ c.close_open-c.ensures a.totals.now _ c.put_totals.ensures _ _ c.in-Ok.is c.min.ensures
