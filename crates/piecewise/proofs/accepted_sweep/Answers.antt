-- `accepted_sweep` closes behind the pieces: the list of all its calls then ends with an accepted close.
use native.Mathlib.Omega.{arith}
use mathlib.Core.Path.{refl}
use Rattle.piecewise.proofs.Piecing.{close_few, swept_all}
use Rattle.piecewise.proofs.accepted_sweep.Goals as goal

pub overflow_add-count : goal.overflow_add-count
overflow_add-count c =
    let a = c.args in
    omega (arith, c.unwrap_or.ensures, close_few a.opening (record { flags = a.flags.now; values = a.values.now }) a.piece a.out.now c.requires c.take_each-t.result.processor c.take_each-t.result.at _ c.take_each-t.ensures (omega (arith, c.out-1.given)) c.close-c.result _ c.close-c.ensures)

pub returns : goal.returns
returns c =
    let a = c.args in
    swept_all a.opening (record { flags = a.flags.now; values = a.values.now }) a.piece a.out.now c.requires c.take_each-t.result.processor c.take_each-t.result.at _ c.take_each-t.ensures (omega (arith, c.out-1.given)) c.close-c.result _ c.close-c.ensures c.unwrap_or.result c.unwrap_or.ensures _ refl
