use native.Mathlib.Omega.{arith}
use Rattle.sweep.proofs.Operations.{close-done}
use Rattle.sweep.proofs.close_open.Goals as goal

pub returns : goal.returns
returns c =
    let a = c.args in
    close-done a.p a.out.now _ (λ h. omega arith) _ c.drain-y.result _ c.progress_of.ensures c.drain-y.ensures _ c.closed_after.ensures
