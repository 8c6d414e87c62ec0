use native.Mathlib.Omega.{arith}
use mathlib.Core.Path.{sym}
use Rattle.rules.proofs.Answers.{took}
use Rattle.sweep.proofs.Operations.{take_no, take-yes}
use Rattle.sweep.proofs.take.Goals as goal

pub take_piece-requires : goal.take_piece-requires
take_piece-requires c =
    let a = c.args in
    omega (arith, (took _ a.p.taken (record { flags = a.flags.now; values = a.values.now }) _ (sym c.in-Ok.ensures)).sweep)

pub returns-in-Err : goal.returns-in-Err
returns-in-Err c =
    let a = c.args in
    take_no a.p (record { flags = a.flags.now; values = a.values.now }) a.out.now _ _ (sym c.in-Err.ensures) c.no_take.ensures

pub returns-in-Ok : goal.returns-in-Ok
returns-in-Ok c =
    let a = c.args in
    take-yes a.p (record { flags = a.flags.now; values = a.values.now }) a.out.now _ _ (sym c.in-Ok.ensures) c.take_piece.ensures
