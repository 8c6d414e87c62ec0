use native.Mathlib.Omega.{arith}
use Rattle.hexadecimal.proofs.Digits.{digits-start, digits-next}
use Rattle.hexadecimal.proofs.put_bytes.Goals as goal

pub loop-i-init : goal.loop-i-init
loop-i-init c =
    let a = c.args in
    digits-start a.body.now a.at a.out.now

pub loop-i-preserved : goal.loop-i-preserved
loop-i-preserved c =
    let l = c.loop-i in
    let a = c.args in
    digits-next a.body.now a.at a.out.now l.out _ l.i c.requires (omega arith) c.put_byte.ensures l.invariant
