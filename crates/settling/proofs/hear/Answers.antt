-- `settling::hear` meets its contract.
use Rattle.std.proofs.Common.{◌≡◌, ◌*◌, ◌%◌, ◌^◌, cond, arith}
use Rattle.settling.proofs.Hearing.{heard_law}
use Rattle.settling.proofs.hear.Goals.{then-code, else-code, then-sure, else-sure, then-sure-2, else-sure-2}
use Rattle.settling.proofs.hear.Goals as goal

pub returns : goal.returns
returns c =
    let a = c.args in
    let bit = (c.fresh-h.result * 2 ^ c.place-p.result) % 2 ^ 16 in
    let ones : c.if-code.ones ≡ cond c.code_of-code.result bit 0 = elim c.if-code.branch [ then-code w ↦ rw (w.ones-is, w.if-code.true) | else-code w ↦ rw (w.ones-is, w.if-code.false) ] in
    let unsure : c.if-sure.unsure ≡ cond c.sure_of-sure.result 0 bit = elim c.if-sure.branch [ then-sure w ↦ rw (w.unsure-is, w.if-sure.true) | else-sure w ↦ rw (w.unsure-is, w.if-sure.false) ] in
    let taken : c.if-sure-2.taken ≡ cond c.sure_of-sure.result c.fresh-h.result 0 =
    elim c.if-sure-2.branch [ then-sure-2 w ↦ rw (w.taken-is, w.if-sure-2.true) | else-sure-2 w ↦ rw (w.taken-is, w.if-sure-2.false) ] in
    heard_law a.r a.e a.own a.other (record { settled = omega arith; code = omega arith; unsure = omega arith }) _ c.position_of.ensures _ c.place-p.ensures.is _ c.fresh-h.ensures.is
    _ _ c.code_of-code.ensures c.sure_of-sure.ensures _ _ _ ones unsure taken _ c.settle_bit.ensures _ c.taken_in.ensures
