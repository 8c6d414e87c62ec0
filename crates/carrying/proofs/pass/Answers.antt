use Rattle.std.proofs.Common.{false, sym, subst, take}
use Rattle.carrying.specs.declared.Headway.{Headway}
use Rattle.carrying.specs.Post.{Prints}
use Rattle.carrying.proofs.Printing.{scan-prints, scan-passed, pass_fails}
use Rattle.carrying.proofs.pass.Goals as goal

pub print-requires : goal.print-requires
print-requires g c =
    let a = c.args in
    let scan-lines = c.scan_lines-r in
    let P : Headway → Type 0 = λ x. Prints a.p a.input.now a.from false x (take scan-lines.result.at scan-lines.new.out) in
    subst P (sym c.come_to.ensures) (scan-prints a.p a.input.now a.from _ scan-lines.result _ scan-lines.ensures)

pub returns : goal.returns
returns g c =
    let scan-lines = c.scan_lines-r in
    scan-passed c.args.p c.args.input.now c.args.from _ scan-lines.result _ scan-lines.ensures c.requires

pub returns-in_err-print : goal.returns-in_err-print
returns-in_err-print g c = pass_fails _ _ _ _ c.in_err-print.field-0.0 c.in_err-print.ensures.failing c.from_residual.ensures.1
