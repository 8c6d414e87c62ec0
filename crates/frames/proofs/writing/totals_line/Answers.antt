use Rattle.frames.proofs.Printing.{totals-written}
use Rattle.frames.proofs.writing.totals_line.Goals as goal

pub returns : goal.returns
returns c =
    let a = c.args in
    totals-written a.t a.at a.out.now c.totals_bytes.result c.totals_bytes.ensures _ _ c.line.ensures
