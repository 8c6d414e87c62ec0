use native.Mathlib.Omega.{arith}
use Rattle.frames.proofs.Printing.{records-none, records-all}
use Rattle.frames.proofs.writing.reply_lines.Goals as goal

pub returns-then-room-at : goal.returns-then-room-at
returns-then-room-at c =
    let a = c.args in
    records-none a.records.now a.count _ c.min-n.ensures a.at a.out.now (omega arith)

pub returns-then-room-at-2 : goal.returns-then-room-at-2
returns-then-room-at-2 c =
    let a = c.args in
    records-none a.records.now a.count _ c.min-n.ensures a.at a.out.now (omega arith)

pub returns : goal.returns
returns c =
    let a = c.args in
    records-all a.records.now a.count _ c.min-n.ensures a.at a.out.now (omega arith) _ c.put_records.ensures
