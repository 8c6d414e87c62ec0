use Rattle.lines.proofs.Batching.{batch-nothing, all-batch, line_by_line}
use Rattle.lines.proofs.batch.batch.Goals as goal

pub returns-then-not-has_room : goal.returns-then-not-has_room
returns-then-not-has_room c =
    let a = c.args in
    batch-nothing a.p a.input.now a.from a.at a.out.now

pub returns-then-not-may_say_samples : goal.returns-then-not-may_say_samples
returns-then-not-may_say_samples c =
    let a = c.args in
    batch-nothing a.p a.input.now a.from a.at a.out.now

pub returns-in-Some : goal.returns-in-Some
returns-in-Some c =
    let a = c.args in
    all-batch a.p _ _ a.at a.out.now _ _ c.take_all.ensures _ c.in-Some.is a.input.now a.from c.gather-g.ensures.all

pub returns : goal.returns
returns c =
    let a = c.args in
    line_by_line a.p _ _ a.at a.out.now _ _ c.take_all.ensures c.in_default.is a.input.now a.from _ _ c.take_lines.ensures
