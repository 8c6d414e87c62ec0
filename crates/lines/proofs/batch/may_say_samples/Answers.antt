use Rattle.lines.proofs.Batching.{begins_short, begins_long}
use native.Mathlib.Omega.{arith}
use Rattle.lines.proofs.batch.may_say_samples.Goals as goal

pub returns-then-n-from : goal.returns-then-n-from
returns-then-n-from c =
    let a = c.args in
    begins_short a.input.now a.from (omega arith)

pub returns-then-n-from-lt2 : goal.returns-then-n-from-lt2
returns-then-n-from-lt2 c =
    let a = c.args in
    begins_short a.input.now a.from (omega arith)

pub returns : goal.returns
returns c =
    let a = c.args in
    begins_long a.input.now a.from (omega arith)
