-- `keep_part` keeps a part of the values, or none where it is empty.
use native.Mathlib.Omega.{arith}
use Rattle.takes.proofs.Keeping.{keep-none}
use Rattle.takes.proofs.keep_part.Goals as goal

pub returns-else-from-to : goal.returns-else-from-to
returns-else-from-to c =
    let a = c.args in
    keep-none a.recent.now a.values.now a.from a.to (omega arith)
