-- `firsts::is_over` meets its contract.
use Rattle.std.proofs.Common.{arith}
use Rattle.firsts.proofs.FirstLaws.{over_law}
use Rattle.firsts.proofs.is_over.Goals as goal

pub returns : goal.returns
returns c =
    let firstof = c.first_of in
    let a = c.args in
    (over_law firstof.result a.u c.ended.result (omega arith) c.ended.ensures).at a.p firstof.ensures
