-- `firsts::makes_military` meets its contract.
use Rattle.std.proofs.Common.{arith}
use Rattle.firsts.proofs.FirstLaws.{military_law}
use Rattle.firsts.proofs.makes_military.Goals as goal

pub returns : goal.returns
returns c =
    let a = c.args in
    military_law a.q a.u c.military.result (omega arith) c.military.ensures
