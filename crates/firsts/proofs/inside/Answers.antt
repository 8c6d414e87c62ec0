-- `firsts::inside` meets its contract.
use Rattle.std.proofs.Common.{arith}
use Rattle.firsts.proofs.FirstLaws.{inside_law}
use Rattle.firsts.proofs.inside.Goals as goal

pub returns : goal.returns
returns c =
    let a = c.args in
    inside_law a.c a.q a.u.0 c.wrapping_sub_u64.result (omega arith) (omega arith) (omega arith) c.wrapping_sub_u64.ensures.value
