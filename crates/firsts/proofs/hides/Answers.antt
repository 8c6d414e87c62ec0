-- `firsts::hides` meets its contract.
use Rattle.std.proofs.Common.{arith}
use Rattle.firsts.proofs.FirstLaws.{hides_law}
use Rattle.firsts.proofs.hides.Goals as goal

pub returns : goal.returns
returns c =
    let wrappingsubu64 = c.wrapping_sub_u64-d in
    let a = c.args in
    hides_law a.q a.w.0 wrappingsubu64.result c.wrapping_sub_u64.result (omega arith) (omega arith) (omega arith) (omega arith) wrappingsubu64.ensures.value c.wrapping_sub_u64.ensures.value
