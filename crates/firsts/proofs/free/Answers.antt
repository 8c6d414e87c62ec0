-- `firsts::free` meets its contract.
use Rattle.std.proofs.Common.{true, false, arith}
use Rattle.firsts.proofs.FirstLaws.{free_0, free_1, free_23}
use Rattle.firsts.proofs.free.Goals as goal

pub returns-then-is_none : goal.returns-then-is_none
returns-then-is_none c =
    let isnone = c.is_none in
    record { is = free_0 c.args.f isnone.result isnone.ensures c.if-is_none.true; below = omega arith }

pub returns-then-is_none-2 : goal.returns-then-is_none-2
returns-then-is_none-2 c =
    let isnone2 = c.is_none-2 in
    let isnone = c.is_none in
    record { is = free_1 c.args.f isnone.result isnone2.result isnone.ensures c.if-is_none.false isnone2.ensures c.if-is_none-2.true; below = omega arith }

pub returns-then-is_none-3 : goal.returns-then-is_none-3
returns-then-is_none-3 c =
    let isnone3 = c.is_none-3 in
    let isnone2 = c.is_none-2 in
    let isnone = c.is_none in
    record { is = free_23 c.args.f isnone.result isnone2.result isnone3.result isnone.ensures c.if-is_none.false isnone2.ensures c.if-is_none-2.false isnone3.ensures true c.if-is_none-3.true; below = omega arith }

pub returns : goal.returns
returns c =
    let isnone3 = c.is_none-3 in
    let isnone2 = c.is_none-2 in
    let isnone = c.is_none in
    record { is = free_23 c.args.f isnone.result isnone2.result isnone3.result isnone.ensures c.if-is_none.false isnone2.ensures c.if-is_none-2.false isnone3.ensures false c.if-is_none-3.false; below = omega arith }
