-- `bad_byte` tells whether a byte is bad. The invariant: what is seen of the bytes passed, or a bad one among the others, is a bad one at all.
use native.Mathlib.Omega.{arith}
use Rattle.flags.proofs.BadBytes.{seen_first, seen_next, all_seen}
use Rattle.flags.proofs.bad_byte.Goals as goal

pub loop-x-init : goal.loop-x-init
loop-x-init c = seen_first c.args.flags.now

pub loop-x-preserved : goal.loop-x-preserved
loop-x-preserved c =
    let l = c.loop-x in
    seen_next c.args.flags.now l.bits l.pairs l.x-index (omega arith) l.invariant

pub returns : goal.returns
returns c =
    let l = c.loop-x in
    all_seen c.args.flags.now l.bits l.pairs l.x-index (omega arith) l.invariant
