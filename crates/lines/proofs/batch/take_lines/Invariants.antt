use Rattle.lines.proofs.Batching.{Going}
use Prim.Native.Nat.{◌-◌}
use Rattle.lines.proofs.batch.take_lines.Given as goal

abbrev pub invariant-loop-done : goal.invariant-loop-done
invariant-loop-done l = Going l.fn.p l.input l.from l.to l.at l.flags l.values l.initial.out l.done.processor l.done.from l.a l.done.at l.out

abbrev pub decreases-loop-done : goal.decreases-loop-done
decreases-loop-done l = l.to - l.done.from
