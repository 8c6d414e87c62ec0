use Rattle.lines.proofs.Batching.{SoFar}
use Prim.Native.Nat.{◌-◌}
use Rattle.lines.proofs.batch.gather.Given as goal

abbrev pub invariant-loop-n : goal.invariant-loop-n
invariant-loop-n l = SoFar l.input l.from l.initial.flags l.initial.values l.flags l.values l.i l.n

abbrev pub decreases-loop-n : goal.decreases-loop-n
decreases-loop-n l = 4096 - l.n
