use Prim.Native.Nat.{◌-◌}
use lib.ListN.{length}
use Rattle.takes.proofs.Keeping.{Late}
use Rattle.takes.proofs.take_all.Given as goal

abbrev pub invariant-loop-i : goal.invariant-loop-i
invariant-loop-i l = Late l.p (record { flags = l.flags; values = l.values }) l.piece l.initial.out l.y l.recent l.kept l.at l.i l.out

abbrev pub decreases-loop-i : goal.decreases-loop-i
decreases-loop-i l = length l.flags - l.i
