use Rattle.lines.proofs.Scanning.{Scanning}
use lib.ListN.{length}
use Prim.Native.Nat.{◌-◌}
use Rattle.lines.proofs.scan.scan_lines.Given as goal

abbrev pub invariant-loop-end : goal.invariant-loop-end
invariant-loop-end l = Scanning l.initial.q l.input l.from l.at l.initial.out l.q l.i l.place l.out

abbrev pub decreases-loop-end : goal.decreases-loop-end
decreases-loop-end l = length l.input - l.i
