use Rattle.std.proofs.Common.{◌≤◌, length}
use Rattle.carrying.proofs.print.Given as goal

abbrev pub invariant-loop : goal.invariant-loop
invariant-loop g l = l.done ≤ length l.bytes
