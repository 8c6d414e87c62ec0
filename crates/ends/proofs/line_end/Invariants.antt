use Rattle.ends.proofs.Newlines.{Looking}
use Rattle.ends.proofs.line_end.Given as goal

abbrev pub invariant-loop-i : goal.invariant-loop-i
invariant-loop-i l = Looking l.input l.from l.i
