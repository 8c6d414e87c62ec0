use Rattle.ends.proofs.Newlines.{Passing}
use Rattle.ends.proofs.passed.Given as goal

abbrev pub invariant-loop : goal.invariant-loop
invariant-loop l = Passing l.input l.from l.i l.counter
