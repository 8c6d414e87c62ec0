use Rattle.reading.proofs.Filling.{Filling}
use Rattle.reading.proofs.samples.fill.Given as goal

abbrev pub invariant-loop-j : goal.invariant-loop-j
invariant-loop-j l = Filling l.line l.n l.initial.flags l.initial.values l.flags l.values l.j
