use Rattle.frames.proofs.Filling.{Put}
use Rattle.reading.specs.Post.{digit_values}
use Rattle.reading.proofs.samples.put_values.Given as goal

abbrev pub invariant-loop-i : goal.invariant-loop-i
invariant-loop-i l = Put (digit_values l.c-items) l.initial.digits l.digits l.i
