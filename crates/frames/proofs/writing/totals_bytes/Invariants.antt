use Rattle.frames.proofs.Printing.{Totalled}
use Rattle.frames.proofs.writing.totals_bytes.Given as goal

abbrev pub invariant-loop-k : goal.invariant-loop-k
invariant-loop-k l = Totalled l.total-items l.bytes l.k
