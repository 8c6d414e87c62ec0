use Rattle.frames.specs.Writing.{record_lines}
use Rattle.hexadecimal.proofs.Parts.{Putting}
use Rattle.frames.proofs.writing.put_records.Given as goal

abbrev pub invariant-loop-k : goal.invariant-loop-k
invariant-loop-k l = Putting (λ i. record_lines i l.records) l.n l.at l.initial.out l.out l.k
