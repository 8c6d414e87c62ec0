use Rattle.flags.proofs.BadBytes.{Seen}
use Rattle.flags.proofs.bad_byte.Given as goal

abbrev pub invariant-loop-x : goal.invariant-loop-x
invariant-loop-x l = Seen l.flags l.bits l.pairs l.x-index
