use lib.ListN.{length}
use Rattle.hexadecimal.proofs.Parts.{Putting}
use Rattle.hexadecimal.proofs.Digits.{digits_to}
use Rattle.hexadecimal.proofs.put_bytes.Given as goal

abbrev pub invariant-loop-i : goal.invariant-loop-i
invariant-loop-i l = Putting (digits_to l.body) (length l.body) l.at l.initial.out l.out l.i
