use lib.ListN.{length}
use Rattle.piecewise.proofs.Piecing.{FromOpening}
use Rattle.piecewise.proofs.Turns.{begin}
use Rattle.piecewise.proofs.take_each.Given as goal

abbrev pub invariant-loop-k : goal.invariant-loop-k
invariant-loop-k l = FromOpening (record { flags = l.flags; values = l.values }) l.piece l.initial.out l.initial.p l.p l.at (begin (length l.flags) l.piece l.k) l.out
