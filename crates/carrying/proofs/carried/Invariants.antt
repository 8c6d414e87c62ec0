use Rattle.std.proofs.Common.{◌≡◌, take}
use Rattle.carrying.proofs.Carrying.{Carrying}
use Rattle.carrying.proofs.carried.Given as goal

abbrev pub invariant-loop : goal.invariant-loop
invariant-loop g l = (l.input ≡ l.initial.input) × Carrying l.s.processor (take l.n l.input) l.p l.from
