-- `eight` answers the bits of eight bytes.
use native.Mathlib.Omega.{arith}
use Rattle.packing.proofs.Load.{eight_is}
use Rattle.packing.proofs.eight.Goals as goal

pub returns : goal.returns
returns c = eight_is c.args.flags.now c.args.o _ (λ i. omega (arith, c.type_inv.flags i)) c.from_le_bytes.ensures
