-- `without_lowest` clears the lowest set bit and keeps the others.
use native.Mathlib.Omega.{arith}
use Rattle.plane.proofs.LowestBit.{without_is}
use Rattle.plane.proofs.without_lowest.Goals as goal

pub returns : goal.returns
returns c = without_is c.args.x (omega arith) (omega arith)
