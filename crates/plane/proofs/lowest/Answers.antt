-- `lowest` answers the number of the lowest set bit, which a word that is not 0 has.
use native.Mathlib.Omega.{arith}
use Rattle.plane.proofs.LowestBit.{lowest-is}
use Rattle.plane.proofs.lowest.Goals as goal

pub returns : goal.returns
returns c = lowest-is c.args.x (omega arith) (omega arith)
