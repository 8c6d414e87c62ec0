use native.Mathlib.Omega.{arith}
use Rattle.codes.specs.Altitude.{altitude}
use Rattle.codes.proofs.PulseLaws.{eleven-clear}
use Rattle.altitudes.proofs.altitude.Goals as goal

pub returns : goal.returns
unfolding altitude
returns c = grind (arith, eleven-clear, c.steps_of.ensures, c.map.ensures, c.ok_or.ensures)
