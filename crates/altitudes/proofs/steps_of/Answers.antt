use native.Mathlib.Omega.{arith}
use Rattle.std.proofs.lemmas.Bool.Decides.{nat_tests}
use Rattle.codes.specs.Altitude.{steps}
use Rattle.altitudes.proofs.AltitudeLaws.{none_is}
use Rattle.altitudes.proofs.steps_of.Goals as goal

pub returns : goal.returns
unfolding steps
returns c = grind (arith, nat_tests, none_is, c.in_ok-h.ensures)
