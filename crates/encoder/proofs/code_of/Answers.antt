use native.Mathlib.Omega.{arith}
use mir.ValLaws.{to_z-of_z}
use Rattle.codes.specs.Writing.{code_of}
use Rattle.encoder.proofs.code_of.Goals as goal

pub returns : goal.returns
unfolding code_of
returns c = grind (arith, to_z-of_z, c.steps_of.ensures, c.map.ensures)
