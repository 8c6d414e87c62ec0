-- `marked` answers bit i.
use mathlib.Core.Path.{refl}
use Rattle.plane.specs.Words.{bit}
use Rattle.plane.proofs.marked.Goals as goal

pub returns : goal.returns
unfolding bit
returns c = refl
