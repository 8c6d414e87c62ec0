-- `settling::fresh` is its definition.
use Rattle.std.proofs.Common.{refl, arith}
use Rattle.settling.proofs.fresh.Goals as goal

pub returns : goal.returns
returns c = record { is = refl; below = omega arith }
