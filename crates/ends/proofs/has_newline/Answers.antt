use Prim.Native.Nat.{◌+◌, ◌-◌}
use native.Mathlib.Omega.{arith}
use mathlib.Core.Path.{◌≡◌, ap, ◌∙◌}
use lib.ListN.{take, drop}
use lib.Dec.{eqb}
use Rattle.rules.specs.Lists.{any}
use Rattle.ends.proofs.Newlines.{any_newline}
use Rattle.ends.proofs.has_newline.Goals as goal

pub returns : goal.returns
returns c =
    let rest = drop c.args.from c.args.input.now in
    let e : c.args.from + 32 - c.args.from ≡ 32 = omega arith in
    c.contains.ensures.value ∙ any_newline (take (c.args.from + 32 - c.args.from) rest) ∙ ap (λ n. any (λ c. eqb c 10) (take n rest)) e
