use Rattle.span.proofs.Spans.{apart-is}
use native.Mathlib.Omega.{arith}
use mathlib.Core.Path.{ap₂, ◌∙◌}
use Prim.Native.Nat.{ℕ, ◌+◌, ◌-◌}
use Rattle.span.proofs.apart.Goals as goal

pub returns-clause-is : goal.returns-clause-is
returns-clause-is c =
    let a = c.args in
    let good = c.well_formed in
    ap₂ (λ (x y : ℕ). 168 + x - y) c.from.ensures c.from-2.ensures
    ∙ apart-is a.s.at168 a.s.at167 a.i.n (omega (arith, good)) (omega (arith, good)) a.i.below c.later.result c.sooner.result c.marked.result c.marked-2.result c.later.ensures c.sooner.ensures c.marked.ensures c.marked-2.ensures
