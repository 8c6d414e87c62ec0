use Rattle.masks.specs.Masks.{Across}
use Rattle.masks.proofs.MaskLaws.{across-none, across_slid}
use native.Mathlib.Omega.{arith}
use mathlib.Core.Path.{sym, subst}
use Prim.Native.Nat.{ℕ}
use Rattle.masks.proofs.across.Goals as goal

pub returns-then-r-eq0 : goal.returns-then-r-eq0
returns-then-r-eq0 c =
    let a = c.args in
    subst (λ (r : ℕ). Across a.first a.second r a.first) (sym c.if-r-eq0.true) (across-none a.first a.second)

pub returns : goal.returns
returns c =
    let a = c.args in
    across_slid a.first a.second a.r _ (omega arith) c.requires c.slide.ensures
