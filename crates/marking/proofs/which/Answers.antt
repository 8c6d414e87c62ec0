-- `marking::which` meets its contract.
use mathlib.Core.Path.{ap₂, ◌∙◌}
use Prim.Native.Nat.{ℕ, ◌+◌, ◌*◌}
use Rattle.marking.proofs.Marking.{which_law}
use Rattle.marking.proofs.which.Goals as goal

pub returns-clause-is : goal.returns-clause-is
returns-clause-is c =
    let a = c.args in
    ap₂ (λ (x y : ℕ). x + 2 * y) c.from.ensures c.from-2.ensures ∙ which_law a.w.b a.w.c a.w.d a.i.n _ _ c.marked.ensures c.marked-2.ensures
