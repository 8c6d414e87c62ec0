use mathlib.Core.Path.{sym, ap₂, ◌∙◌}
use mathlib.Core.List.{List, ◌++◌}
use Prim.Native.Nat.{ℕ}
use lib.ListN.{drop}
use Rattle.rules.specs.Buffers.{over}
use Rattle.frames.proofs.Printing.{totals-size}
use Rattle.whole.proofs.put_totals.Goals as goal

pub returns : goal.returns
unfolding over
returns c =
    let a = c.args in
    ap₂ (λ (l : List ℕ) (n : ℕ). l ++ drop n a.totals.now) (c.copy_from_slice.ensures.after ∙ c.totals_bytes.ensures) (sym (totals-size a.t))
