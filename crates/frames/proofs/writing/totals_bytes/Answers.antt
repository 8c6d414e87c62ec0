use native.Mathlib.Omega.{arith}
use mathlib.Core.Path.{refl, ◌∙◌}
use Rattle.frames.proofs.Printing.{totals_next, totals_are}
use Rattle.frames.proofs.writing.totals_bytes.Goals as goal

pub loop-k-init : goal.loop-k-init
loop-k-init c = record { size = refl; so_far = refl }

pub loop-k-preserved : goal.loop-k-preserved
loop-k-preserved c =
    let l = c.loop-k in
    totals_next _ l.bytes _ l.k (omega arith) refl (c.copy_from_slice.ensures.after ∙ c.to_be_bytes.ensures) l.invariant

pub returns : goal.returns
returns c =
    let l = c.loop-k in
    totals_are c.args.t _ _ _ _ _ _ l.bytes l.k l.invariant (omega arith) (omega arith) (omega arith) (omega arith) (omega arith) (omega arith) (omega arith) (omega arith)
