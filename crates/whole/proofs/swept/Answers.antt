use native.Mathlib.Omega.{arith}
use Rattle.whole.proofs.Answering.{clear, whole-accepted}
use Rattle.takes.proofs.Taking.{all-bytes}
use Rattle.whole.proofs.swept.Goals as goal

pub take_all-t-requires : goal.take_all-t-requires
take_all-t-requires c = let h = clear c.args.opening (record { flags = c.args.flags.now; values = c.args.values.now }) c.args.piece c.args.out.now c.args.totals.now c.requires in (h.alike, h.some, h.short)

pub close_at-count-requires : goal.close_at-count-requires
close_at-count-requires c = (omega (arith, c.take_all-t.ensures.inside, c.out-1.given), (clear c.args.opening (record { flags = c.args.flags.now; values = c.args.values.now }) c.args.piece c.args.out.now c.args.totals.now c.requires).totals-room)

pub returns : goal.returns
returns c =
    let a = c.args in
    whole-accepted a.opening (record { flags = a.flags.now; values = a.values.now }) a.piece a.out.now a.totals.now (clear a.opening (record { flags = a.flags.now; values = a.values.now }) a.piece a.out.now a.totals.now c.requires) (all-bytes a.values.now (λ i. omega (arith, c.type_inv.values i))) _ c.opened.ensures _ _ c.take_all-t.ensures _ _ _ c.close_at-count.ensures (omega (arith, c.out-1.given))
