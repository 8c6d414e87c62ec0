-- `take_all` takes one piece after the other. The invariant: i ticks are taken, what is due is in the buffer, and the first `kept` values are kept.
use Prim.Native.Nat.{ℕ, ◌+◌}
use native.Mathlib.Omega.{arith}
use mathlib.Core.Path.{refl, ap}
use Rattle.takes.proofs.Taking.{all-bytes}
use Rattle.takes.proofs.Keeping.{late_start, late_fed, late_quiet, late_end}
use Rattle.takes.proofs.take_all.Goals as goal

pub loop-i-init : goal.loop-i-init
loop-i-init c =
    let a = c.args in
    late_start a.p (record { flags = a.flags.now; values = a.values.now }) a.piece a.out.now c.requires.0 c.progress_of-y.result c.progress_of-y.ensures

pub loop-i-preserved-then-is_quiet : goal.loop-i-preserved-then-is_quiet
loop-i-preserved-then-is_quiet c =
    let l = c.loop-i in
    let a = c.args in
    late_quiet a.p (record { flags = a.flags.now; values = a.values.now }) a.piece a.out.now c.requires.0 l.y l.recent l.kept l.at l.i _ l.out l.invariant c.loop-i-test.true (ap (λ (n : ℕ). l.i + n) c.min.ensures) (all-bytes a.values.now (λ k. omega (arith, c.type_inv.values k))) c.first_place-first.result _ c.first_place-first.ensures c.is_quiet.ensures c.if-is_quiet.true

pub loop-i-preserved : goal.loop-i-preserved
loop-i-preserved c =
    let l = c.loop-i in
    let a = c.args in
    late_fed a.p (record { flags = a.flags.now; values = a.values.now }) a.piece a.out.now c.requires.0 l.y l.recent l.kept l.at l.i _ l.out l.invariant c.loop-i-test.true (ap (λ (n : ℕ). l.i + n) c.min.ensures) (all-bytes a.values.now (λ k. omega (arith, c.type_inv.values k))) _ _ c.keep_part.ensures c.keep_part-in-loop-i.ensures c.work-y.result _ _ c.work-y.ensures (omega (arith, c.behind-at.ensures, c.out-1.given)) (omega (arith, c.out-1.given))

pub returns : goal.returns
returns c =
    let l = c.loop-i in
    let a = c.args in
    late_end a.p (record { flags = a.flags.now; values = a.values.now }) a.piece a.out.now c.requires.0 l.y l.recent l.kept l.at l.i _ l.out _ _ (omega arith) refl c.keep_part-2.ensures c.arrived.ensures l.invariant
