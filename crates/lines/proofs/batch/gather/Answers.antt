use Rattle.lines.proofs.Batching.{so_far_start, so_far_end, so_far_few, so_far_same, so_far_next}
use native.Mathlib.Omega.{arith}
use mathlib.Core.Path.{refl}
use Rattle.lines.proofs.batch.gather.Goals as goal

pub loop-n-init : goal.loop-n-init
loop-n-init c =
    let a = c.args in
    so_far_start a.input.now a.from a.flags.now a.values.now

pub shape_of-flags-in_default : goal.shape_of-flags-in_default
shape_of-flags-in_default c = c.loop-n.invariant.flag-room

pub shape_of-values-in_default : goal.shape_of-values-in_default
shape_of-values-in_default c = c.loop-n.invariant.values_room

pub returns-in_default : goal.returns-in_default
returns-in_default c =
    let l = c.loop-n in
    let a = c.args in
    so_far_end a.input.now a.from a.flags.now a.values.now l.flags l.values l.i l.n l.invariant _ refl refl

pub slice_bounds-add_samples-count : goal.slice_bounds-add_samples-count
slice_bounds-add_samples-count c = omega (arith, c.in-Some.ensures.some)

pub slice_bounds-add_samples-start : goal.slice_bounds-add_samples-start
slice_bounds-add_samples-start c = omega (arith, c.in-Some.ensures.some)

pub slice_bounds-add_samples-end : goal.slice_bounds-add_samples-end
slice_bounds-add_samples-end c = omega (arith, c.in-Some.ensures.inside)

pub add_samples-k-requires : goal.add_samples-k-requires
add_samples-k-requires c = (omega (arith, c.requires.0, c.loop-n.invariant.flag-room), omega (arith, c.requires.1, c.loop-n.invariant.values_room))

pub shape_of-flags-then-k-eq0 : goal.shape_of-flags-then-k-eq0
shape_of-flags-then-k-eq0 c =
    let l = c.loop-n in
    let a = c.args in
    (so_far_same a.input.now a.from a.flags.now a.values.now l.flags l.values l.i l.n l.invariant _ _ _ _ c.add_samples-k.ensures c.if-k-eq0.true).flag-room

pub shape_of-values-then-k-eq0 : goal.shape_of-values-then-k-eq0
shape_of-values-then-k-eq0 c =
    let l = c.loop-n in
    let a = c.args in
    (so_far_same a.input.now a.from a.flags.now a.values.now l.flags l.values l.i l.n l.invariant _ _ _ _ c.add_samples-k.ensures c.if-k-eq0.true).values_room

pub returns-then-k-eq0 : goal.returns-then-k-eq0
returns-then-k-eq0 c =
    let l = c.loop-n in
    let a = c.args in
    so_far_end a.input.now a.from a.flags.now a.values.now _ _ l.i l.n (so_far_same a.input.now a.from a.flags.now a.values.now l.flags l.values l.i l.n l.invariant _ _ _ _ c.add_samples-k.ensures c.if-k-eq0.true) _ refl refl

pub overflow_add-n : goal.overflow_add-n
overflow_add-n c = omega (arith, so_far_few c.args.input.now c.args.from c.args.flags.now c.args.values.now c.loop-n.flags c.loop-n.values c.loop-n.i c.loop-n.n c.loop-n.invariant _ _ _ _ c.add_samples-k.ensures)

pub loop-n-smaller : goal.loop-n-smaller
loop-n-smaller c = omega (arith, c.if-k-eq0.false)

pub loop-n-preserved : goal.loop-n-preserved
loop-n-preserved c =
    let l = c.loop-n in
    let a = c.args in
    so_far_next a.input.now a.from a.flags.now a.values.now l.flags l.values l.i l.n l.invariant _ _ _ _ c.add_samples-k.ensures (omega arith) c.in-Some.ensures c.if-k-eq0.false

pub shape_of-flags : goal.shape_of-flags
shape_of-flags c = c.loop-n.invariant.flag-room

pub shape_of-values : goal.shape_of-values
shape_of-values c = c.loop-n.invariant.values_room

pub returns : goal.returns
returns c =
    let l = c.loop-n in
    let a = c.args in
    so_far_end a.input.now a.from a.flags.now a.values.now l.flags l.values l.i l.n l.invariant _ refl refl
