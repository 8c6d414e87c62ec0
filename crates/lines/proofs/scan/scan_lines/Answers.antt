use Rattle.lines.proofs.Scanning.{scanning_start, scanning_batch, scanned_rest, scanning_next, scanned_stop, scanned_full}
use native.Mathlib.Omega.{arith}
use Rattle.lines.proofs.scan.scan_lines.Goals as goal

pub loop-end-init : goal.loop-end-init
loop-end-init c =
    let a = c.args in
    scanning_start a.p a.input.now a.from a.at a.out.now

pub shape_of-out-in_default : goal.shape_of-out-in_default
shape_of-out-in_default c = omega (arith, c.out-1.given, c.loop-end.invariant.size)

pub returns-in_default : goal.returns-in_default
returns-in_default c =
    let l = c.loop-end in
    let a = c.args in
    scanned_rest a.p a.input.now a.from a.at a.out.now c.batch-b.result.processor c.batch-b.result.from c.batch-b.result.at _ (scanning_batch a.p a.input.now a.from a.at a.out.now l.q l.i l.place l.out l.invariant c.batch-b.result _ (omega (arith, c.out-1.given)) c.batch-b.ensures) c.in_default.ensures

pub slice_bounds-line_step-count : goal.slice_bounds-line_step-count
slice_bounds-line_step-count c = omega (arith, c.in-Some.ensures.some)

pub slice_bounds-line_step-start : goal.slice_bounds-line_step-start
slice_bounds-line_step-start c = omega (arith, c.in-Some.ensures.some)

pub slice_bounds-line_step-end : goal.slice_bounds-line_step-end
slice_bounds-line_step-end c = omega (arith, c.in-Some.ensures.inside)

pub loop-end-smaller : goal.loop-end-smaller
loop-end-smaller c = omega (arith, c.in-Some.ensures.some, c.in-Some.ensures.inside, c.batch-b.ensures.start)

pub loop-end-preserved : goal.loop-end-preserved
loop-end-preserved c =
    let l = c.loop-end in
    let a = c.args in
    scanning_next a.p a.input.now a.from a.at a.out.now c.batch-b.result.processor c.batch-b.result.from c.batch-b.result.at _ (scanning_batch a.p a.input.now a.from a.at a.out.now l.q l.i l.place l.out l.invariant c.batch-b.result _ (omega (arith, c.out-1.given)) c.batch-b.ensures) _ c.in-Some.ensures _ _ c.line_step-s.ensures _ c.in-Goes.is (omega (arith, c.out-in-loop-end-1.given))

pub shape_of-out-in-Stops : goal.shape_of-out-in-Stops
shape_of-out-in-Stops c = omega (arith, c.out-in-loop-end-1.given, c.out-1.given, c.loop-end.invariant.size)

pub returns-in-Stops : goal.returns-in-Stops
returns-in-Stops c =
    let l = c.loop-end in
    let a = c.args in
    scanned_stop a.p a.input.now a.from a.at a.out.now c.batch-b.result.processor c.batch-b.result.from c.batch-b.result.at _ (scanning_batch a.p a.input.now a.from a.at a.out.now l.q l.i l.place l.out l.invariant c.batch-b.result _ (omega (arith, c.out-1.given)) c.batch-b.ensures) _ c.in-Some.ensures _ _ c.line_step-s.ensures _ _ c.in-Stops.is

pub shape_of-out-in-Full : goal.shape_of-out-in-Full
shape_of-out-in-Full c = omega (arith, c.out-in-loop-end-1.given, c.out-1.given, c.loop-end.invariant.size)

pub returns-in-Full : goal.returns-in-Full
returns-in-Full c =
    let l = c.loop-end in
    let a = c.args in
    scanned_full a.p a.input.now a.from a.at a.out.now c.batch-b.result.processor c.batch-b.result.from c.batch-b.result.at _ (scanning_batch a.p a.input.now a.from a.at a.out.now l.q l.i l.place l.out l.invariant c.batch-b.result _ (omega (arith, c.out-1.given)) c.batch-b.ensures) _ c.in-Some.ensures _ _ c.line_step-s.ensures c.in-Full.is
