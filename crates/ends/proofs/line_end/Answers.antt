use Rattle.ends.proofs.Newlines.{passed-at, looking_start, found_newline, found-long, looking_next, looking_past}
use native.Mathlib.Omega.{arith}
use Rattle.ends.proofs.line_end.Goals as goal

pub loop-i-init : goal.loop-i-init
loop-i-init c =
    let args = c.args in
    looking_start args.input.now args.from _ (passed-at args.input.now args.from _ c.passed-i.ensures)

pub overflow_sub-end : goal.overflow_sub-end
overflow_sub-end c = omega (arith, c.loop-i.invariant.start)

pub returns-then-c-eq10 : goal.returns-then-c-eq10
returns-then-c-eq10 c =
    let l = c.loop-i in
    let a = c.args in
    found_newline a.input.now a.from l.i l.invariant (omega arith) c.if-c-eq10.true

pub returns-then-end-from-eq-MOST : goal.returns-then-end-from-eq-MOST
returns-then-end-from-eq-MOST c =
    let l = c.loop-i in
    let a = c.args in
    found-long a.input.now a.from l.i l.invariant (omega arith) c.if-end-from-eq-MOST.true

pub loop-i-preserved : goal.loop-i-preserved
loop-i-preserved c =
    let l = c.loop-i in
    let a = c.args in
    looking_next a.input.now a.from l.i l.invariant (omega arith) c.if-c-eq10.false c.if-end-from-eq-MOST.false

pub returns : goal.returns
returns c =
    let l = c.loop-i in
    let a = c.args in
    looking_past a.input.now a.from l.i (omega arith) l.invariant
