use Rattle.ends.proofs.Newlines.{passing_start, passing_next, passing_short, passing_found, passing_end}
use mathlib.Core.Path.{sym, ◌∙◌}
use native.Mathlib.Omega.{arith}
use Rattle.ends.proofs.passed.Goals as goal

pub loop-init : goal.loop-init
loop-init c =
    let a = c.args in
    passing_start a.input.now a.from

pub returns-then-n-i : goal.returns-then-n-i
returns-then-n-i c =
    let l = c.loop in
    let a = c.args in
    passing_short a.input.now a.from l.i l.counter l.invariant (omega arith)

pub returns-then-n-i-lt32 : goal.returns-then-n-i-lt32
returns-then-n-i-lt32 c =
    let l = c.loop in
    let a = c.args in
    passing_short a.input.now a.from l.i l.counter l.invariant (omega arith)

pub returns-then-has_newline : goal.returns-then-has_newline
returns-then-has_newline c =
    let l = c.loop in
    let a = c.args in
    passing_found a.input.now a.from l.i l.counter l.invariant (sym c.has_newline.ensures ∙ c.if-has_newline.true)

pub loop-preserved : goal.loop-preserved
loop-preserved c =
    let l = c.loop in
    let a = c.args in
    passing_next a.input.now a.from l.i l.counter l.invariant (omega arith) (omega arith) (sym c.has_newline.ensures ∙ c.if-has_newline.false)

pub returns : goal.returns
returns c =
    let l = c.loop in
    let a = c.args in
    passing_end a.input.now a.from l.i l.counter l.invariant (omega arith)
