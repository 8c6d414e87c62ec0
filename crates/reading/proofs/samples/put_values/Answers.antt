use native.Mathlib.Omega.{arith}
use Rattle.frames.proofs.Filling.{put-start}
use Rattle.reading.specs.Post.{digit_values}
use Rattle.reading.proofs.Filling.{digits_behind, valued_digit, valued_next, valued_end}
use Rattle.reading.proofs.samples.put_values.Goals as goal

pub loop-i-init : goal.loop-i-init
loop-i-init c =
    let a = c.args in
    put-start (digit_values (digits_behind a.line.now a.n)) a.digits.now

pub value-requires : goal.value-requires
value-requires c =
    let a = c.args in
    valued_digit a.line.now a.n c.loop-i.i c.requires.1 c.loop-i-test.true

pub loop-i-preserved : goal.loop-i-preserved
loop-i-preserved c =
    let l = c.loop-i in
    let a = c.args in
    valued_next (digits_behind a.line.now a.n) a.digits.now l.digits l.i _ c.loop-i-test.true (omega arith) c.value.ensures l.invariant

pub returns : goal.returns
returns c =
    let l = c.loop-i in
    let a = c.args in
    valued_end a.line.now a.digits.now l.digits a.n l.i c.requires.1.room c.requires.0 (omega arith) l.invariant
