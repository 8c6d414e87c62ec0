use Rattle.refusals.proofs.Trying.{open-low, open-high, open-far, open_none}
use Rattle.refusals.proofs.open_refusal.Goals as goal

pub returns-then-opening-lt1 : goal.returns-then-opening-lt1
returns-then-opening-lt1 c =
    let a = c.args in
    open-low a.opening c.if-opening-lt1.true

pub returns-then-opening-gt3 : goal.returns-then-opening-gt3
returns-then-opening-gt3 c =
    let a = c.args in
    open-high a.opening c.if-opening-lt1.false c.if-opening-gt3.true

pub returns-then-opening-gt16383 : goal.returns-then-opening-gt16383
returns-then-opening-gt16383 c =
    let a = c.args in
    open-far a.opening c.if-opening-lt1.false c.if-opening-gt3.false c.if-opening-gt16383.true

pub returns : goal.returns
returns c =
    let a = c.args in
    open_none a.opening c.if-opening-lt1.false c.if-opening-gt3.false c.if-opening-gt16383.false
