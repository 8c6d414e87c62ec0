use Rattle.front.proofs.ValueLaws.{value-piece, value-past, value-lost, value_recent}
use Rattle.front.proofs.values.Values.at.Goals as goal

pub returns-then-k-self : goal.returns-then-k-self
returns-then-k-self c =
    let a = c.args in
    let v = a.self.now in
    value-piece v.recent.now v.base v.piece.now a.t c.if-self-t.true

pub returns-then-self-t : goal.returns-then-self-t
returns-then-self-t c =
    let a = c.args in
    let v = a.self.now in
    value-past v.recent.now v.base v.piece.now a.t c.if-self-t.true c.if-k-self.false

pub returns-then-d-gt256 : goal.returns-then-d-gt256
returns-then-d-gt256 c =
    let a = c.args in
    let v = a.self.now in
    value-lost v.recent.now v.base v.piece.now a.t c.if-self-t.false c.if-d-gt256.true

pub returns : goal.returns
returns c =
    let a = c.args in
    let v = a.self.now in
    value_recent v.recent.now v.base v.piece.now a.t c.if-self-t.false c.if-d-gt256.false
