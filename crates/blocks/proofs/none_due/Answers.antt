-- `none_due` asks the first place.
use Rattle.blocks.proofs.Blank.{none-due_early, none-due_by}
use Rattle.blocks.proofs.none_due.Goals as goal

pub returns-then-t-lt179 : goal.returns-then-t-lt179
returns-then-t-lt179 c =
    let a = c.args in
    none-due_early a.first a.t.0 c.if-t-lt179.true

pub returns : goal.returns
returns c =
    let a = c.args in
    none-due_by a.first a.t.0 c.is_over.result c.if-t-lt179.false c.is_over.ensures
