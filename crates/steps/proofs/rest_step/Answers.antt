use Rattle.steps.proofs.Rest.{rest_full, rest-stops}
use mathlib.Core.Path.{sym, ◌∙◌}
use Rattle.steps.proofs.rest_step.Goals as goal

pub returns-then-not-has_room : goal.returns-then-not-has_room
returns-then-not-has_room c =
    let a = c.args in
    rest_full a.at a.out.now (sym c.has_room.ensures ∙ c.if-not-has_room.true)

pub returns : goal.returns
returns c =
    let a = c.args in
    rest-stops a.at a.out.now (sym c.has_room.ensures ∙ c.if-not-has_room.false) _ _ c.stop.ensures
