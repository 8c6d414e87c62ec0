-- `stays` asks of the planes, then of the words, then of the first place.
use mathlib.Core.Path.{sym, ◌∙◌}
use mathlib.Core.Bool.{◌&&◌}
use Rattle.rules.proofs.Truth.{and_no, and_then}
use Rattle.front.specs.Post.{blank}
use Rattle.blocks.specs.Steps.{flagless, none_due_lem}
use Rattle.blocks.proofs.stays.Goals as goal

pub returns-then-not-is_flagless : goal.returns-then-not-is_flagless
returns-then-not-is_flagless c =
    let a = c.args in
    and_no (flagless a.x) (blank a.f && none_due_lem a.first a.t.0) (sym c.is_flagless.ensures ∙ c.if-not-is_flagless.true)

pub returns-then-not-is_blank : goal.returns-then-not-is_blank
returns-then-not-is_blank c =
    let a = c.args in
    and_then (flagless a.x) (blank a.f && none_due_lem a.first a.t.0) _ (sym c.is_flagless.ensures ∙ c.if-not-is_flagless.false)
    (and_no (blank a.f) (none_due_lem a.first a.t.0) (sym c.is_blank.ensures ∙ c.if-not-is_blank.true))

pub returns : goal.returns
returns c =
    let a = c.args in
    and_then (flagless a.x) (blank a.f && none_due_lem a.first a.t.0) _ (sym c.is_flagless.ensures ∙ c.if-not-is_flagless.false)
    (and_then (blank a.f) (none_due_lem a.first a.t.0) _ (sym c.is_blank.ensures ∙ c.if-not-is_blank.false) c.none_due.ensures)
