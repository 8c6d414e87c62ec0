-- `agreement::speaks` meets its contract.
use mathlib.Core.Path.{ap, ◌∙◌}
use lib.Ieee.{Float}
use Rattle.rules.specs.Settings.{standard}
use Rattle.rules.specs.Replies.{near}
use Rattle.agreement.proofs.Agreeing.{speaks-idle, speaks-open}
use Rattle.agreement.proofs.speaks.Goals as goal

pub returns-in-Idle : goal.returns-in-Idle
returns-in-Idle c =
    let a = c.args in
    speaks-idle a.c _ a.p c.in-Idle.is

pub returns-in-Open : goal.returns-in-Open
returns-in-Open c =
    let a = c.args in
    speaks-open a.c a.v a.p _ c.in-Open.is _ (c.near.ensures ∙ ap (λ (z : Float). near standard.window z a.v) c.level_of.ensures)
