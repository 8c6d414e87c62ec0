-- `outcomes::outcome_of` meets its contract.
use Rattle.std.proofs.Common.{true, false, refl, sym, ◌∙◌, rules}
use Rattle.outcomes.proofs.Outcomes.{outcome_side, outcome_removes, outcome_rest}
use Rattle.outcomes.proofs.outcome_of.Goals as goal

pub returns-then-not-e-main : goal.returns-then-not-e-main
returns-then-not-e-main c =
    let a = c.args in
    outcome_side a.f a.on a.risk a.i.n a.e a.w.0 a.main a.busy c.if-not-e-main.true

pub returns-in-Some : goal.returns-in-Some
returns-in-Some c =
    let a = c.args in
    outcome_removes a.f a.on a.risk a.i.n a.e a.w.0 a.main a.busy c.if-not-e-main.false c.in-Some.k (sym c.in-Some.is ∙ c.last_marked.ensures)

pub returns-then-not-clear : goal.returns-then-not-clear
returns-then-not-clear c =
    let a = c.args in
    outcome_rest a.f a.on a.risk a.i.n a.e a.w.0 a.main a.busy c.if-not-e-main.false c.any_word.result c.marked.result c.any_hides.result false a.busy (search rules) c.any_word.ensures c.marked.ensures c.any_hides.ensures c.if-not-clear.true refl

pub returns-then-busy : goal.returns-then-busy
returns-then-busy c =
    let a = c.args in
    outcome_rest a.f a.on a.risk a.i.n a.e a.w.0 a.main a.busy c.if-not-e-main.false c.any_word.result c.marked.result c.any_hides.result true true (search rules) c.any_word.ensures c.marked.ensures c.any_hides.ensures c.if-not-clear.false c.if-busy.true

pub returns : goal.returns
returns c =
    let a = c.args in
    outcome_rest a.f a.on a.risk a.i.n a.e a.w.0 a.main a.busy c.if-not-e-main.false c.any_word.result c.marked.result c.any_hides.result true false (search rules) c.any_word.ensures c.marked.ensures c.any_hides.ensures c.if-not-clear.false c.if-busy.false
