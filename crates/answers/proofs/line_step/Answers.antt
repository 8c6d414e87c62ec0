use native.Mathlib.Omega.{arith}
use Prim.Native.Nat.{◌+◌}
use lib.ListN.{length}
use mathlib.Core.Path.{refl, sym, ◌∙◌}
use borrow.Author.Tests.{leb-true}
use Rattle.steps.specs.Post.{line_most}
use Rattle.steps.proofs.Answering.{full_post, flags-lent, values-lent, said-most, step_post}
use Rattle.answers.proofs.line_step.Goals as goal

pub returns-then-not-has_room : goal.returns-then-not-has_room
returns-then-not-has_room c =
    let a = c.args in
    full_post a.p a.line.now a.at a.out.now (sym c.has_room.ensures ∙ c.if-not-has_room.true)

pub slice_bounds-answer_line-end : goal.slice_bounds-answer_line-end
slice_bounds-answer_line-end c = flags-lent c.args.line.now _ _ _ _ _ c.read-said.ensures refl

pub slice_bounds-answer_line-end-2 : goal.slice_bounds-answer_line-end-2
slice_bounds-answer_line-end-2 c = values-lent c.args.line.now _ _ _ _ _ c.read-said.ensures refl

pub answer_line-requires : goal.answer_line-requires
answer_line-requires c =
    let a = c.args in
    (said-most a.line.now _ _ _ _ _ c.read-said.ensures, omega (arith, said-most a.line.now _ _ _ _ _ c.read-said.ensures, flags-lent a.line.now _ _ _ _ _ c.read-said.ensures refl), omega (arith, said-most a.line.now _ _ _ _ _ c.read-said.ensures, values-lent a.line.now _ _ _ _ _ c.read-said.ensures refl), leb-true (a.at + line_most) (length a.out.now) (sym c.has_room.ensures ∙ c.if-not-has_room.false))

pub returns : goal.returns
returns c =
    let a = c.args in
    step_post a.line.now _ _ _ _ _ c.read-said.ensures a.p a.at a.out.now (sym c.has_room.ensures ∙ c.if-not-has_room.false) _ _ c.answer_line.ensures
