use Prim.Native.Nat.{◌+◌}
use mathlib.Core.Path.{refl, sym, ◌∙◌}
use lib.ListN.{length}
use borrow.Author.Tests.{leb-true, leb-false}
use Rattle.lines.specs.Batches.{batch_most}
use Rattle.steps.specs.Post.{piece_of}
use Rattle.lines.proofs.Batching.{all-refused, all-accepted, all_without, all_with}
use Rattle.lines.proofs.batch.take_all.Goals as goal

pub returns-then-not-has_room : goal.returns-then-not-has_room
returns-then-not-has_room c =
    let a = c.args in
    all_without a.p (piece_of a.flags.now a.values.now) a.to a.at a.out.now (leb-false (a.at + batch_most) (length a.out.now) (sym c.has_room.ensures ∙ c.if-not-has_room.true))

pub returns-in_default : goal.returns-in_default
returns-in_default c =
    let a = c.args in
    let room = leb-true (a.at + batch_most) (length a.out.now) (sym c.has_room.ensures ∙ c.if-not-has_room.false) in
    all_with a.p (piece_of a.flags.now a.values.now) a.to a.at a.out.now _ _ room (all-refused a.p (piece_of a.flags.now a.values.now) a.to a.at a.out.now room c.requires _ _ refl c.take-t.result c.take-t.ensures _ c.in_default.is)

pub returns : goal.returns
returns c =
    let a = c.args in
    let room = leb-true (a.at + batch_most) (length a.out.now) (sym c.has_room.ensures ∙ c.if-not-has_room.false) in
    all_with a.p (piece_of a.flags.now a.values.now) a.to a.at a.out.now _ _ room (all-accepted a.p (piece_of a.flags.now a.values.now) a.to a.at a.out.now room c.requires _ _ refl c.take-t.result c.take-t.ensures _ c.in-Ok.is _ _ c.reply_lines-end.ensures)
