use Rattle.hexadecimal.proofs.Digits.{written-length}
use Rattle.frames.proofs.Printing.{write_none, write_all}
use native.Mathlib.Omega.{arith}
use mathlib.Core.List.{◌∷◌}
use mathlib.Core.Path.{sym, ◌∙◌}
use Rattle.frames.proofs.writing.line.Goals as goal

pub returns-then-not-has_room : goal.returns-then-not-has_room
returns-then-not-has_room c =
    let a = c.args in
    write_none _ a.at a.out.now _ (omega (arith, written-length (a.kind ∷ a.body.now))) (sym c.has_room.ensures ∙ c.if-not-has_room.true)

pub returns : goal.returns
returns c =
    let a = c.args in
    write_all _ a.at a.out.now _ (omega (arith, written-length (a.kind ∷ a.body.now))) (sym c.has_room.ensures ∙ c.if-not-has_room.false) _ c.put_line.ensures
