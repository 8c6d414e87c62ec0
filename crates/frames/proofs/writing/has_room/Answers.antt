use native.Mathlib.Omega.{arith}
use lib.ListN.{length}
use mathlib.Core.Path.{sym}
use Rattle.frames.proofs.Printing.{fits_not, fits_rest}
use Rattle.frames.proofs.writing.has_room.Goals as goal

pub returns-then-room-at : goal.returns-then-room-at
returns-then-room-at c =
    let a = c.args in
    sym (fits_not a.n a.at a.out.now c.if-room-at.true)

pub returns : goal.returns
returns c =
    let a = c.args in
    fits_rest a.n a.at (length a.out.now) (omega arith)
