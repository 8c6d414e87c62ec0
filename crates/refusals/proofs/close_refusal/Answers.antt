use Rattle.refusals.proofs.Trying.{close_3, close_7, close-none}
use Rattle.refusals.proofs.close_refusal.Goals as goal

pub returns-then-mode-eq0 : goal.returns-then-mode-eq0
returns-then-mode-eq0 c =
    let a = c.args in
    close_3 a.mode a.room c.if-mode-eq0.true

pub returns-then-room-lt-CLOSE_ROOM : goal.returns-then-room-lt-CLOSE_ROOM
returns-then-room-lt-CLOSE_ROOM c =
    let a = c.args in
    close_7 a.mode a.room c.if-mode-eq0.false c.if-room-lt-CLOSE_ROOM.true

pub returns : goal.returns
returns c =
    let a = c.args in
    close-none a.mode a.room c.if-mode-eq0.false c.if-room-lt-CLOSE_ROOM.false
