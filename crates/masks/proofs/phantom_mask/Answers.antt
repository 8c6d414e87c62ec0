use Rattle.masks.proofs.MaskLaws.{no_suspect, phantom_mask_law}
use Rattle.masks.proofs.phantom_mask.Goals as goal

pub returns-then-not-suspect : goal.returns-then-not-suspect
returns-then-not-suspect c =
    let a = c.args in
    no_suspect a.q.0 a.t.0 a.suspect c.if-not-suspect.true

pub returns : goal.returns
returns c =
    let a = c.args in
    phantom_mask_law a.q.0 a.t.0 _ a.suspect c.if-not-suspect.false c.shown.ensures
