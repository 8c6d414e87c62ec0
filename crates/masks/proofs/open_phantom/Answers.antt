use Rattle.masks.proofs.MaskLaws.{open-phantom_law, no_suspect}
use Rattle.masks.proofs.open_phantom.Goals as goal

pub returns-then-not-suspect : goal.returns-then-not-suspect
returns-then-not-suspect c = λ q t z. no_suspect q t c.args.suspect c.if-not-suspect.true

pub returns : goal.returns
returns c =
    let a = c.args in
    λ q t z. open-phantom_law a.i.n q t a.suspect c.if-not-suspect.false c.args.i.below z
