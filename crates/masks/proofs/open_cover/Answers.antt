use Rattle.masks.proofs.MaskLaws.{open-cover_law}
use Rattle.masks.proofs.open_cover.Goals as goal

pub returns : goal.returns
returns c = λ q t z. open-cover_law c.args.i.n q t c.args.i.below z
