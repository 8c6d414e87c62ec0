use Rattle.masks.proofs.MaskLaws.{cover_mask_law}
use Rattle.masks.proofs.cover_mask.Goals as goal

pub returns : goal.returns
returns c = cover_mask_law c.args.q.0 c.args.t.0 _ c.shown.ensures
