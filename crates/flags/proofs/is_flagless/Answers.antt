use Rattle.flags.proofs.Flagless.{block_only}
use Rattle.flags.proofs.is_flagless.Goals as goal

pub returns : goal.returns
returns c = block_only c.args.flags.now _ c.told-flags c.fits-flags c.flagless_block.ensures
