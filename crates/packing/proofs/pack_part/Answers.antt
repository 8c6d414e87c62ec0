-- `pack_part` packs a block of 64 bytes, of which the first r are the flags.
use Rattle.packing.proofs.Parts.{copied_part, part-packed}
use Rattle.packing.proofs.pack_part.Goals as goal

pub returns : goal.returns
returns c =
    let a = c.args in
    part-packed a.flags.now a.o _ a.r c.pack.result c.requires.1 (copied_part a.flags.now a.o a.r _ c.requires.0 c.requires.1 c.copy_from_slice.ensures.after) c.pack.ensures
