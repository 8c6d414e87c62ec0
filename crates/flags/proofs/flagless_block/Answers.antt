-- `flagless_block` tells whether no byte of 64 has a bit: the or of their eight words is 0.
use Rattle.std.proofs.Common.{rules}
use Rattle.flags.proofs.Flagless.{words_by, flagless-is}
use Rattle.flags.proofs.flagless_block.Goals as goal

pub returns : goal.returns
returns c =
    let a = c.args in
    flagless-is a.flags.now a.o _ (words_by a.flags.now a.o _ (λ x y e. search rules) 7 _ c.gather.ensures)
