-- `bad_block` tells whether a byte of 64 is bad: of the or of their words the high bits, of the or of their pairs P with N.
use native.Mathlib.Omega.{arith}
use Rattle.std.proofs.Common.{rules}
use Rattle.flags.proofs.Flagless.{words_by}
use Rattle.flags.proofs.BadBlocks.{none-bad, block_bad, block_only, pairs_by}
use Rattle.flags.proofs.bad_block.Goals as goal

pub returns-then-bits-eq0 : goal.returns-then-bits-eq0
returns-then-bits-eq0 c =
    let f = c.args.flags.now in
    block_only f _ c.told-flags (none-bad f 0 _ 0 (omega arith) c.fits-flags (words_by f 0 _ (λ x y e. search rules) 7 _ c.gather-bits.ensures) c.if-bits-eq0.true)

pub returns : goal.returns
returns c =
    let f = c.args.flags.now in
    block_only f _ c.told-flags (block_bad f 0 _ _ (omega arith) c.fits-flags
    (words_by f 0 _ (λ x y e. search rules) 7 _ c.gather-bits.ensures)
    (pairs_by f 0 _ (λ x y e. search rules) 7 _ c.gather-pairs.ensures))
