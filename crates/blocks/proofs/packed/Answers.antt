use mathlib.Core.Path.{sym, subst}
use Rattle.packing.specs.Packing.{PackedPart}
use Rattle.blocks.proofs.Feeding.{packed_all, packed-flagless}
use Rattle.blocks.proofs.packed.Goals as goal

pub returns-then-flagless_block : goal.returns-then-flagless_block
returns-then-flagless_block c =
    let a = c.args in
    let d = c.default.ensures in
    subst (PackedPart a.flags.now a.o a.r) (λ j. record { a = sym d.0 j; p = sym d.1.0 j; n = sym d.1.1.0 j; m = sym d.1.1.1 j })
    (packed-flagless a.flags.now a.o a.r c.if-r-eq64.true _ c.flagless_block.ensures c.if-flagless_block.true)

pub returns-then-r-eq64 : goal.returns-then-r-eq64
returns-then-r-eq64 c =
    let a = c.args in
    packed_all a.flags.now a.o a.r c.pack.result c.if-r-eq64.true c.pack.ensures
