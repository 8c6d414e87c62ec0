-- `nibbles` joins the low nibbles of eight bytes and of the eight bytes 32 later.
use Prim.Native.Nat.{◌+◌}
use Rattle.packing.specs.Packing.{bytes, nibbled}
use Rattle.packing.proofs.Gathered.{moved}
use Rattle.packing.proofs.Network.{inside4}
use Rattle.packing.proofs.nibbles.Goals as goal

pub exchange-requires : goal.exchange-requires
exchange-requires c = inside4

pub returns : goal.returns
unfolding nibbled
returns c =
    let a = c.args in
    record {
      reads = c.exchange.ensures.low.reads (bytes a.flags.now a.o) (λ i. i) (λ i. 256 + i)
          c.eight-x.ensures.reads (moved a.flags.now a.o 32 c.eight-y.ensures.reads);
    }
