-- `exchange` puts bits of y among those of x, and bits of x among those of y.
use native.Mathlib.Omega.{arith}
use Rattle.packing.proofs.Network.{reads-low, reads-high}
use Rattle.packing.proofs.exchange.Goals as goal

pub overflow_shr-t : goal.overflow_shr-t
overflow_shr-t c = c.requires.shift

pub overflow_shl-result : goal.overflow_shl-result
overflow_shl-result c = c.requires.shift

pub returns : goal.returns
returns c =
    let a = c.args in
    record {
      low = record { reads = λ X σ τ p q. reads-low a.s a.mask p q (omega arith) c.requires };
      high = record { reads = λ X σ τ p q. reads-high a.s a.mask p q (omega arith) c.requires };
    }
