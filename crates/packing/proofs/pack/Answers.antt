-- `pack` answers the four planes. Each call's contract says which places its word's bits come from.
use Rattle.packing.proofs.Gathered.{packed-is}
use Rattle.packing.proofs.Network.{inside1, inside2}
use Rattle.packing.proofs.pack.Goals as goal

pub exchange-z0-requires : goal.exchange-z0-requires
exchange-z0-requires c = inside2

pub exchange-z1-requires : goal.exchange-z1-requires
exchange-z1-requires c = inside2

pub exchange-x0-requires : goal.exchange-x0-requires
exchange-x0-requires c = inside1

pub exchange-x2-requires : goal.exchange-x2-requires
exchange-x2-requires c = inside1

pub returns : goal.returns
returns c =
    let z₀ = c.exchange-z0.ensures in
    let z₁ = c.exchange-z1.ensures in
    let x₀ = c.exchange-x0.ensures in
    let x₂ = c.exchange-x2.ensures in
    packed-is c.nibbles-y0.ensures c.nibbles-y1.ensures c.nibbles-y2.ensures c.nibbles-y3.ensures
    z₀.low z₀.high z₁.low z₁.high x₀.low x₀.high x₂.low x₂.high
    c.turn.ensures c.turn-2.ensures c.turn-3.ensures c.turn-4.ensures
