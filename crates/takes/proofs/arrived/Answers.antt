-- `arrived` puts together what is known.
use Rattle.takes.proofs.arrived.Goals as goal

pub returns : goal.returns
returns c =
    let a = c.args in
    λ i. record { processor = c.moved.ensures i; at = a.at }
