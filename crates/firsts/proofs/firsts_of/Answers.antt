-- `firsts::firsts_of` meets its contract.
use Rattle.firsts.proofs.firsts_of.Goals as goal

pub returns : goal.returns
returns c = λ i. record { a = c.first_of.ensures i; b = c.first_of-2.ensures i; c = c.first_of-3.ensures i; d = c.first_of-4.ensures i }
