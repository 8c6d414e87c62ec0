-- `firsts::first_of` meets its contract.
use Rattle.firsts.proofs.first_of.Goals as goal

pub returns-in-Idle : goal.returns-in-Idle
returns-in-Idle c = rw c.in-Idle.is
