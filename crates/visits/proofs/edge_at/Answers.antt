-- `visits::edge_at` meets its contract.
use Rattle.visits.proofs.edge_at.Goals as goal

pub returns : goal.returns
returns c = λ j. record { tick = c.args.u; main = c.marked.ensures j; value = c.at.ensures j }
