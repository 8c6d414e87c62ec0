-- `visits::wanted` meets its contract.
use Rattle.visits.proofs.Wanting.{wanted_law}
use Rattle.visits.proofs.wanted.Goals as goal

pub returns : goal.returns
returns c =
    let args = c.args in
    wanted_law args.s args.on args.x _ c.any_word.ensures
