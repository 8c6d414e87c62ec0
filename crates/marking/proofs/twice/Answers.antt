-- `marking::twice` meets its contract.
use Rattle.marking.proofs.Marking.{twice_law}
use Rattle.marking.proofs.twice.Goals as goal

pub returns : goal.returns
returns c = twice_law c.args.w
