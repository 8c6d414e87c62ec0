-- `firsts::is_none` meets its contract.
use Rattle.firsts.proofs.FirstLaws.{none_law}
use Rattle.firsts.proofs.is_none.Goals as goal

pub returns : goal.returns
returns c = none_law c.args.q
