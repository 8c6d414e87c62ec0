-- `firsts::is_busy` meets its contract.
use Rattle.firsts.proofs.FirstLaws.{busy_law}
use Rattle.firsts.proofs.is_busy.Goals as goal

pub returns : goal.returns
returns c = busy_law c.args.f c.is_none.result c.is_none.ensures
