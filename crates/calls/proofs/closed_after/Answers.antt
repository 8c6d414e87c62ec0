use Rattle.calls.proofs.Closing.{closed_law}
use Rattle.calls.proofs.closed_after.Goals as goal

pub returns : goal.returns
returns c = closed_law _ _ _ _ c.totals_of.ensures c.idle.ensures
