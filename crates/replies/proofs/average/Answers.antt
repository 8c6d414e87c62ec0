-- `replies::average` meets its contract.
use Rattle.rules.specs.Replies.{average}
use Rattle.replies.proofs.average.Goals as goal

pub returns : goal.returns
unfolding average
returns c = rw (c.from.ensures, c.averaged-x.ensures, c.level_of.ensures)
