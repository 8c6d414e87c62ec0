-- `replies::near` meets its contract.
use Rattle.replies.proofs.ReplyLaws.{eight}
use Rattle.rules.specs.Replies.{near}
use Rattle.replies.proofs.near.Goals as goal

pub returns : goal.returns
unfolding near
returns c = rw (eight, c.from-y.ensures)
