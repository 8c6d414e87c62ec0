-- `replies::ended` meets its contract.
use Rattle.rules.specs.Replies.{ended}
use Rattle.replies.proofs.ended.Goals as goal

pub returns : goal.returns
unfolding ended
returns c = λ r e. rw (e, c.from.ensures, c.from-2.ensures)
