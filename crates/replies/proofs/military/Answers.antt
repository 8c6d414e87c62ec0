-- `replies::military` meets its contract.
use Rattle.rules.specs.Replies.{military}
use Rattle.replies.proofs.military.Goals as goal

pub returns : goal.returns
unfolding military
returns c = λ r e. rw (e, c.from-f1.ensures, c.from-at.ensures)
