-- `replies::averaged` meets its contract.
use Rattle.rules.specs.Replies.{averaged}
use Rattle.replies.proofs.ReplyLaws.{half}
use Rattle.replies.proofs.averaged.Goals as goal

pub returns : goal.returns
unfolding averaged
returns c = rw (half, c.from.ensures)
