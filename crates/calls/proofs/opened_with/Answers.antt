use Rattle.calls.proofs.Opening.{beside}
use Rattle.calls.proofs.opened_with.Goals as goal

pub returns : goal.returns
returns c = beside c.args.answer c.begun.ensures
