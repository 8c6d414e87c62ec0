use Rattle.calls.proofs.Closing.{no-replies}
use Rattle.calls.proofs.totals_of.Goals as goal

pub returns-then-c : goal.returns-then-c
returns-then-c c = no-replies c.args.c c.if-c.true
