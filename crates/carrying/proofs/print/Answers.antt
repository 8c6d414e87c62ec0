use Rattle.carrying.specs.Failing.{write-failed, turns-used}
use Rattle.carrying.proofs.print.Goals as goal

pub returns-in-Err-2 : goal.returns-in-Err-2
returns-in-Err-2 g c = record { failing = write-failed }

pub returns-in-Err-3 : goal.returns-in-Err-3
returns-in-Err-3 g c = record { failing = write-failed }

pub returns : goal.returns
returns g c = record { failing = turns-used }
