use Rattle.survey.proofs.Reading.{going_start}
use Rattle.survey.proofs.run.Goals as goal

pub loop-init : goal.loop-init
loop-init g c = going_start _ _ c.idle.ensures
