use Rattle.survey.proofs.Reading.{past_end, going_carried}
use Rattle.survey.proofs.turn.Goals as goal

pub last-requires : goal.last-requires
last-requires g c = past_end c.args.s _ c.requires _ c.in_ok-n.ensures.stays

pub returns : goal.returns
returns g c = going_carried c.args.s _ c.requires _ c.in_ok-next.next _ c.in_ok-next.ensures
