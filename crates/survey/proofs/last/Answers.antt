use Rattle.std.proofs.Common.{refl, arith}
use Rattle.survey.proofs.Reading.{rest-prints}
use Rattle.survey.proofs.last.Goals as goal

pub print-requires : goal.print-requires
print-requires g c =
    let rest-step = c.rest_step in
    rest-prints c.args.s.processor c.args.rest.now _ rest-step.result _ rest-step.ensures c.requires (omega arith) _ _ _ c.in-Stops.is refl
