use Rattle.survey.specs.Post.{Going}
use Rattle.survey.proofs.run.Given as goal

abbrev pub invariant-loop : goal.invariant-loop
invariant-loop g l = Going l.s l.input
