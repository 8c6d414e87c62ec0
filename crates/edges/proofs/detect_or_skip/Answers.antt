-- `detect_or_skip` answers the same: where no tick has A nothing is found.
use Rattle.edges.proofs.LowTicks.{skipped_as}
use Rattle.edges.proofs.detect_or_skip.Goals as goal

pub returns-then-a-past-eq0 : goal.returns-then-a-past-eq0
returns-then-a-past-eq0 c =
    let a = c.args in
    record { holds = λ F g q ha hp hn. skipped_as a.past a.a c.if-a-past-eq0.true F g q ha c.default.result c.default.ensures }
