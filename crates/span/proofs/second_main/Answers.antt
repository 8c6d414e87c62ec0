use Rattle.span.proofs.Spans.{second_is}
use native.Mathlib.Omega.{arith}
use Rattle.span.proofs.second_main.Goals as goal

pub returns : goal.returns
returns c =
    let later = c.later in
    let sooner = c.sooner in
    let a = c.args in
    let good = c.well_formed in
    second_is a.s.at168 a.s.at167 a.i.n (omega (arith, good)) (omega (arith, good)) c.args.i.below _ a.s.main168 a.s.main167 a.s.main169 sooner.result later.result sooner.ensures later.ensures c.marked.ensures
