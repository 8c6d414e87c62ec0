use Rattle.span.proofs.Spans.{bracket-is}
use Rattle.span.proofs.has_bracket.Goals as goal

pub returns : goal.returns
returns c =
    let a = c.args in
    bracket-is _ a.s.at168 a.s.at167 a.s.at169 a.i.n c.marked.ensures
