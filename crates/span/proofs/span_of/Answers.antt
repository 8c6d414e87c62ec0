use Rattle.span.proofs.Spans.{span_law}
use mathlib.Core.Path.{refl}
use Rattle.span.proofs.span_of.Goals as goal

pub returns : goal.returns
returns c = span_law _ _ (record { due = c.due.ensures; at168 = c.at168.ensures; at167 = c.at167.ensures; at169 = refl; main = c.slide.ensures; main168 = c.slide-2.ensures; main167 = c.slide-3.ensures; main169 = c.slide-4.ensures })
