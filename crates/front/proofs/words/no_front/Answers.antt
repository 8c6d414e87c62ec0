-- `no_front` answers words of zeros.
use mathlib.Core.Path.{◌∙◌}
use Rattle.front.proofs.Opening.{no_front}
use Rattle.front.proofs.words.no_front.Goals as goal

pub returns : goal.returns
returns c =
    let d = c.default.ensures in
    (λ j. record { a = d.0 j; a1 = d.1.0 j; p = d.1.1.0 j; p1 = d.1.1.1.0 j; n = d.1.1.1.1.0 j; n1 = d.1.1.1.1.1.0 j; l = d.1.1.1.1.1.1.0 j; l1 = d.1.1.1.1.1.1.1.0 j; k = d.1.1.1.1.1.1.1.1.0 j; k1 = d.1.1.1.1.1.1.1.1.1.0 j; h = d.1.1.1.1.1.1.1.1.1.1.0 j; h1 = d.1.1.1.1.1.1.1.1.1.1.1.0 j; e = d.1.1.1.1.1.1.1.1.1.1.1.1.0 j; e1 = d.1.1.1.1.1.1.1.1.1.1.1.1.1.0 j; e2 = d.1.1.1.1.1.1.1.1.1.1.1.1.1.1.0 j; e3 = d.1.1.1.1.1.1.1.1.1.1.1.1.1.1.1.0 j; m = d.1.1.1.1.1.1.1.1.1.1.1.1.1.1.1.1.0 j; m1 = d.1.1.1.1.1.1.1.1.1.1.1.1.1.1.1.1.1.0 j; m2 = d.1.1.1.1.1.1.1.1.1.1.1.1.1.1.1.1.1.1.0 j; m3 = d.1.1.1.1.1.1.1.1.1.1.1.1.1.1.1.1.1.1.1 j }) ∙ no_front
