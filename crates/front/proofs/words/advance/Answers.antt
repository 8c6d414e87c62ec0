use Rattle.front.proofs.Advancing.{advance_law}
use Rattle.front.proofs.words.advance.Goals as goal

pub returns : goal.returns
returns c = advance_law _ _ _ _ c.requires.1 (record { a = c.slide-a.ensures; a1 = c.slide-a1.ensures; p = c.slide-p.ensures; p1 = c.slide-p1.ensures; n = c.slide-n.ensures; n1 = c.slide-n1.ensures; l1 = c.slide-l1.ensures; k1 = c.slide-k1.ensures; h1 = c.slide-h1.ensures; e1 = c.slide-e1.ensures; e2 = c.slide-e2.ensures; e3 = c.slide-e3.ensures; m = c.slide-m.ensures; m1 = c.slide-m1.ensures; m2 = c.slide-m2.ensures; m3 = c.slide-m3.ensures; found = c.detect_or_skip-d.ensures })
