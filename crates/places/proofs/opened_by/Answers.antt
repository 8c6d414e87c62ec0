-- `opened_by` meets its contract: F2 where F1 is covered, else F1.
use Rattle.std.proofs.Common.{◌≡◌, cond, not, ◌&&◌}
use Rattle.rules.specs.Machine.{opened_by_lem}
use Rattle.places.proofs.opened_by.Goals.{then-covered, else-covered, then-covered-2, else-covered-2, then-covered-f2, else-covered-f2}
use Rattle.places.proofs.opened_by.Goals as goal

pub returns : goal.returns
unfolding opened_by_lem
returns c =
    let a = c.args in
    let p : c.if-covered.p ≡ cond a.covered a.f2 a.e = elim c.if-covered.branch [ then-covered w ↦ rw (w.p-is, w.if-covered.true) | else-covered w ↦ rw (w.p-is, w.if-covered.false) ] in
    let b : c.if-covered-2.settled ≡ cond a.covered 8192 0 = elim c.if-covered-2.branch [ then-covered-2 w ↦ rw (w.settled-is, w.if-covered-2.true) | else-covered-2 w ↦ rw (w.settled-is, w.if-covered-2.false) ] in
    let n : c.if-covered-f2.unsure ≡ cond (a.covered && not a.f2.main) 8192 0 =
    elim c.if-covered-f2.branch [ then-covered-f2 w ↦ rw (w.unsure-is, w.if-covered-f2.true) | else-covered-f2 w ↦ rw (w.unsure-is, w.if-covered-f2.false) ] in
    rw (c.from.ensures, c.from-2.ensures, p, b, n)
