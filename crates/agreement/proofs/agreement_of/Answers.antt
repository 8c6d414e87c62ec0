-- `agreement_of` asks each place, and then of each the other three.
use Rattle.places.proofs.PlaceLaws.{three-in-turn}
use Rattle.agreement.proofs.Agreeing.{four-alike, agreement_as}
use Rattle.agreement.proofs.agreement_of.Goals as goal

pub returns : goal.returns
returns c =
    let a = c.args in
    let s = c.speaks.result in
    let s2 = c.speaks-2.result in
    let s3 = c.speaks-3.result in
    let s4 = c.speaks-4.result in
    agreement_as a.v a.p _ _ _ _
    (four-alike c.marked.ensures c.marked-2.ensures c.marked-3.ensures c.marked-4.ensures)
    (four-alike c.speaks.ensures c.speaks-2.ensures c.speaks-3.ensures c.speaks-4.ensures)
    (four-alike (three-in-turn s2 s3 s4) (three-in-turn s s3 s4) (three-in-turn s s2 s4) (three-in-turn s s2 s3))
