-- `firsts::any_hides` meets its contract.
use Rattle.places.proofs.PlaceLaws.{four-in-turn}
use Rattle.firsts.proofs.FirstLaws.{any-hides_law}
use Rattle.firsts.proofs.any_hides.Goals as goal

pub returns : goal.returns
returns c =
    let hides4 = c.hides-4 in
    let hides3 = c.hides-3 in
    let hides2 = c.hides-2 in
    let hides = c.hides in
    let a = c.args in
    any-hides_law a.f a.w.0 hides.result hides2.result hides3.result hides4.result _ hides.ensures hides2.ensures hides3.ensures hides4.ensures (four-in-turn hides.result hides2.result hides3.result hides4.result)
