-- `firsts::any_inside` meets its contract.
use Rattle.places.proofs.PlaceLaws.{four-in-turn}
use Rattle.firsts.proofs.FirstLaws.{any-inside_law}
use Rattle.firsts.proofs.any_inside.Goals as goal

pub returns : goal.returns
returns c =
    let inside4 = c.inside-4 in
    let marked4 = c.marked-4 in
    let inside3 = c.inside-3 in
    let marked3 = c.marked-3 in
    let inside2 = c.inside-2 in
    let marked2 = c.marked-2 in
    let inside = c.inside in
    let marked = c.marked in
    let a = c.args in
    any-inside_law a.f a.on a.i.n a.u.0 marked.result marked2.result marked3.result marked4.result inside.result inside2.result inside3.result inside4.result _ marked.ensures marked2.ensures marked3.ensures marked4.ensures inside.ensures inside2.ensures inside3.ensures inside4.ensures (four-in-turn inside.result inside2.result inside3.result inside4.result)
