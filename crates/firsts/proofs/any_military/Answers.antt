-- `firsts::any_military` meets its contract.
use Rattle.rules.specs.Replies.{military}
use Rattle.places.proofs.PlaceLaws.{four-in-turn}
use Rattle.firsts.proofs.FirstLaws.{any_law}
use Rattle.firsts.proofs.any_military.Goals as goal

pub returns : goal.returns
returns c =
    let makesmilitary4 = c.makes_military-4 in
    let makesmilitary3 = c.makes_military-3 in
    let makesmilitary2 = c.makes_military-2 in
    let makesmilitary = c.makes_military in
    let a = c.args in
    any_law (military a.u.0) a.f makesmilitary.result makesmilitary2.result makesmilitary3.result makesmilitary4.result _ makesmilitary.ensures makesmilitary2.ensures makesmilitary3.ensures makesmilitary4.ensures (four-in-turn makesmilitary.result makesmilitary2.result makesmilitary3.result makesmilitary4.result)
