-- `firsts::opened` meets its contract.
use Rattle.firsts.proofs.FirstLaws.{opened_law}
use Rattle.firsts.proofs.opened.Goals as goal

pub returns : goal.returns
returns c =
    let anymilitary = c.any_military in
    let anyinside = c.any_inside in
    let marked = c.marked in
    let anyword = c.any_word in
    let a = c.args in
    opened_law a.f a.on a.i.n a.e a.f2 anyword.result marked.result anyinside.result anymilitary.result c.opened_by.result anyword.ensures marked.ensures anyinside.ensures anymilitary.ensures c.opened_by.ensures
