-- `carrying::carried` meets its contract.
use Rattle.std.proofs.Common.{◌≡◌, ℕ, List, Err, length, take, refl, ap, subst, arith}
use Rattle.carrying.specs.Failing.{turns-used}
use Rattle.carrying.specs.declared.Stop.TheVariants.{Refused, NoRoom}
use Rattle.carrying.specs.Post.{CarriedPost}
use Rattle.carrying.proofs.Carrying.{carrying_start, carrying_next, carried_failed, carried-over, carried-kept}
use Rattle.carrying.proofs.carried.Goals as goal

pub loop-init : goal.loop-init
loop-init g c = (refl, carrying_start _ _)

pub returns-in_err-r : goal.returns-in_err-r
returns-in_err-r g c =
    carried_failed _ _ _ _ c.in_err-r.field-0.0 c.in_err-r.ensures c.from_residual.ensures.1

pub returns-in-Rest : goal.returns-in-Rest
returns-in-Rest g c =
    let a = c.args in
    let l = c.loop in
    let to_start = c.to_start-kept in
    let s : length l.input ≡ length a.input.now = ap (λ (x : List ℕ). length x) l.invariant.0 in
    carried-kept a.s.processor a.n a.input.now l.input l.invariant.0 (omega (arith, c.requires)) l.p l.from l.invariant.1 c.in_ok-r.r c.in_ok-r.ensures c.in-Rest.is to_start.result c.more-in-Rest.result to_start.new.input (omega arith) to_start.ensures

pub loop-preserved : goal.loop-preserved
loop-preserved g c =
    let l = c.loop in
    (l.invariant.0, carrying_next _ _ l.p l.from l.invariant.1 c.in_ok-r.r c.in_ok-r.ensures c.in-Full.is)

pub returns-in-Stopped : goal.returns-in-Stopped
returns-in-Stopped g c =
    let a = c.args in
    let l = c.loop in
    let P : List ℕ → Type 0 = λ x. CarriedPost a.s.processor (take a.n x) (Err (Refused c.in-Stopped.refusal c.more.result)) l.input in
    subst P l.invariant.0 (carried-over a.s.processor _ l.p l.from l.invariant.1 c.in_ok-r.r c.in_ok-r.ensures _ c.more.result c.in-Stopped.is l.input)

pub returns : goal.returns
returns g c = carried_failed _ _ _ c.loop.input NoRoom turns-used refl
