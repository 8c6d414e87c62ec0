-- `slide` joins the last 64 - r bits of the word before and r new ones; 64 new ones are the word.
use native.Mathlib.Omega.{arith}
use Rattle.plane.proofs.PlaneLaws.{holds-slide, holds-next}
use Rattle.plane.proofs.slide.Goals as goal

pub returns-then-r-eq64 : goal.returns-then-r-eq64
returns-then-r-eq64 c =
    let a = c.args in
    record { holds = λ F b p q. holds-next F b a.now a.r (omega arith) (omega arith) q }

pub returns : goal.returns
returns c =
    let a = c.args in
    record { holds = λ F b q p. holds-slide a.now a.r (omega arith) (omega arith) p q }
