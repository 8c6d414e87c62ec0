-- `due` answers the word that starts 23 ticks after e3.
use native.Mathlib.Omega.{arith}
use Rattle.brackets.proofs.due.Goals as goal

pub returns : goal.returns
returns c = record { holds = λ E b h₃ h₂. c.slide.ensures.holds E b h₃ (λ m l. h₂.at m (omega arith)) }
