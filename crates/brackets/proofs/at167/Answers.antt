-- `at167` answers the word that starts 62 ticks after e1.
use native.Mathlib.Omega.{arith}
use mathlib.Core.Path.{refl}
use Rattle.brackets.proofs.BracketWords.{behind}
use Rattle.brackets.proofs.at167.Goals as goal

pub returns : goal.returns
returns c = record { holds = λ E b. behind b 167 62 refl (omega arith) c.slide.ensures }
