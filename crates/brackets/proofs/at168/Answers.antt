-- `at168` answers the word that starts 63 ticks after e1.
use native.Mathlib.Omega.{arith}
use mathlib.Core.Path.{refl}
use Rattle.brackets.proofs.BracketWords.{behind}
use Rattle.brackets.proofs.at168.Goals as goal

pub returns : goal.returns
returns c = record { holds = λ E b. behind b 168 63 refl (omega arith) c.slide.ensures }
