use mathlib.Core.Path.{refl}
use Rattle.encoder.proofs.WritingLaws.{gray_word}
use Rattle.encoder.proofs.eight_of.Goals as goal

pub returns : goal.returns
returns c = gray_word c.args.n _ refl
