-- `marking::any_word` meets its contract.
use Rattle.marking.proofs.Marking.{any_word_law}
use Rattle.marking.proofs.any_word.Goals as goal

pub returns : goal.returns
returns c = any_word_law c.args.w
