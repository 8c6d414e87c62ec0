use Rattle.encoder.proofs.WritingLaws.{word_found}
use Rattle.encoder.proofs.word_at.Goals as goal

pub returns : goal.returns
returns c = word_found c.args.s c.turned_at.ensures c.eight_of.ensures c.three_of.ensures
