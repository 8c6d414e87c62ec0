use Rattle.characters.proofs.Digits.{digit_by_bits}
use Rattle.characters.proofs.value.Goals as goal

pub returns : goal.returns
returns c = digit_by_bits c.args.c c.requires
