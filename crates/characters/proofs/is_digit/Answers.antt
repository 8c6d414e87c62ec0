use Rattle.characters.proofs.Digits.{digit_by_tests}
use Rattle.characters.proofs.is_digit.Goals as goal

pub returns : goal.returns
returns c = digit_by_tests c.args.c
