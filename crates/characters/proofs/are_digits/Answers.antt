use Rattle.std.proofs.Common.{rules, tests, ◌∙◌, take, true, ◌&&◌}
use Rattle.std.proofs.lemmas.Iterator.{YieldsList-from_slice}
use Rattle.std.proofs.lemmas.Iterator.Consumers.{fold_from_yields_List}
use Rattle.characters.specs.Characters.{is_digit_lem}
use Rattle.characters.proofs.Digits.{all_folded}
use Rattle.characters.proofs.are_digits.Goals as goal

pub returns : goal.returns
returns c =
    fold_from_yields_List _ (λ all x. all && is_digit_lem x) true _ c.fold.ensures.ran (YieldsList-from_slice (take c.args.n c.args.line.now) cc) (λ a x b q k. search (rules, tests))
    ∙ all_folded true (take c.args.n c.args.line.now)
