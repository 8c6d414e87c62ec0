use mathlib.Core.Path.{◌≡◌, sym, ap, subst, ◌∙◌}
use Rattle.std.specs.Prelude.{Ok}
use Rattle.reading.specs.Post.{Line}
use Rattle.reading.specs.declared.Frame.TheVariants.{Samples}
use Rattle.steps.specs.Post.{AnswerPost, said_at}
use Rattle.answers.proofs.answer_line.Goals as goal

-- the line says samples: the piece is its flags and values
pub returns-in-Samples : goal.returns-in-Samples
returns-in-Samples c =
    let a = c.args in
    let said : a.line ≡ Ok (Samples c.in-Samples.n) = c.in-Ok.is ∙ ap Ok c.in-Samples.is in
    subst (λ (x : Line). AnswerPost (said_at x a.flags.now a.values.now) a.p a.at a.out.now c.taken.result c.taken.new.out) (sym said) c.taken.ensures
