-- An opened sweep has no tick.
use mathlib.Core.Path.{◌≡◌, sym, ap, ◌∙◌}
use Rattle.rules.specs.declared.Opening.{Opening}
use Rattle.rules.specs.Samples.{nothing}
use Rattle.rules.specs.declared.Refusal.{Refusal}
use Rattle.rules.specs.Calls.{Answer as RulesAnswer, accepted, refused, open_answer}
use Rattle.calls.specs.Answers.{Answer}
use Rattle.std.specs.Prelude.{Ok, Err}
use Rattle.processor.specs.declared.Processor.{Processor}
use Rattle.calls.specs.declared.Answered.{Answered}
use Rattle.processor.specs.State.{running_processor, idle_processor}
use Rattle.calls.specs.Post.{open_as, open_of}

-- ---- openings

pub beside : (a : Answer) {p q : Processor} → p ≡ q → ◌≡◌ {A = Answered} (record { answer = a; processor = p }) (record { answer = a; processor = q })
beside a e = λ i. record { answer = a; processor = e i }

pub open_no : (ω : Opening) (k : Refusal) (r : Answered) → open_answer ω ≡ refused k → r ≡ record { answer = Err k; processor = running_processor (record { mode = 0; azimuth = 0 }) nothing }
    → r ≡ open_of ω
unfolding open_of idle_processor
open_no ω k r v e = e ∙ sym (ap (λ (x : RulesAnswer). open_as x ω) v)

pub open-yes : (ω : Opening) (r : Answered) → open_answer ω ≡ accepted → r ≡ record { answer = Ok 0; processor = running_processor ω nothing }
    → r ≡ open_of ω
unfolding open_of
open-yes ω r v e = e ∙ sym (ap (λ (x : RulesAnswer). open_as x ω) v)
