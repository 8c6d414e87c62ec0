-- What a call answers.
use Rattle.std.specs.Prelude.{ℕ, Result}
use Rattle.rules.specs.declared.Refusal.{Refusal}

-- the count of the records written, or the refusal
abbrev pub Answer : Type 0
Answer = Result ℕ Refusal
