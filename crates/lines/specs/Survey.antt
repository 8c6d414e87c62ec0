-- "The survey program reads standard input, prints, and stops at end of input or at the first refusal."
use Rattle.std.specs.Prelude.{ℕ, cond, List, [], ◌∷◌, ◌++◌, eqb}
use Rattle.rules.specs.Calls.{number_of}
use Rattle.processor.specs.State.{Sweep, none}
use Rattle.frames.specs.Writing.{refusal_line_lem}
use Rattle.steps.specs.Outcomes.{Outcome, goes, stops, line_at}

abbrev pub onto : ℕ → List (List ℕ) → List (List ℕ)
onto c [] = (c ∷ []) ∷ []
onto c (l ∷ ls) = (c ∷ l) ∷ ls

-- A line is all bytes up to its newline (byte 10) with it, or up to the end of input.
unfoldable pub lines_in : List ℕ → List (List ℕ)
lines_in [] = []
lines_in (c ∷ input) = cond (eqb c 10) ((c ∷ []) ∷ lines_in input) (onto c (lines_in input))

abbrev pub further : Outcome → (Sweep → List ℕ) → List ℕ
further (goes σ l) more = l ++ more σ
further (stops k) more = refusal_line_lem (number_of k)

-- what the lines print from a sweep on
unfoldable pub surveyed : List (List ℕ) → Sweep → List ℕ
unfolding line_at
surveyed [] σ = []
surveyed (l ∷ ls) σ = further (line_at σ l) (surveyed ls)

-- what the survey program prints
unfoldable pub survey : List ℕ → List ℕ
unfolding surveyed lines_in
survey input = surveyed (lines_in input) none
