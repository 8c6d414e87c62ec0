-- A survey on its way, and what a read leaves of the input buffer.
use Rattle.std.specs.Prelude.{ℕ, ◌≤◌, List, ◌≡◌, length, take, Option, Result, IfOk, IfSome}
use Rattle.processor.specs.State.{Sweep, Made}
use Rattle.ends.specs.Ends.{LinePast}
use Rattle.carrying.specs.declared.Stop.{Stop}
use Rattle.carrying.specs.declared.Survey.{Survey}

-- the processor is that of a sweep, and the bytes kept hold no whole line
pub record Going (s : Survey) (input : List ℕ) : Type 0 where
  pub sweep : Sweep
  pub made : Made sweep s.processor
  pub inside : s.kept ≤ length input
  pub past : LinePast (take s.kept input) 0

-- of a survey that is over or has stopped nothing is asked
abbrev pub Stands : Result (Option Survey) Stop → List ℕ → Type 0
Stands r input = IfOk r (λ o. IfSome o (λ s. Going s input))

-- the bytes kept stay; those in use are in the buffer
pub record ReadPost (kept : ℕ) (input : List ℕ) (r : Result (Option ℕ) Stop) (input' : List ℕ) : Type 0 where
  pub inside : IfOk r (λ o. IfSome o (λ n. n ≤ length input'))
  pub stays : take kept input' ≡ take kept input
