-- What all pieces of a trace make of the processor of its opening, and what they leave in the buffer.
use Rattle.std.specs.Prelude.{ℕ, ◌-◌, ◌*◌, ◌≤◌, List, ◌≡◌, length, take, drop}
use Rattle.rules.specs.declared.Opening.{Opening}
use Rattle.rules.specs.Settings.{standard}
use Rattle.rules.specs.Lists.{All}
use Rattle.rules.specs.Samples.{Trace, nothing, sweep_limit}
use Rattle.rules.specs.Buffers.{over}
use Rattle.rules.specs.Records.{records, record_size}
use Rattle.rules.specs.Calls.{handed}
use Rattle.processor.specs.declared.Processor.{Processor}
use Rattle.processor.specs.declared.Progress.{Progress}
use Rattle.processor.specs.State.{running_processor}
use Rattle.processor.specs.Arrays.{processor_at}
use Rattle.takes.specs.declared.Reached.{Reached}

-- what stands from one place on to before another
abbrev pub part : ℕ → ℕ → List ℕ → List ℕ
part from to l = take (to - from) (drop from l)

-- what p has become after n ticks
abbrev pub arrived_at : Processor → Progress → List ℕ → ℕ → ℕ → Reached
arrived_at p y recent n at =
    record { processor = processor_at p y recent n; at = at }

-- all of T, from the processor of its opening on; what is due is at the start of the buffer
pub record Taken (ω : Opening) (T : Trace) (b : List ℕ) (r : Reached) (b' : List ℕ) : Type 0 where
  pub processor : r.processor ≡ running_processor ω T
  pub place : r.at ≡ record_size * length (handed standard T)
  pub buffer : b' ≡ over (records (handed standard T)) b

-- T is a trace that fits a sweep, and the buffer has room for the records that are due of it
pub record Takes (ω : Opening) (T : Trace) (b : List ℕ) : Type 0 where
  pub named : 1 ≤ ω.mode
  pub short : length T.flags ≤ sweep_limit
  pub room : record_size * length (handed standard T) ≤ length b
  pub bytes : All (λ v. v ≤ 255) T.values

pub record TakeAllPost (p : Processor) (T : Trace) (b : List ℕ) (r : Reached) (b' : List ℕ) : Type 0 where
  pub inside : r.at ≤ length b
  pub result : (ω : Opening) → p ≡ running_processor ω nothing → Takes ω T b → Taken ω T b r b'
