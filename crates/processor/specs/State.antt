-- The processor as a function of opening and joined trace.
use Rattle.std.specs.Prelude.{ℕ, ◌+◌, ◌-◌, ◌≤◌, Bool, true, false, ◌≡◌, length}
use Rattle.rules.specs.Settings.{standard}
use Rattle.rules.specs.Lists.{All}
use Rattle.rules.specs.declared.Opening.{Opening}
use Rattle.rules.specs.Samples.{Trace, nothing, sweep_limit}
use Rattle.rules.specs.Machine.{given, after}
use Rattle.places.specs.Four.{Machine}
use Rattle.places.specs.Places.{machine_of}
use Rattle.processor.specs.declared.Processor.{Processor}
use Rattle.processor.specs.Arrays.{listed}
use Rattle.front.specs.Words.{front_of, recent_of}

-- ---- the processor

-- no sweep, or a sweep with its opening and the trace so far
pub data Sweep : Type 0 where
  none : Sweep
  running : Opening → Trace → Sweep

-- the machine after those ticks of a trace that no later sample changes
abbrev pub machine_after : Trace → Machine
machine_after T = machine_of (after ◌+◌ (given standard T) (length T.flags - 178))

unfoldable pub running_processor : Opening → Trace → Processor
unfolding front_of recent_of
running_processor ω T =
    record {
      opening = ω;
      taken = length T.flags;
      front = front_of T.flags;
      recent = recent_of T.values;
      places = listed (machine_after T).places;
      counts = (machine_after T).counts;
    }

-- "the idle processor, one fixed value with no sweep open, which also stands before the first opening"
unfoldable pub idle_processor : Processor
unfolding running_processor
idle_processor = running_processor (record { mode = 0; azimuth = 0 }) nothing

unfoldable pub processor_of : Sweep → Processor
unfolding idle_processor running_processor
processor_of none = idle_processor
processor_of (running ω T) = running_processor ω T

abbrev pub is_open : Sweep → Bool
is_open none = false
is_open (running ω T) = true

abbrev pub taken_by : Sweep → ℕ
taken_by none = 0
taken_by (running ω T) = length T.flags

-- what accepted calls make of a sweep: its mode is not 0, a flag and a value for each tick, within the limit, and values are bytes
pub record Within (ω : Opening) (T : Trace) : Type 0 where
  pub named : 1 ≤ ω.mode
  pub alike : length T.flags ≡ length T.values
  pub short : length T.flags ≤ sweep_limit
  pub bytes : All (λ v. v ≤ 255) T.values

abbrev pub Sound : Sweep → Type 0
Sound none = Unit {0}
Sound (running ω T) = Within ω T

-- p is the processor of the sweep
pub record Made (σ : Sweep) (p : Processor) : Type 0 where
  pub is : p ≡ processor_of σ
  pub sound : Sound σ
