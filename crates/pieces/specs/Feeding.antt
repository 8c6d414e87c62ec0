-- What the ticks past the end make of the trace that words and values belong to.
use Rattle.std.specs.Prelude.{ℕ, ◌-◌, ◌*◌, ◌≤◌, List, ◌≡◌, length}
use Rattle.rules.specs.Settings.{standard}
use Rattle.rules.specs.Lists.{All}
use Rattle.rules.specs.Samples.{Trace, sweep_limit}
use Rattle.rules.specs.Records.{record_size}
use Rattle.rules.specs.Calls.{rest, silence}
use Rattle.places.specs.Places.{machine_of}
use Rattle.processor.specs.declared.Progress.{Progress}
use Rattle.front.specs.Words.{front_of, recent_of}
use Rattle.blocks.specs.Steps.{state_at, Fed}
use Rattle.processor.specs.Arrays.{machine_at}

-- o is where the trace T ends; the buffer b₀ has room for the records that are left
pub record Ends (T : Trace) (o : Progress) (recent : List ℕ) (base : ℕ) (b₀ : List ℕ) : Type 0 where
  pub front : o.front ≡ front_of T.flags
  pub machine : machine_at o ≡ machine_of (state_at T (length T.flags - 178))
  pub place : o.at ≡ 0
  pub kept : recent ≡ recent_of T.values
  pub ticks : length T.flags ≡ base
  pub alike : length T.flags ≡ length T.values
  pub bytes : All (λ v. v ≤ 255) T.values
  pub limit : base ≤ sweep_limit
  pub room : record_size * length (rest standard T) ≤ length b₀

-- 448 zeros complete every reply
pub record DrainPost (o : Progress) (recent : List ℕ) (base : ℕ) (b : List ℕ) (y : Progress) (b' : List ℕ) : Type 0 where
  pub same : length b' ≡ length b
  pub result : (T : Trace) → Ends T o recent base b → Fed T (silence 448) b y b'
