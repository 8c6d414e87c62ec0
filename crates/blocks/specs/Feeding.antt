-- What the blocks of a piece, one after the other, make of what went before.
use Rattle.std.specs.Prelude.{ℕ, ◌+◌, ◌-◌, ◌*◌, ◌≤◌, List, ◌≡◌, length, take}
use Rattle.rules.specs.Records.{record_size}
use Rattle.rules.specs.Settings.{standard}
use Rattle.rules.specs.Samples.{Trace, ◌⧺◌}
use Rattle.rules.specs.Calls.{fresh}
use Rattle.places.specs.Places.{machine_of}
use Rattle.front.specs.Words.{front_of}
use Rattle.front.specs.Post.{Reads}
use Rattle.processor.specs.declared.Progress.{Progress}
use Rattle.blocks.specs.Steps.{state_at, Bounded, Fed}
use Rattle.processor.specs.Arrays.{machine_at}

-- the first n ticks of a piece
abbrev pub up_to : List ℕ → List ℕ → ℕ → Trace
up_to flags values n = record { flags = take n flags; values = take n values }

-- o is where flags and values begin, behind the trace T: at each of their ticks edges stand within the limit of a sweep, the values are at hand, and the buffer b₀ has room
pub record Enters (T : Trace) (o : Progress) (recent : List ℕ) (base : ℕ) (flags values b₀ : List ℕ) : Type 0 where
  pub front : o.front ≡ front_of T.flags
  pub machine : machine_at o ≡ machine_of (state_at T (length T.flags - 178))
  pub place : o.at ≡ 0
  pub ticks : length T.flags ≡ base
  pub alike : length T.flags ≡ length T.values
  pub alike-piece : length flags ≡ length values
  pub bounded : (n : ℕ) → n ≤ length flags → Bounded (T ⧺ up_to flags values n)
  pub reads : (n : ℕ) → n ≤ length flags → Reads (T ⧺ up_to flags values n) (base + n) recent base values
  pub room : (n : ℕ) → n ≤ length flags → record_size * length (fresh standard T (up_to flags values n)) ≤ length b₀

pub record BlocksPost (o : Progress) (recent : List ℕ) (base : ℕ) (flags values b : List ℕ) (y : Progress) (b' : List ℕ) : Type 0 where
  pub same : length b' ≡ length b
  pub result : (T : Trace) → Enters T o recent base flags values b → Fed T (record { flags = flags; values = values }) b y b'
