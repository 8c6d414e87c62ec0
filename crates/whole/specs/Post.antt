-- What a whole sweep in one call returns, and what it leaves in the two buffers.
use Rattle.std.specs.Prelude.{ℕ, ◌+◌, ◌-◌, ◌*◌, ◌/◌, ◌^◌, ◌≤◌, List, ◌≡◌, length}
use Rattle.rules.specs.declared.Opening.{Opening}
use Rattle.rules.specs.Settings.{standard}
use Rattle.rules.specs.Samples.{Trace}
use Rattle.rules.specs.Buffers.{over, over-at}
use Rattle.rules.specs.Machine.{final}
use Rattle.rules.specs.Records.{records, replies, totals, record_size}
use Rattle.rules.specs.Calls.{Answer, accepted, refused, number_of, rest}
use Rattle.frames.specs.Writing.{totals_bytes_lem}
use Rattle.processor.specs.declared.Processor.{Processor}
use Rattle.processor.specs.State.{running, Made}
use Rattle.whole_refusals.specs.Whole.{whole_answer}

-- the count of replies, or minus the number in 32 bits
abbrev pub answer_of : Answer → Trace → ℕ
answer_of accepted T = length (replies (final standard T))
answer_of (refused k) T = 2 ^ 32 - number_of k

abbrev pub records_of : Answer → Trace → List ℕ → List ℕ
records_of accepted T b = over (records (replies (final standard T))) b
records_of (refused k) T b = b

abbrev pub totals_of_lem : Answer → Trace → List ℕ → List ℕ
totals_of_lem accepted T b = over (totals_bytes_lem (totals (final standard T))) b
totals_of_lem (refused k) T b = b

pub record WholePost (ω : Opening) (T : Trace) (piece : ℕ) (b c : List ℕ) (r : ℕ) (b' c' : List ℕ) : Type 0 where
  pub result : r ≡ answer_of (whole_answer ω T piece (length b) (length c)) T
  pub record_bytes : b' ≡ records_of (whole_answer ω T piece (length b) (length c)) T b
  pub total_bytes : c' ≡ totals_of_lem (whole_answer ω T piece (length b) (length c)) T c

-- the same for mode and azimuth as numbers
abbrev pub WholeByNumbers : (mode azimuth : ℕ) (T : Trace) (piece : ℕ) (b c : List ℕ) (r : ℕ) (b' c' : List ℕ) → Type 0
WholeByNumbers mode azimuth T piece b c r b' c' = WholePost (record { mode = mode; azimuth = azimuth }) T piece b c r b' c'

-- ---- the close

pub record CloseAtPost (p : Processor) (at : ℕ) (b c : List ℕ) (r : ℕ) (b' c' : List ℕ) : Type 0 where
  pub result : (ω : Opening) (T : Trace) → Made (running ω T) p → record_size * length (rest standard T) ≤ length b - at → r ≡ at / record_size + length (rest standard T)
  pub record_bytes : (ω : Opening) (T : Trace) → Made (running ω T) p → record_size * length (rest standard T) ≤ length b - at → b' ≡ over-at (records (rest standard T)) at b
  pub total_bytes : (ω : Opening) (T : Trace) → Made (running ω T) p → record_size * length (rest standard T) ≤ length b - at → c' ≡ over (totals_bytes_lem (totals (final standard T))) c
