-- What is promised of one call: each refusal of document 01 with the limits written out, and what an accepted call returns.
use Rattle.std.specs.Prelude.{ℕ, ◌+◌, ◌-◌, ◌*◌, ◌/◌, ◌^◌, ◌≤◌, ◌<◌, true, false, List, ◌⊎◌, ◌≡◌, length}
use Rattle.rules.specs.declared.Opening.{Opening}
use Rattle.rules.specs.declared.Refusal.{Refusal}
use Rattle.rules.specs.declared.Refusal.TheVariants.{Mode, Azimuth, Unequal, PieceLength, SweepLength, NoRoom, BadFlag}
use Rattle.rules.specs.Settings.{standard}
use Rattle.rules.specs.Lists.{any}
use Rattle.rules.specs.Samples.{Trace, nothing, ◌⧺◌, bad}
use Rattle.rules.specs.Machine.{final}
use Rattle.rules.specs.Records.{records, replies, totals}
use Rattle.rules.specs.Calls.{fresh, rest}
use Rattle.rules.specs.Buffers.{over}
use Rattle.frames.specs.Writing.{totals_bytes_lem}
use Rattle.processor.specs.declared.Processor.{Processor}
use Rattle.processor.specs.State.{idle_processor, running_processor}
use Rattle.std.specs.Prelude.{Ok, Err}
use Rattle.calls.specs.declared.Answered.{Answered}
use Rattle.calls.specs.declared.Closed.{Closed}

-- ---- open

pub record OfOpen (ω : Opening) (o : Answered) : Type 0 where
  pub one : (ω.mode < 1) ⊎ (3 < ω.mode) → o ≡ record { answer = Err Mode; processor = idle_processor }
  pub two : 1 ≤ ω.mode → ω.mode ≤ 3 → 16383 < ω.azimuth → o ≡ record { answer = Err Azimuth; processor = idle_processor }
  pub accepts : 1 ≤ ω.mode → ω.mode ≤ 3 → ω.azimuth ≤ 16383 → o ≡ record { answer = Ok 0; processor = running_processor ω nothing }

-- ---- take

-- "72 × ceil(n/206) bytes for n ticks"
abbrev pub bytes_for : ℕ → ℕ
bytes_for n = 72 * ((n + 205) / 206)

module _ (p : Processor) (P : Trace) (b : List ℕ) (r : Answered) (b' : List ℕ) where
  -- "A refusal returns its number alone, with the old processor [..] and no write."
  abbrev pub Turned : Refusal → Type 0
  Turned k = (r ≡ record { answer = Err k; processor = p }) × (b' ≡ b)

  -- a take of P lent b, at a sweep with the trace T
  pub record OfTake (ω : Opening) (T : Trace) : Type 0 where
    pub four : (length P.flags ≡ length P.values → ⊥) → Turned Unequal
    pub five : length P.flags ≡ length P.values → 4096 < length P.flags → Turned PieceLength
    pub six : length P.flags ≡ length P.values → length P.flags ≤ 4096 → 32768 < length T.flags + length P.flags → Turned SweepLength
    pub seven : length P.flags ≡ length P.values → length P.flags ≤ 4096 → length T.flags + length P.flags ≤ 32768
        → length b < bytes_for (length P.flags) → Turned NoRoom
    pub eight : length P.flags ≡ length P.values → length P.flags ≤ 4096 → length T.flags + length P.flags ≤ 32768
        → bytes_for (length P.flags) ≤ length b → any bad P.flags ≡ true → Turned BadFlag
    pub accepts : length P.flags ≡ length P.values → length P.flags ≤ 4096 → length T.flags + length P.flags ≤ 32768
        → bytes_for (length P.flags) ≤ length b → any bad P.flags ≡ false
        → (r ≡ record { answer = Ok (length (fresh standard T P)); processor = running_processor ω (T ⧺ P) }) × (b' ≡ over (records (fresh standard T P)) b)

-- ---- close

module _ (p : Processor) (b : List ℕ) (r : Closed) (b' : List ℕ) where
  abbrev pub TurnedClose : Refusal → Type 0
  TurnedClose k =
      (r ≡ record { answer = Err k; totals = record { found = 0; replies = 0; sidelobe = 0; garbled = 0; lost = 0; phantoms = 0 }; processor = p }) × (b' ≡ b)

  pub record OfClose (ω : Opening) (T : Trace) : Type 0 where
    pub seven : length b < 144 → TurnedClose NoRoom
    pub accepts : 144 ≤ length b
        → (r ≡ record { answer = Ok (length (rest standard T)); totals = totals (final standard T); processor = idle_processor }) × (b' ≡ over (records (rest standard T)) b)

-- ---- a whole sweep in one call

module _ (ω : Opening) (T : Trace) (piece : ℕ) (b c : List ℕ) (r : ℕ) (b' c' : List ℕ) where
  abbrev pub TurnedWhole : ℕ → Type 0
  TurnedWhole k = (r ≡ 2 ^ 32 - k) × (b' ≡ b) × (c' ≡ c)

  -- the numbers that are in range
  pub record Asked : Type 0 where
    pub mode-least : 1 ≤ ω.mode
    pub mode-most : ω.mode ≤ 3
    pub azimuth : ω.azimuth ≤ 16383

  pub record Lent : Type 0 where
    pub alike : length T.flags ≡ length T.values
    pub piece-least : 1 ≤ piece
    pub piece-most : piece ≤ 4096
    pub short : length T.flags ≤ 32768
    pub room : bytes_for (length T.flags) + 144 ≤ length b
    pub totals-room : 12 ≤ length c

  pub record OfWhole : Type 0 where
    pub one : (ω.mode < 1) ⊎ (3 < ω.mode) → TurnedWhole 1
    pub two : 1 ≤ ω.mode → ω.mode ≤ 3 → 16383 < ω.azimuth → TurnedWhole 2
    pub four : Asked → (length T.flags ≡ length T.values → ⊥) → TurnedWhole 4
    pub five : Asked → length T.flags ≡ length T.values → (piece < 1) ⊎ (4096 < piece) → TurnedWhole 5
    pub six : Asked → length T.flags ≡ length T.values → 1 ≤ piece → piece ≤ 4096 → 32768 < length T.flags → TurnedWhole 6
    pub seven : Asked → length T.flags ≡ length T.values → 1 ≤ piece → piece ≤ 4096 → length T.flags ≤ 32768
        → (length b < bytes_for (length T.flags) + 144) ⊎ (length c < 12) → TurnedWhole 7
    pub eight : Asked → Lent → any bad T.flags ≡ true → TurnedWhole 8
    pub accepts : Asked → Lent → any bad T.flags ≡ false
        → (r ≡ length (replies (final standard T))) × (b' ≡ over (records (replies (final standard T))) b) × (c' ≡ over (totals_bytes_lem (totals (final standard T))) c)
