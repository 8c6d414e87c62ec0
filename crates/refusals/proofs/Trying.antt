-- The numbers of a call, tried in their order: those before did not hold, and the next one holds.
use Rattle.std.specs.Prelude.{Ok, Err}
use Rattle.rules.specs.declared.Refusal.TheVariants.{Mode, Azimuth, NotOpen, Unequal, PieceLength, SweepLength, NoRoom, BadFlag}
use Prim.Native.Nat.{ℕ, ◌+◌, ◌≤◌, ◌<◌}
use native.Mathlib.Omega.{arith}
use mathlib.Core.Path.{◌≡◌}
use mathlib.Core.Bool.{true, false}
use lib.Dec.{ltb}
use lib.ListN.{length}
use borrow.Author.Tests.{lt-leb, le-leb, lt-ltb, le-ltb, eq-eqb, ne_eqb}
use Rattle.rules.specs.Lists.{any}
use Rattle.rules.specs.declared.Opening.{Opening}
use Rattle.rules.specs.Samples.{Trace, bad}
use Rattle.rules.specs.Calls.{answer_from, open_answer, take_answer, close_answer, take_room, close_room}

-- ---- open

module _ (ω : Opening) where
  pub open-low : ω.mode < 1 → answer_from (Err Mode) ≡ open_answer ω
  unfolding open_answer
  open-low h = rw (lt-leb 1 ω.mode h)

  pub open-high : 1 ≤ ω.mode → 3 < ω.mode → answer_from (Err Mode) ≡ open_answer ω
  unfolding open_answer
  open-high a h = rw (le-leb 1 ω.mode a, lt-leb ω.mode 3 h)

  pub open-far : 1 ≤ ω.mode → ω.mode ≤ 3 → 16383 < ω.azimuth → answer_from (Err Azimuth) ≡ open_answer ω
  unfolding open_answer
  open-far a b h = rw (le-leb 1 ω.mode a, le-leb ω.mode 3 b, lt-ltb 16383 ω.azimuth h)

  pub open_none : 1 ≤ ω.mode → ω.mode ≤ 3 → ω.azimuth ≤ 16383 → answer_from (Ok tt) ≡ open_answer ω
  unfolding open_answer
  open_none a b h = rw (le-leb 1 ω.mode a, le-leb ω.mode 3 b, le-ltb 16383 ω.azimuth h)

-- ---- take and close

-- mode 0: no sweep is open
idle_mode : (mode : ℕ) → mode ≡ 0 → ltb 0 mode ≡ false
idle_mode mode h = le-ltb 0 mode (omega arith)

open_mode : (mode : ℕ) → (mode ≡ 0 → ⊥) → ltb 0 mode ≡ true
open_mode mode h = lt-ltb 0 mode (omega (arith, h))

module _ (mode taken : ℕ) (P : Trace) (room : ℕ) where
  pub take_3 : mode ≡ 0 → answer_from (Err NotOpen) ≡ take_answer (ltb 0 mode) taken P room
  unfolding take_answer
  take_3 h = rw (idle_mode mode h)

  module _ (m : mode ≡ 0 → ⊥) where
    pub take_4 : (length P.flags ≡ length P.values → ⊥) → answer_from (Err Unequal) ≡ take_answer (ltb 0 mode) taken P room
    unfolding take_answer
    take_4 h = rw (open_mode mode m, ne_eqb (length P.flags) (length P.values) h)

    module _ (a : length P.flags ≡ length P.values) where
      pub take_5 : 4096 < length P.flags → answer_from (Err PieceLength) ≡ take_answer (ltb 0 mode) taken P room
      unfolding take_answer
      take_5 h = rw (open_mode mode m, eq-eqb (length P.flags) (length P.values) a, lt-ltb 4096 (length P.flags) h)

      module _ (b : length P.flags ≤ 4096) where
        pub take_6 : 32768 < taken + length P.flags → answer_from (Err SweepLength) ≡ take_answer (ltb 0 mode) taken P room
        unfolding take_answer
        take_6 h = rw (open_mode mode m, eq-eqb (length P.flags) (length P.values) a, le-ltb 4096 (length P.flags) b, lt-ltb 32768 (taken + length P.flags) h)

        module _ (c : taken + length P.flags ≤ 32768) where
          pub take_7 : room < take_room (length P.flags) → answer_from (Err NoRoom) ≡ take_answer (ltb 0 mode) taken P room
          unfolding take_answer
          take_7 h =
              rw (open_mode mode m, eq-eqb (length P.flags) (length P.values) a, le-ltb 4096 (length P.flags) b, le-ltb 32768 (taken + length P.flags) c, lt-ltb room (take_room (length P.flags)) h)

          module _ (d : take_room (length P.flags) ≤ room) where
            pub take_8 : any bad P.flags ≡ true → answer_from (Err BadFlag) ≡ take_answer (ltb 0 mode) taken P room
            unfolding take_answer
            take_8 h =
                rw (open_mode mode m, eq-eqb (length P.flags) (length P.values) a, le-ltb 4096 (length P.flags) b, le-ltb 32768 (taken + length P.flags) c, le-ltb room (take_room (length P.flags)) d, h)

            pub take_none : any bad P.flags ≡ false → answer_from (Ok tt) ≡ take_answer (ltb 0 mode) taken P room
            unfolding take_answer
            take_none h =
                rw (open_mode mode m, eq-eqb (length P.flags) (length P.values) a, le-ltb 4096 (length P.flags) b, le-ltb 32768 (taken + length P.flags) c, le-ltb room (take_room (length P.flags)) d, h)

module _ (mode room : ℕ) where
  pub close_3 : mode ≡ 0 → answer_from (Err NotOpen) ≡ close_answer (ltb 0 mode) room
  unfolding close_answer
  close_3 h = rw (idle_mode mode h)

  pub close_7 : (mode ≡ 0 → ⊥) → room < close_room → answer_from (Err NoRoom) ≡ close_answer (ltb 0 mode) room
  unfolding close_answer
  close_7 m h = rw (open_mode mode m, lt-ltb room close_room h)

  pub close-none : (mode ≡ 0 → ⊥) → close_room ≤ room → answer_from (Ok tt) ≡ close_answer (ltb 0 mode) room
  unfolding close_answer
  close-none m h = rw (open_mode mode m, le-ltb room close_room h)
