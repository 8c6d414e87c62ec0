-- What an accepted call shows: none of its refusal numbers held. And the records of replies in a buffer.
use Prim.Native.Nat.{ℕ, ◌+◌, ◌≤◌}
use Rattle.rules.specs.declared.Refusal.TheVariants.{PieceLength, NoRoom}
use native.Mathlib.Omega.{arith}
use mathlib.Core.Path.{◌≡◌, sym, ap, ◌∙◌}
use mathlib.Core.Bool.{Bool, true, false, ◌&&◌}
use mathlib.Core.List.{List, [], ◌∷◌, ◌++◌, append-nil, append_assoc}
use lib.Dec.{eqb, leb, ltb}
use lib.ListN.{length, take, drop}
use lib.Seq.{take-append_seam}
use borrow.Author.Tests.{eqb-true, leb-true, ltb-false, not-false}
use Rattle.rules.specs.declared.Opening.{Opening}
use Rattle.rules.specs.declared.Reply.{Reply}
use Rattle.rules.specs.Lists.{any}
use Rattle.rules.specs.Settings.{standard, Allowed}
use Rattle.rules.specs.Samples.{Trace, nothing, ◌⧺◌, bad, piece_limit, sweep_limit}
use Rattle.rules.specs.Records.{records, first_records}
use Rattle.rules.proofs.Joining.{records-length}
use Rattle.rules.specs.Calls.{accepted, check, open_checks, not_open, unequal, overlong, bad_flag, open_answer, take_answer, take_room, close_answer, close_room}
use Rattle.rules.proofs.Truth.{and_left, and_right}
use Rattle.rules.proofs.Checks.{none-holds}
use Rattle.rules.specs.Buffers.{over}

pub standard_allowed : Allowed standard
standard_allowed =
    record { window = omega arith; tolerance = omega arith; shortest-from = omega arith; shortest-to = omega arith; longest-from = omega arith; longest-to = omega arith }

-- ---- what an accepted call shows

-- mode and azimuth are in their ranges
pub record Named (ω : Opening) : Type 0 where
  pub least : 1 ≤ ω.mode
  pub most : ω.mode ≤ 3
  pub turned : ω.azimuth ≤ 16383

pub named : (ω : Opening) → open_answer ω ≡ accepted → Named ω
unfolding open_answer
named ω e =
    let h = none-holds (open_checks ω) e in
    let m = not-false (leb 1 ω.mode && leb ω.mode 3) h.0 in
    record {
      least = leb-true 1 ω.mode (and_left (leb 1 ω.mode) (leb ω.mode 3) m);
      most = leb-true ω.mode 3 (and_right (leb 1 ω.mode) (leb ω.mode 3) m);
      turned = ltb-false 16383 ω.azimuth h.1.0;
    }

-- the piece fits the sweep and the buffer, and has no bad byte
pub record Took (running : Bool) (taken : ℕ) (P : Trace) (room : ℕ) : Type 0 where
  pub open-sweep : running ≡ true
  pub alike : length P.flags ≡ length P.values
  pub piece : length P.flags ≤ piece_limit
  pub sweep : taken + length P.flags ≤ sweep_limit
  pub fits : take_room (length P.flags) ≤ room
  pub good : any bad P.flags ≡ false

pub took : (running : Bool) (taken : ℕ) (P : Trace) (room : ℕ) → take_answer running taken P room ≡ accepted → Took running taken P room
unfolding take_answer
took running taken P room e =
    let n = length P.flags in
    let k = length P.values in
    let h = none-holds (not_open running ∷ unequal P ∷ check PieceLength (ltb piece_limit n) ∷ overlong (taken + n) ∷ check NoRoom (ltb room (take_room n)) ∷ bad_flag P.flags ∷ []) e in
    record {
      open-sweep = not-false running h.0;
      alike = eqb-true n k (not-false (eqb n k) h.1.0);
      piece = ltb-false piece_limit n h.1.1.0;
      sweep = ltb-false sweep_limit (taken + n) h.1.1.1.0;
      fits = ltb-false room (take_room n) h.1.1.1.1.0;
      good = h.1.1.1.1.1.0;
    }

-- the close has room
pub record Closes (running : Bool) (room : ℕ) : Type 0 where
  pub open-sweep : running ≡ true
  pub fits : close_room ≤ room

pub closes : (running : Bool) (room : ℕ) → close_answer running room ≡ accepted → Closes running room
unfolding close_answer
closes running room e =
    let h = none-holds (not_open running ∷ check NoRoom (ltb room close_room) ∷ []) e in
    record { open-sweep = not-false running h.0; fits = ltb-false room close_room h.1.0 }

-- ---- records in a buffer

-- the first records of a buffer that they were written to
pub first-records : (l : List Reply) (b : List ℕ) → first_records (length l) (over (records l) b) ≡ records l
unfolding over
first-records l b =
    ap (λ (n : ℕ). take n (records l ++ drop (length (records l)) b)) (sym (records-length l)) ∙ take-append_seam (records l) (drop (length (records l)) b)

-- ---- traces end to end

pub join_assoc : (T P R : Trace) → (T ⧺ P) ⧺ R ≡ T ⧺ (P ⧺ R)
join_assoc T P R =
    let f = append_assoc T.flags P.flags R.flags in
    let v = append_assoc T.values P.values R.values in
    λ i. record { flags = f i; values = v i }

pub join_nothing : (T : Trace) → T ⧺ nothing ≡ T
join_nothing T =
    let f = append-nil T.flags in
    let v = append-nil T.values in
    λ i. record { flags = f i; values = v i }
