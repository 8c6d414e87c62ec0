-- The whole call: a refusal writes nothing, and otherwise no refusal number holds.
use Prim.Native.Nat.{ℕ, ◌-◌, ◌*◌, ◌%◌, ◌^◌, ◌≤◌, ◌<◌}
use native.Mathlib.Omega.{arith}
use mathlib.Core.Path.{◌≡◌, sym, ap, ◌∙◌}
use mathlib.Core.Bool.{false, ◌&&◌}
use mathlib.Core.List.{List, ◌++◌}
use lib.Dec.{leb, ltb, eqb}
use lib.ListN.{length, length-append}
use borrow.Author.Tests.{leb-true, ltb-false, eqb-true, not-false}
use Rattle.rules.specs.declared.Opening.{Opening}
use Rattle.rules.specs.declared.Reply.{Reply}
use Rattle.rules.specs.Settings.{standard}
use Rattle.rules.specs.Lists.{any, All}
use Rattle.rules.specs.Samples.{Trace, nothing, bad, piece_limit, sweep_limit}
use Rattle.rules.specs.Buffers.{over, over-at}
use Rattle.rules.specs.Machine.{final}
use Rattle.rules.specs.Records.{record_size, totals_size, records, replies}
use Rattle.rules.specs.declared.Refusal.{Refusal}
use Rattle.rules.specs.Calls.{Answer, accepted, refused, number_of, open_checks, open_answer, handed, rest}
use Rattle.rules.proofs.Truth.{and_left, and_right, or_left, or_right}
use Rattle.rules.proofs.Checks.{none-holds, all_skip}
use Rattle.rules.proofs.Joining.{handed-rest, records-append, records-length}
use Rattle.rules.proofs.HandingOut.{rest-most}
use Rattle.processor.specs.declared.Processor.{Processor}
use Rattle.processor.specs.State.{running, running_processor, processor_of, Made}
use Rattle.calls.specs.Post.{open_as, open_of}
use Rattle.rules.proofs.Answers.{standard_allowed, named}
use Rattle.takes.specs.declared.Reached.{Reached}
use Rattle.whole_refusals.specs.Whole.{whole_room_lem, lent_checks, whole_answer}
use Rattle.whole.specs.Post.{answer_of, records_of, totals_of_lem, WholePost, CloseAtPost}
use Rattle.takes.specs.Post.{Taken, TakeAllPost}
use Rattle.takes.proofs.Taking.{over-more, handed-most}

-- ---- a refusal

pub whole-refused : (ω : Opening) (T : Trace) (piece : ℕ) (b c : List ℕ) (k : Refusal) (r : ℕ) → whole_answer ω T piece (length b) (length c) ≡ refused k
    → r ≡ 2 ^ 32 - number_of k → WholePost ω T piece b c r b c
whole-refused ω T piece b c k r v e =
    record {
      result = e ∙ ap (λ (x : Answer). answer_of x T) (sym v);
      record_bytes = ap (λ (x : Answer). records_of x T b) (sym v);
      total_bytes = ap (λ (x : Answer). totals_of_lem x T c) (sym v);
    }

-- ---- no refusal

pub record Clear (ω : Opening) (T : Trace) (piece : ℕ) (b c : List ℕ) : Type 0 where
  pub opens : open_answer ω ≡ accepted
  pub alike : length T.flags ≡ length T.values
  pub some : 1 ≤ piece
  pub limit : piece ≤ piece_limit
  pub short : length T.flags ≤ sweep_limit
  pub room : whole_room_lem (length T.flags) ≤ length b
  pub totals-room : totals_size ≤ length c
  pub good : any bad T.flags ≡ false
  pub is-accepted : whole_answer ω T piece (length b) (length c) ≡ accepted

pub clear : (ω : Opening) (T : Trace) (piece : ℕ) (b c : List ℕ) → whole_answer ω T piece (length b) (length c) ≡ accepted → Clear ω T piece b c
unfolding open_answer whole_answer
clear ω T piece b c e =
    let n = length T.flags in
    let k = length T.values in
    let h = none-holds (open_checks ω ++ lent_checks T piece (length b) (length c)) e in
    let l = h.1.1 in
    let few = ltb (length b) (whole_room_lem n) in
    let none = ltb (length c) totals_size in
    let sized = not-false (leb 1 piece && leb piece piece_limit) l.1.0 in
    record {
      opens = all_skip (open_checks ω) (h.0, (h.1.0, tt));
      alike = eqb-true n k (not-false (eqb n k) l.0);
      some = leb-true 1 piece (and_left (leb 1 piece) (leb piece piece_limit) sized);
      limit = leb-true piece piece_limit (and_right (leb 1 piece) (leb piece piece_limit) sized);
      short = ltb-false sweep_limit n l.1.1.0;
      room = ltb-false (length b) (whole_room_lem n) (or_left few none l.1.1.1.0);
      totals-room = ltb-false (length c) totals_size (or_right few none l.1.1.1.0);
      good = l.1.1.1.1.0;
      is-accepted = e;
    }

-- the processor of the opening
opened : (ω : Opening) (p : Processor) → p ≡ (open_of ω).processor → open_answer ω ≡ accepted → p ≡ running_processor ω nothing
unfolding open_of
opened ω p e a = e ∙ ap (λ (v : Answer). (open_as v ω).processor) a

module _ (ω : Opening) (T : Trace) (piece : ℕ) (b c : List ℕ) (ok : Clear ω T piece b c) (bytes : All (λ v. v ≤ 255) T.values)
    (p : Processor) (is : p ≡ (open_of ω).processor) (r : Reached) (b₁ : List ℕ) (all : TakeAllPost p T b r b₁) (n : ℕ) (b₂ c₂ : List ℕ)
    (end : CloseAtPost r.processor r.at b₁ c n b₂ c₂) (same : length b₁ ≡ length b) where
  done : Taken ω T b r b₁
  done =
      all.result ω (opened ω p is ok.opens)
      (record { named = (named ω ok.opens).least; short = ok.short; room = omega (arith, handed-most T, ok.room); bytes = bytes })

  made : Made (running ω T) r.processor
  unfolding processor_of
  made = record { is = done.processor; sound = record { named = (named ω ok.opens).least; alike = ok.alike; short = ok.short; bytes = bytes } }

  room : record_size * length (rest standard T) ≤ length b₁ - r.at
  room = omega (arith, done.place, handed-most T, rest-most standard standard_allowed T, ok.room, same)

  abbrev H : List Reply
  H = handed standard T

  abbrev R : List Reply
  R = rest standard T

  count : n ≡ length (replies (final standard T))
  count =
      end.result ω T made room
      ∙ omega (arith, done.place, ap length (handed-rest standard standard_allowed T), length-append H R)

  few : n < 65536
  few = omega (arith, end.result ω T made room, done.place, handed-most T, rest-most standard standard_allowed T, ok.short)

  pub whole-accepted : WholePost ω T piece b c (n % 65536) b₂ c₂
  whole-accepted =
      let m : n % 65536 ≡ n = omega (arith, few) in
      record {
        result = m ∙ count ∙ ap (λ (x : Answer). answer_of x T) (sym ok.is-accepted);
        record_bytes =
            end.record_bytes ω T made room ∙ ap (over-at (records R) r.at) done.buffer
            ∙ over-more (records H) (records R) b r.at (done.place ∙ sym (records-length H)) (omega (arith, all.inside))
            ∙ ap (λ (l : List ℕ). over l b) (sym (records-append H R) ∙ ap records (handed-rest standard standard_allowed T))
            ∙ ap (λ (x : Answer). records_of x T b) (sym ok.is-accepted);
        total_bytes = end.total_bytes ω T made room ∙ ap (λ (x : Answer). totals_of_lem x T c) (sym ok.is-accepted);
      }
