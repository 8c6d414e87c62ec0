-- The refusal numbers of each call, and what an accepted one returns.
use Prim.Native.Nat.{ℕ, suc, ◌+◌, ◌≤◌, ◌<◌}
use native.Mathlib.Omega.{arith}
use mathlib.Core.Path.{◌≡◌, refl, sym, ap, ◌∙◌}
use mathlib.Core.Bool.{Bool, true, false}
use mathlib.Core.List.{List}
use mathlib.Core.Logic.{◌⊎◌, inl, inr}
use lib.Dec.{leb}
use lib.ListN.{length}
use borrow.Author.Tests.{leb-true, leb-false}
use Rattle.rules.specs.declared.Opening.{Opening}
use Rattle.rules.specs.Samples.{Trace}
use Rattle.rules.specs.declared.Refusal.{Refusal}
use Rattle.rules.specs.declared.Refusal.TheVariants.{Mode, Azimuth, NotOpen, Unequal, PieceLength, SweepLength, NoRoom, BadFlag}
use Rattle.rules.specs.Calls.{Answer, accepted, refused, number_of, open_answer}
use Rattle.processor.specs.declared.Processor.{Processor}
use Rattle.processor.specs.State.{none, running, processor_of, Made}
use Rattle.std.specs.Prelude.{Err}
use Rattle.calls.specs.declared.Answered.{Answered}
use Rattle.calls.specs.declared.Closed.{Closed}
use Rattle.calls.specs.Post.{open_as, open_of, take_answer_at, take_as, take_buffer_as, TakePost, close_answer_at, close_as, close_buffer_as, no_totals_lem, ClosePost}
use Rattle.whole_refusals.specs.Whole.{whole_answer}
use Rattle.refusals.proofs.Trying.{open-low, open-high, open-far, open_none, take_3, take_4, take_5, take_6, take_7, take_8, take_none, close_3, close_7, close-none}
use Rattle.whole_refusals.proofs.Refusing.{opening-refused, opening-passed, gives_4, gives_5_low, gives_5_high, gives_6, gives_7, gives_7_totals, gives_8, gives_none}
use Rattle.whole.specs.Post.{answer_of, records_of, totals_of_lem, WholePost}
use Rattle.promises.specs.Calls.{bytes_for, OfOpen, Turned, OfTake, TurnedClose, OfClose, TurnedWhole, Asked, OfWhole}

-- ---- open

pub open-numbers : (ω : Opening) → OfOpen ω (open_of ω)
unfolding open_of
open-numbers ω =
    record {
      one = one;
      two = λ a b h. ap (λ (v : Answer). open_as v ω) (sym (open-far ω a b h));
      accepts = λ a b h. ap (λ (v : Answer). open_as v ω) (sym (open_none ω a b h));
    }
  where
    one : (ω.mode < 1) ⊎ (3 < ω.mode) → open_as (open_answer ω) ω ≡ open_as (refused Mode) ω
    one (inl h) = ap (λ (v : Answer). open_as v ω) (sym (open-low ω h))
    one (inr h) = ap (λ (v : Answer). open_as v ω) (sym (open-high ω (omega arith) h))

-- a sweep that is open has a mode above 0
one-open : ◌≡◌ {A = ℕ} 1 0 → ⊥
one-open e = omega arith

-- ---- take

module _ (p : Processor) (P : Trace) (b : List ℕ) (r : Answered) (b' : List ℕ) (post : TakePost p P b r b') where
  pub take-three : Made none p → Turned p P b r b' NotOpen
  unfolding take_answer_at
  take-three m =
      let v : refused NotOpen ≡ take_answer_at none P (length b) = take_3 0 0 P (length b) refl in (
        post.result none m ∙ ap (λ (x : Answer). take_as x none P) (sym v) ∙ ap (λ (q : Processor). record { answer = Err NotOpen; processor = q }) (sym m.is),
        post.buffer none m ∙ ap (λ (x : Answer). take_buffer_as x none P b) (sym v),
      )

  module _ (ω : Opening) (T : Trace) (m : Made (running ω T) p) where
    turned : (k : Refusal) → refused k ≡ take_answer_at (running ω T) P (length b) → Turned p P b r b' k
    turned k v = (
      post.result (running ω T) m
          ∙ ap (λ (x : Answer). take_as x (running ω T) P) (sym v)
          ∙ ap (λ (q : Processor). record { answer = Err k; processor = q }) (sym m.is),
      post.buffer (running ω T) m ∙ ap (λ (x : Answer). take_buffer_as x (running ω T) P b) (sym v),
    )

    pub take-numbers : OfTake p P b r b' ω T
    unfolding take_answer_at processor_of
    take-numbers =
        let n = length T.flags in
        let room = length b in
        record {
          four = λ h. turned Unequal (take_4 1 n P room one-open h);
          five = λ a h. turned PieceLength (take_5 1 n P room one-open a h);
          six = λ a c h. turned SweepLength (take_6 1 n P room one-open a c h);
          seven = λ a c d h. turned NoRoom (take_7 1 n P room one-open a c d (omega (arith, h)));
          eight = λ a c d e h. turned BadFlag (take_8 1 n P room one-open a c d (omega (arith, e)) h);
          accepts =
              λ a c d e h.
              let v = take_none 1 n P room one-open a c d (omega (arith, e)) h in (
                post.result (running ω T) m ∙ ap (λ (x : Answer). take_as x (running ω T) P) (sym v),
                post.buffer (running ω T) m ∙ ap (λ (x : Answer). take_buffer_as x (running ω T) P b) (sym v),
              );
        }

-- ---- close

module _ (p : Processor) (b : List ℕ) (r : Closed) (b' : List ℕ) (post : ClosePost p b r b') where
  pub close-three : Made none p → TurnedClose p b r b' NotOpen
  unfolding close_answer_at
  close-three m =
      let v : refused NotOpen ≡ close_answer_at none (length b) = close_3 0 (length b) refl in (
        post.result none m ∙ ap (λ (x : Answer). close_as x none) (sym v) ∙ ap (λ (q : Processor). record { answer = Err NotOpen; totals = no_totals_lem; processor = q }) (sym m.is),
        post.buffer none m ∙ ap (λ (x : Answer). close_buffer_as x none b) (sym v),
      )

  module _ (ω : Opening) (T : Trace) (m : Made (running ω T) p) where
    pub close-numbers : OfClose p b r b' ω T
    unfolding close_answer_at
    close-numbers =
        record {
          seven =
              λ h.
              let v : refused NoRoom ≡ close_answer_at (running ω T) (length b) = close_7 1 (length b) one-open (omega (arith, h)) in (
                post.result (running ω T) m
                    ∙ ap (λ (x : Answer). close_as x (running ω T)) (sym v)
                    ∙ ap (λ (q : Processor). record { answer = Err NoRoom; totals = no_totals_lem; processor = q }) (sym m.is),
                post.buffer (running ω T) m ∙ ap (λ (x : Answer). close_buffer_as x (running ω T) b) (sym v),
              );
          accepts =
              λ h.
              let v = close-none 1 (length b) one-open (omega (arith, h)) in (
                post.result (running ω T) m ∙ ap (λ (x : Answer). close_as x (running ω T)) (sym v),
                post.buffer (running ω T) m ∙ ap (λ (x : Answer). close_buffer_as x (running ω T) b) (sym v),
              );
        }

-- ---- a whole sweep in one call

module _ (ω : Opening) (T : Trace) (piece : ℕ) (b c : List ℕ) (r : ℕ) (b' c' : List ℕ) (post : WholePost ω T piece b c r b' c') where
  turned-whole : (k : Refusal) → refused k ≡ whole_answer ω T piece (length b) (length c) → TurnedWhole ω T piece b c r b' c' (number_of k)
  turned-whole k v = (
    post.result ∙ ap (λ (x : Answer). answer_of x T) (sym v),
    post.record_bytes ∙ ap (λ (x : Answer). records_of x T b) (sym v),
    post.total_bytes ∙ ap (λ (x : Answer). totals_of_lem x T c) (sym v),
  )

  opening-no : (k : Refusal) → refused k ≡ open_answer ω → TurnedWhole ω T piece b c r b' c' (number_of k)
  opening-no k v = turned-whole k (opening-refused ω T piece (length b) (length c) k v)

  opens : Asked ω T piece b c r b' c' → accepted ≡ open_answer ω
  opens a = open_none ω a.mode-least a.mode-most a.azimuth

  one : (ω.mode < 1) ⊎ (3 < ω.mode) → TurnedWhole ω T piece b c r b' c' 1
  one (inl h) = opening-no Mode (open-low ω h)
  one (inr h) = opening-no Mode (open-high ω (omega arith) h)

  five : Asked ω T piece b c r b' c' → length T.flags ≡ length T.values → (piece < 1) ⊎ (4096 < piece) → TurnedWhole ω T piece b c r b' c' 5
  five a e (inl h) = turned-whole PieceLength (opening-passed ω T piece (length b) (length c) _ (opens a) (gives_5_low T piece (length b) (length c) e h))
  five a e (inr h) = turned-whole PieceLength (opening-passed ω T piece (length b) (length c) _ (opens a) (gives_5_high T piece (length b) (length c) e (omega arith) h))

  seven : Asked ω T piece b c r b' c' → length T.flags ≡ length T.values → 1 ≤ piece → piece ≤ 4096 → length T.flags ≤ 32768
      → (length b < bytes_for (length T.flags) + 144) ⊎ (length c < 12) → TurnedWhole ω T piece b c r b' c' 7
  seven a e p₁ p₂ s (inl h) = turned-whole NoRoom (opening-passed ω T piece (length b) (length c) _ (opens a) (gives_7 T piece (length b) (length c) e p₁ p₂ s (omega (arith, h))))
  seven a e p₁ p₂ s (inr h) = small (leb (bytes_for (length T.flags) + 144) (length b)) refl
    where
      small : (t : Bool) → leb (bytes_for (length T.flags) + 144) (length b) ≡ t → TurnedWhole ω T piece b c r b' c' 7
      small true q =
          turned-whole NoRoom
          (opening-passed ω T piece (length b) (length c) _ (opens a)
          (gives_7_totals T piece (length b) (length c) e p₁ p₂ s (omega (arith, leb-true (bytes_for (length T.flags) + 144) (length b) q)) h))
      small false q =
          turned-whole NoRoom
          (opening-passed ω T piece (length b) (length c) _ (opens a)
          (gives_7 T piece (length b) (length c) e p₁ p₂ s (omega (arith, leb-false (bytes_for (length T.flags) + 144) (length b) q))))

  pub whole_numbers : OfWhole ω T piece b c r b' c'
  whole_numbers =
      record {
        one = one;
        two = λ a d h. opening-no Azimuth (open-far ω a d h);
        four = λ a h. turned-whole Unequal (opening-passed ω T piece (length b) (length c) _ (opens a) (gives_4 T piece (length b) (length c) h));
        five = five;
        six = λ a e p₁ p₂ h. turned-whole SweepLength (opening-passed ω T piece (length b) (length c) _ (opens a) (gives_6 T piece (length b) (length c) e p₁ p₂ h));
        seven = seven;
        eight =
            λ a l h.
            turned-whole BadFlag
            (opening-passed ω T piece (length b) (length c) _ (opens a)
            (gives_8 T piece (length b) (length c) l.alike l.piece-least l.piece-most l.short (omega (arith, l.room)) l.totals-room h));
        accepts =
            λ a l h.
            let v =
            opening-passed ω T piece (length b) (length c) _ (opens a)
            (gives_none T piece (length b) (length c) l.alike l.piece-least l.piece-most l.short (omega (arith, l.room)) l.totals-room h) in (
              post.result ∙ ap (λ (x : Answer). answer_of x T) (sym v),
              post.record_bytes ∙ ap (λ (x : Answer). records_of x T b) (sym v),
              post.total_bytes ∙ ap (λ (x : Answer). totals_of_lem x T c) (sym v),
            );
      }
