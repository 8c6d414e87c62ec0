-- Each kind of line: what the operation answers, and what is printed of it.
use Prim.Native.Nat.{ℕ, ◌+◌, ◌*◌, ◌≤◌}
use native.Mathlib.Omega.{arith}
use native.Mathlib.Nat.{add-zero}
use mathlib.Core.Path.{◌≡◌, refl, sym, ap, ap₂, ◌∙◌, subst}
use mathlib.Core.Bool.{Bool, true, false}
use mathlib.Core.List.{List, ◌++◌}
use lib.Dec.{leb}
use lib.ListN.{length, take, drop, length-append, length-drop}
use lib.Seq.{length-take-le, take-append_seam}
use borrow.Author.Tests.{leb-true, le-leb}
use Rattle.rules.specs.declared.Opening.{Opening}
use Rattle.rules.specs.declared.Reply.{Reply}
use Rattle.rules.specs.declared.Totals.{Totals}
use Rattle.rules.specs.Settings.{standard}
use Rattle.rules.specs.Samples.{Trace, nothing}
use Rattle.rules.specs.Buffers.{over, over-at}
use Rattle.rules.specs.Records.{records, record_size}
use Rattle.rules.specs.Calls.{number_of, Answer as RulesAnswer, accepted, refused, open_answer, close_room, most_left}
use Rattle.rules.proofs.Buffers.{over-at-nil, over-at-next}
use Rattle.rules.proofs.HandingOut.{fresh-most, rest-most}
use Rattle.calls.specs.Answers.{Answer}
use Rattle.std.specs.Prelude.{Ok, Err}
use Rattle.processor.specs.declared.Processor.{Processor}
use Rattle.calls.specs.declared.Answered.{Answered}
use Rattle.calls.specs.declared.Closed.{Closed}
use Rattle.processor.specs.State.{Sweep, none, running, processor_of, running_processor, Made}
use Rattle.calls.specs.Post.{open_as, open_of, longer, handed_out, count_of, take_answer_at, take_as, take_buffer_as, TakePost, close_answer_at, left_over, left_count, totals_of_lem, close_as, close_buffer_as, ClosePost}
use Rattle.rules.proofs.Answers.{standard_allowed}
use Rattle.rules.specs.declared.Refusal.{Refusal}
use Rattle.frames.specs.Writing.{reply_lines_lem, first_lines, totals_line_lem, refusal_line_lem, reply_line_size}
use Rattle.reading.specs.Frames.{Reading, opening, samples, closing, reading, refused as unread}
use Rattle.reading.specs.Post.{Line, line_of, flags_after, values_after, ReadPost}
use Rattle.frames.specs.Post.{place_behind, buffer_with, WritePost}
use Rattle.reading.proofs.Sizes.{Sized, reading_sized}
use Rattle.hexadecimal.proofs.Parts.{over-at-length}
use Rattle.frames.proofs.Printing.{replies-length, first-lines, totals-length}
use Rattle.steps.specs.declared.Step.{Step}
use Rattle.steps.specs.declared.Step.TheVariants.{Goes, Stops, Full}
use Rattle.steps.specs.declared.Stepped.{Stepped}
use Rattle.steps.specs.Outcomes.{Outcome, stops, opened_as, opened_at, fresh_of, taken_as, taken_at, rest_of, closed_as, closed_at, outcome_at, line_at, printed, line_room}
use Rattle.steps.specs.Post.{stepped_by, has_room_lem, stepped_as, output_as, StepPost, AnswerPost, step_of, TakePrints, TakeShown, ClosePrints, CloseShown, piece_of, said_at, count_in_lem, line_most}

-- ---- answers taken apart

-- the answer of the operations, with the count n of an accepted call
answered : RulesAnswer → ℕ → Answer
answered accepted n = Ok n
answered (refused k) n = Err k

ok_not_err : (n : ℕ) (k : Refusal) → ◌≡◌ {A = Answer} (Ok n) (Err k) → ⊥
ok_not_err n k e = let z : ◌≡◌ {A = ℕ} 0 1 = cc in omega arith

refused-is : (v : RulesAnswer) (n : ℕ) (x : Answer) (k : Refusal) → x ≡ answered v n → x ≡ Err k → v ≡ refused k
unfolding answered
refused-is accepted n x k e r = absurd (ok_not_err n k (sym e ∙ r))
refused-is (refused j) n x k e r = cc

record Accepts (v : RulesAnswer) (n m : ℕ) : Type 0 where
  is-accepted : v ≡ accepted
  count : m ≡ n

accepted-is : (v : RulesAnswer) (n : ℕ) (x : Answer) (m : ℕ) → x ≡ answered v n → x ≡ Ok m → Accepts v n m
unfolding answered
accepted-is accepted n x m e r = record { is-accepted = refl; count = cc }
accepted-is (refused j) n x m e r = absurd (ok_not_err m j (sym r ∙ e))

-- ---- lines written where there is room

pub record Wrote (l : List ℕ) (at : ℕ) (b : List ℕ) (e : ℕ) (b' : List ℕ) : Type 0 where
  pub place : e ≡ at + length l
  pub buffer : b' ≡ over-at l at b

pub wrote : (l : List ℕ) (at : ℕ) (b : List ℕ) (e : ℕ) (b' : List ℕ) → at + length l ≤ length b → WritePost l at b e b' → Wrote l at b e b'
wrote l at b e b' h w =
    let t = le-leb (at + length l) (length b) h in
    record { place = w.result ∙ ap (λ (x : Bool). place_behind x l at) t; buffer = w.buffer ∙ ap (λ (x : Bool). buffer_with x l at b) t }

-- in any case not past the end
pub write_inside : (l : List ℕ) (at : ℕ) (b : List ℕ) (e : ℕ) (b' : List ℕ) → at ≤ length b → WritePost l at b e b' → e ≤ length b
write_inside l at b e b' h w = go (leb (at + length l) (length b)) refl
  where
    go : (t : Bool) → leb (at + length l) (length b) ≡ t → e ≤ length b
    go true z = omega (arith, w.result ∙ ap (λ (x : Bool). place_behind x l at) z, leb-true (at + length l) (length b) z)
    go false z = omega (arith, w.result ∙ ap (λ (x : Bool). place_behind x l at) z)

write_size : (l : List ℕ) (at : ℕ) (b : List ℕ) (e : ℕ) (b' : List ℕ) → WritePost l at b e b' → length b' ≡ length b
write_size l at b e b' w = go (leb (at + length l) (length b)) refl
  where
    go : (t : Bool) → leb (at + length l) (length b) ≡ t → length b' ≡ length b
    go true z = ap length (w.buffer ∙ ap (λ (x : Bool). buffer_with x l at b) z) ∙ over-at-length l at b (leb-true (at + length l) (length b) z)
    go false z = ap length (w.buffer ∙ ap (λ (x : Bool). buffer_with x l at b) z)

-- ---- the lines of the records in a lent buffer

-- as many as were handed out are written as lines
records-wrote : (F : List Reply) (h h₀ : List ℕ) (n : ℕ) → h ≡ over (records F) h₀ → n ≡ length F → record_size * length F ≤ length h₀ → (at : ℕ) (b : List ℕ) (e : ℕ) (b' : List ℕ)
    → at + reply_line_size * length F ≤ length b → WritePost (first_lines n h) at b e b' → Wrote (reply_lines_lem F) at b e b'
records-wrote F h h₀ n is count few at b e b' room w =
    wrote (reply_lines_lem F) at b e b' (omega (arith, replies-length F)) (subst (λ (l : List ℕ). WritePost l at b e b') (first-lines F h h₀ n is count few) w)

-- ---- what happens, by another name

module _ (p : Processor) (at : ℕ) (b : List ℕ) where
  outcome_as : (o o' : Sweep → Outcome) (r : Stepped) (b' : List ℕ) → ((σ : Sweep) → Made σ p → o σ ≡ o' σ) → AnswerPost o' p at b r b' → AnswerPost o p at b r b'
  outcome_as o o' r b' e c =
      record {
        inside = c.inside;
        result = λ σ m. c.result σ m ∙ ap (λ (x : Outcome). stepped_by x p at) (sym (e σ m));
        output = λ σ m. c.output σ m ∙ ap (λ (x : Outcome). over-at (printed x) at b) (sym (e σ m));
      }

  -- a refusal gives back the processor that went in
  stop-same : (q : Processor) (k : Refusal) (r : Stepped) (b' : List ℕ) → ((σ : Sweep) → Made σ p → q ≡ p) → AnswerPost (λ σ. stops k) q at b r b'
      → AnswerPost (λ σ. stops k) p at b r b'
  stop-same q k r b' e c =
      record {
        inside = c.inside;
        result = λ σ m. c.result σ (made σ m) ∙ ap (λ (x : Processor). stepped_by (stops k) x at) (e σ m);
        output = λ σ m. c.output σ (made σ m);
      }
    where
      made : (σ : Sweep) → Made σ p → Made σ q
      made σ m = record { is = e σ m ∙ m.is; sound = m.sound }

  -- ---- a piece, lent a buffer of so many bytes, enough for all its replies

  module _ (P : Trace) (bytes : ℕ) (few : (σ : Sweep) → record_size * length (fresh_of σ P) ≤ bytes) (h₀ h : List ℕ) (lent : length h₀ ≡ bytes) (t : Answered) (post : TakePost p P h₀ t h) where
    count-fresh : (σ : Sweep) → count_of σ P ≡ length (fresh_of σ P)
    count-fresh none = refl
    count-fresh (running ω T) = refl

    handed-fresh : (σ : Sweep) → handed_out σ P ≡ records (fresh_of σ P)
    unfolding records
    handed-fresh none = refl
    handed-fresh (running ω T) = refl

    take-is : (σ : Sweep) → Made σ p → t ≡ take_as (take_answer_at σ P bytes) σ P
    take-is σ m = post.result σ m ∙ ap (λ (n : ℕ). take_as (take_answer_at σ P n) σ P) lent

    take-answer : (σ : Sweep) (v : RulesAnswer) → (take_as v σ P).answer ≡ answered v (count_of σ P)
    unfolding answered
    take-answer σ accepted = refl
    take-answer σ (refused k) = refl

    answer-of : (σ : Sweep) → Made σ p → t.answer ≡ answered (take_answer_at σ P bytes) (count_of σ P)
    answer-of σ m = ap (λ (x : Answered). x.answer) (take-is σ m) ∙ take-answer σ (take_answer_at σ P bytes)

    -- it was refused
    module _ (k : Refusal) (e : t.answer ≡ Err k) (σ : Sweep) (m : Made σ p) where
      pub turned_down : take_answer_at σ P bytes ≡ refused k
      turned_down = refused-is (take_answer_at σ P bytes) (count_of σ P) t.answer k (answer-of σ m) e

      pub given_back : t.processor ≡ p
      given_back = ap (λ (x : Answered). x.processor) (take-is σ m) ∙ ap (λ (v : RulesAnswer). (take_as v σ P).processor) turned_down ∙ sym m.is

    -- it was accepted, and its replies were written
    module _ (n : ℕ) (q : t.answer ≡ Ok n) (σ : Sweep) (m : Made σ p) where
      acc : Accepts (take_answer_at σ P bytes) (count_of σ P) n
      acc = accepted-is (take_answer_at σ P bytes) (count_of σ P) t.answer n (answer-of σ m) q

      pub was_accepted : take_answer_at σ P bytes ≡ accepted
      was_accepted = acc.is-accepted

      pub went_on : t.processor ≡ processor_of (longer σ P)
      went_on = ap (λ (x : Answered). x.processor) (take-is σ m) ∙ ap (λ (v : RulesAnswer). (take_as v σ P).processor) acc.is-accepted

      left : h ≡ over (records (fresh_of σ P)) h₀
      left =
          post.buffer σ m ∙ ap (λ (k : ℕ). take_buffer_as (take_answer_at σ P k) σ P h₀) lent ∙ ap (λ (v : RulesAnswer). take_buffer_as v σ P h₀) acc.is-accepted
          ∙ ap (λ (l : List ℕ). over l h₀) (handed-fresh σ)

      pub replies-wrote : (e : ℕ) (b' : List ℕ) → at + reply_line_size * length (fresh_of σ P) ≤ length b → WritePost (first_lines n h) at b e b' → Wrote (reply_lines_lem (fresh_of σ P)) at b e b'
      replies-wrote e b' room w = records-wrote (fresh_of σ P) h h₀ n left (acc.count ∙ count-fresh σ) (omega (arith, few σ, lent)) at b e b' room w

  module _ (room : at + line_most ≤ length b) where
    -- ---- a refusal

    stop_post : (k : Refusal) (e : ℕ) (b' : List ℕ) → WritePost (refusal_line_lem (number_of k)) at b e b' → AnswerPost (λ σ. stops k) p at b (record { step = Stops k e; processor = p }) b'
    stop_post k e b' w =
        let d = wrote (refusal_line_lem (number_of k)) at b e b' (omega arith) w in
        record {
          inside = write_inside (refusal_line_lem (number_of k)) at b e b' (omega arith) w;
          result = λ σ m. ap (λ (x : ℕ). record { step = Stops k x; processor = p }) d.place;
          output = λ σ m. d.buffer;
        }

    -- ---- opening

    module _ (ω : Opening) (o : Answered) (is : o ≡ open_of ω) where
      open-answer : (v : RulesAnswer) → (open_as v ω).answer ≡ answered v 0
      unfolding answered
      open-answer accepted = refl
      open-answer (refused k) = refl

      answer-is : o.answer ≡ answered (open_answer ω) 0
      unfolding open_of
      answer-is = ap (λ (x : Answered). x.answer) is ∙ open-answer (open_answer ω)

      pub open-refused : (k : Refusal) → o.answer ≡ Err k → (r : Stepped) (b' : List ℕ) → AnswerPost (λ σ. stops k) p at b r b'
          → AnswerPost (opened_at ω) p at b r b'
      open-refused k e r b' c =
          outcome_as (opened_at ω) (λ σ. stops k) r b'
          (λ σ m. ap (λ (v : RulesAnswer). opened_as v ω) (refused-is (open_answer ω) 0 o.answer k answer-is e)) c

      pub open-accepted : (n : ℕ) → o.answer ≡ Ok n
          → AnswerPost (opened_at ω) p at b (record { step = Goes at; processor = o.processor }) b
      unfolding open_of processor_of
      open-accepted n e =
          let a = accepted-is (open_answer ω) 0 o.answer n answer-is e in
          let q : o.processor ≡ running_processor ω nothing =
          ap (λ (x : Answered). x.processor) is ∙ ap (λ (v : RulesAnswer). (open_as v ω).processor) a.is-accepted in
          record {
            inside = omega arith;
            result = λ σ m.
                ap₂ (λ (x : ℕ) (y : Processor). record { step = Goes x; processor = y }) (sym (add-zero at)) q
                ∙ ap (λ (v : RulesAnswer). stepped_by (opened_as v ω) p at) (sym a.is-accepted);
            output = λ σ m. sym (over-at-nil at b) ∙ ap (λ (v : RulesAnswer). over-at (printed (opened_as v ω)) at b) (sym a.is-accepted);
          }

    -- ---- a piece of at most 64 ticks

    module _ (P : Trace) (small : length P.flags ≤ 64) (h₀ h : List ℕ) (lent : length h₀ ≡ line_room) (t : Answered) (post : TakePost p P h₀ t h) where
      fresh_few : (σ : Sweep) → record_size * length (fresh_of σ P) ≤ line_room
      fresh_few none = omega arith
      fresh_few (running ω T) = omega (arith, fresh-most standard T P)

      pub take-refused : (k : Refusal) → t.answer ≡ Err k → (r : Stepped) (b' : List ℕ) → AnswerPost (λ σ. stops k) t.processor at b r b'
          → AnswerPost (taken_at P) p at b r b'
      take-refused k e r b' c =
          outcome_as (taken_at P) (λ σ. stops k) r b'
          (λ σ m. ap (λ (v : RulesAnswer). taken_as v σ P) (turned_down P line_room fresh_few h₀ h lent t post k e σ m))
          (stop-same t.processor k r b' (λ σ m. given_back P line_room fresh_few h₀ h lent t post k e σ m) c)

      pub take-accepted : (n : ℕ) → t.answer ≡ Ok n → (e : ℕ) (b' : List ℕ) → WritePost (first_lines n h) at b e b'
          → AnswerPost (taken_at P) p at b (record { step = Goes e; processor = t.processor }) b'
      take-accepted n q e b' w =
          record {
            inside = write_inside (first_lines n h) at b e b' (omega arith) w;
            result = λ σ m.
                ap₂ (λ (x : ℕ) (y : Processor). record { step = Goes x; processor = y }) (put σ m).place (went_on P line_room fresh_few h₀ h lent t post n q σ m)
                ∙ ap (λ (v : RulesAnswer). stepped_by (taken_as v σ P) p at) (sym (accepts σ m));
            output = λ σ m. (put σ m).buffer ∙ ap (λ (v : RulesAnswer). over-at (printed (taken_as v σ P)) at b) (sym (accepts σ m));
          }
        where
          accepts : (σ : Sweep) → Made σ p → take_answer_at σ P line_room ≡ accepted
          accepts σ m = was_accepted P line_room fresh_few h₀ h lent t post n q σ m

          put : (σ : Sweep) → Made σ p → Wrote (reply_lines_lem (fresh_of σ P)) at b e b'
          put σ m = replies-wrote P line_room fresh_few h₀ h lent t post n q σ m e b' (omega (arith, fresh_few σ)) w

    -- ---- the close

    module _ (h₀ h : List ℕ) (lent : length h₀ ≡ close_room) (t : Closed) (post : ClosePost p h₀ t h) where
      rest_few : (σ : Sweep) → length (rest_of σ) ≤ most_left
      rest_few none = omega arith
      rest_few (running ω T) = rest-most standard standard_allowed T

      count-rest : (σ : Sweep) → left_count σ ≡ length (rest_of σ)
      count-rest none = refl
      count-rest (running ω T) = refl

      handed-rest : (σ : Sweep) → left_over σ ≡ records (rest_of σ)
      unfolding records
      handed-rest none = refl
      handed-rest (running ω T) = refl

      close-is : (σ : Sweep) → Made σ p → t ≡ close_as (close_answer_at σ close_room) σ
      close-is σ m = post.result σ m ∙ ap (λ (n : ℕ). close_as (close_answer_at σ n) σ) lent

      close-answer : (σ : Sweep) (v : RulesAnswer) → (close_as v σ).answer ≡ answered v (left_count σ)
      unfolding answered
      close-answer σ accepted = refl
      close-answer σ (refused k) = refl

      pub close-refused : (k : Refusal) → t.answer ≡ Err k → (r : Stepped) (b' : List ℕ) → AnswerPost (λ σ. stops k) t.processor at b r b'
          → AnswerPost closed_at p at b r b'
      close-refused k e r b' c =
          outcome_as closed_at (λ σ. stops k) r b' (λ σ m. ap (λ (v : RulesAnswer). closed_as v σ) (is-refused σ m))
          (stop-same t.processor k r b'
          (λ σ m. ap (λ (x : Closed). x.processor) (close-is σ m) ∙ ap (λ (v : RulesAnswer). (close_as v σ).processor) (is-refused σ m) ∙ sym m.is) c)
        where
          is-refused : (σ : Sweep) → Made σ p → close_answer_at σ close_room ≡ refused k
          is-refused σ m = refused-is (close_answer_at σ close_room) (left_count σ) t.answer k (ap (λ (x : Closed). x.answer) (close-is σ m) ∙ close-answer σ (close_answer_at σ close_room)) e

      pub close-accepted : (n : ℕ) → t.answer ≡ Ok n → (e f : ℕ) (b₁ b' : List ℕ)
          → WritePost (first_lines n h) at b e b₁ → WritePost (totals_line_lem t.totals) e b₁ f b'
          → AnswerPost closed_at p at b (record { step = Goes f; processor = t.processor }) b'
      unfolding processor_of
      close-accepted n q e f b₁ b' w₁ w₂ =
          record {
            inside = omega (arith, write_inside (totals_line_lem t.totals) e b₁ f b' (omega (arith, same, write_inside (first_lines n h) at b e b₁ (omega arith) w₁)) w₂, same);
            result = λ σ m.
                ap₂ (λ (x : ℕ) (y : Processor). record { step = Goes x; processor = y }) (both σ m).place
                (ap (λ (x : Closed). x.processor) (close-is σ m) ∙ ap (λ (v : RulesAnswer). (close_as v σ).processor) (acc σ m).is-accepted)
                ∙ ap (λ (v : RulesAnswer). stepped_by (closed_as v σ) p at) (sym (acc σ m).is-accepted);
            output = λ σ m. (both σ m).buffer ∙ ap (λ (v : RulesAnswer). over-at (printed (closed_as v σ)) at b) (sym (acc σ m).is-accepted);
          }
        where
          same : length b₁ ≡ length b
          same = write_size (first_lines n h) at b e b₁ w₁

          acc : (σ : Sweep) → Made σ p → Accepts (close_answer_at σ close_room) (left_count σ) n
          acc σ m = accepted-is (close_answer_at σ close_room) (left_count σ) t.answer n (ap (λ (x : Closed). x.answer) (close-is σ m) ∙ close-answer σ (close_answer_at σ close_room)) q

          left : (σ : Sweep) → Made σ p → h ≡ over (records (rest_of σ)) h₀
          left σ m =
              post.buffer σ m ∙ ap (λ (k : ℕ). close_buffer_as (close_answer_at σ k) σ h₀) lent ∙ ap (λ (v : RulesAnswer). close_buffer_as v σ h₀) (acc σ m).is-accepted
              ∙ ap (λ (l : List ℕ). over l h₀) (handed-rest σ)

          totals_are : (σ : Sweep) → Made σ p → t.totals ≡ totals_of_lem σ
          totals_are σ m = ap (λ (x : Closed). x.totals) (close-is σ m) ∙ ap (λ (v : RulesAnswer). (close_as v σ).totals) (acc σ m).is-accepted

          put : (σ : Sweep) → Made σ p → Wrote (reply_lines_lem (rest_of σ)) at b e b₁
          put σ m =
              records-wrote (rest_of σ) h h₀ n (left σ m) ((acc σ m).count ∙ count-rest σ) (omega (arith, rest_few σ, lent)) at b e b₁ (omega (arith, rest_few σ)) w₁

          both : (σ : Sweep) → Made σ p → Wrote (reply_lines_lem (rest_of σ) ++ totals_line_lem (totals_of_lem σ)) at b f b'
          both σ m =
              let R = reply_lines_lem (rest_of σ) in
              let T = totals_line_lem (totals_of_lem σ) in
              let one = put σ m in
              let size-R = replies-length (rest_of σ) in
              let size-T = totals-length (totals_of_lem σ) in
              let few = rest_few σ in
              let two = wrote T e b₁ f b' (omega (arith, one.place, size-R, size-T, few, same)) (subst (λ (x : Totals). WritePost (totals_line_lem x) e b₁ f b') (totals_are σ m) w₂) in
              record {
                place = omega (arith, one.place, two.place, length-append R T);
                buffer = over-at-next R T b b₁ b' at e one.place (omega (arith, one.place, size-R, few)) one.buffer two.buffer;
              }

-- ---- what was printed beside an answer

module _ (p : Processor) (at : ℕ) (b : List ℕ) (room : at + line_most ≤ length b) where
  pub take_step : (P : Trace) → length P.flags ≤ 64 → (h₀ h : List ℕ) → length h₀ ≡ line_room → (t : Answered) → TakePost p P h₀ t h → (s : Step) (b' : List ℕ) → TakeShown t.answer h at b s b'
      → AnswerPost (taken_at P) p at b (record { step = s; processor = t.processor }) b'
  take_step P small h₀ h lent t post s b' w =
      subst (λ (x : Step). AnswerPost (taken_at P) p at b (record { step = x; processor = t.processor }) b') (sym w.step) (go t.answer refl w.prints)
    where
      go : (a : Answer) → t.answer ≡ a → TakePrints a h at b w.place b'
          → AnswerPost (taken_at P) p at b (record { step = step_of a w.place; processor = t.processor }) b'
      go (Ok n) e q = take-accepted p at b room P small h₀ h lent t post n e w.place b' q
      go (Err k) e q =
          take-refused p at b room P small h₀ h lent t post k e (record { step = Stops k w.place; processor = t.processor }) b'
          (stop_post t.processor at b room k w.place b' q)

  pub close-step : (h₀ h : List ℕ) → length h₀ ≡ close_room → (t : Closed) → ClosePost p h₀ t h → (s : Step) (b' : List ℕ) → CloseShown t.answer t.totals h at b s b'
      → AnswerPost closed_at p at b (record { step = s; processor = t.processor }) b'
  close-step h₀ h lent t post s b' w =
      subst (λ (x : Step). AnswerPost closed_at p at b (record { step = x; processor = t.processor }) b') (sym w.step) (go t.answer refl w.prints)
    where
      go : (a : Answer) → t.answer ≡ a → ClosePrints a t.totals h at b w.place b'
          → AnswerPost closed_at p at b (record { step = step_of a w.place; processor = t.processor }) b'
      go (Ok n) e q = close-accepted p at b room h₀ h lent t post n e q.middle w.place q.between b' q.first q.then-totals
      go (Err k) e q =
          close-refused p at b room h₀ h lent t post k e (record { step = Stops k w.place; processor = t.processor }) b'
          (stop_post t.processor at b room k w.place b' q)

-- ---- parts of a list

-- n of the bytes
pub part_length : (l : List ℕ) (n : ℕ) → n ≤ length l → n ≡ length (take n l)
part_length l n h = sym (length-take-le n l h)

-- ---- a line read

over-length : (l b : List ℕ) → length l ≤ length b → length (over l b) ≡ length b
unfolding over
over-length l b h = length-append l (drop (length l) b) ∙ omega (arith, length-drop (length l) b)

flags-after : (x : Reading) → Sized x → (b : List ℕ) → length b ≡ 64 → 64 ≡ length (flags_after x b)
flags-after (opening ω) s b h = sym h
flags-after (samples P) s b h = sym (over-length P.flags b (omega (arith, s.most)) ∙ h)
flags-after closing s b h = sym h
flags-after (unread k) s b h = sym h

values-after : (x : Reading) → Sized x → (b : List ℕ) → length b ≡ 64 → 64 ≡ length (values_after x b)
values-after (opening ω) s b h = sym h
values-after (samples P) s b h = sym (over-length P.values b (omega (arith, s.most, s.alike)) ∙ h)
values-after closing s b h = sym h
values-after (unread k) s b h = sym h

count_most : (x : Reading) → Sized x → count_in_lem (line_of x) ≤ 64
count_most (opening ω) s = omega arith
count_most (samples P) s = s.most
count_most closing s = omega arith
count_most (unread k) s = omega arith

-- the frame of a line, with the samples that it left in the buffers, is what the line says
said-reading : (x : Reading) → Sized x → (f v : List ℕ) (σ : Sweep) → said_at (line_of x) (flags_after x f) (values_after x v) σ ≡ outcome_at σ x
unfolding over
said-reading (opening ω) s f v σ = refl
said-reading (samples P) s f v σ =
    ap₂ (λ (a b : List ℕ). taken_as (take_answer_at σ (piece_of a b) line_room) σ (piece_of a b))
    (take-append_seam P.flags (drop (length P.flags) f))
    (ap (λ (n : ℕ). take n (P.values ++ drop (length P.values) v)) s.alike ∙ take-append_seam P.values (drop (length P.values) v))
said-reading closing s f v σ = refl
said-reading (unread k) s f v σ = refl

module _ (line f₀ v₀ : List ℕ) (said : Line) (f v : List ℕ) (read : ReadPost line f₀ v₀ said f v) where
  pub flags-lent : length f₀ ≡ 64 → 64 ≡ length f
  flags-lent h = flags-after (reading line) (reading_sized line) f₀ h ∙ ap length (sym read.flag_bytes)

  pub values-lent : length v₀ ≡ 64 → 64 ≡ length v
  values-lent h = values-after (reading line) (reading_sized line) v₀ h ∙ ap length (sym read.value_bytes)

  pub said-most : count_in_lem said ≤ 64
  said-most = omega (arith, ap count_in_lem read.result, count_most (reading line) (reading_sized line))

  said-is : (σ : Sweep) → said_at said f v σ ≡ line_at σ line
  unfolding line_at
  said-is σ =
      ap (λ (l : Line). said_at l f v σ) read.result
      ∙ ap₂ (λ (a b : List ℕ). said_at (line_of (reading line)) a b σ) read.flag_bytes read.value_bytes
      ∙ said-reading (reading line) (reading_sized line) f₀ v₀ σ

  pub step_post : (p : Processor) (at : ℕ) (b : List ℕ) → has_room_lem at b ≡ true → (r : Stepped) (b' : List ℕ) → AnswerPost (said_at said f v) p at b r b' → StepPost p line at b r b'
  step_post p at b q r b' c =
      record {
        inside = λ h. c.inside;
        result = λ σ m.
            c.result σ m ∙ ap (λ (o : Outcome). stepped_by o p at) (said-is σ) ∙ ap (λ (t : Bool). stepped_as t (line_at σ line) p at) (sym q);
        output = λ σ m.
            c.output σ m ∙ ap (λ (o : Outcome). over-at (printed o) at b) (said-is σ) ∙ ap (λ (t : Bool). output_as t (line_at σ line) at b) (sym q);
      }

-- no room
pub full_post : (p : Processor) (line : List ℕ) (at : ℕ) (b : List ℕ) → has_room_lem at b ≡ false → StepPost p line at b (record { step = Full; processor = p }) b
full_post p line at b q =
    record {
      inside = λ h. h;
      result = λ σ m. ap (λ (t : Bool). stepped_as t (line_at σ line) p at) (sym q);
      output = λ σ m. ap (λ (t : Bool). output_as t (line_at σ line) at b) (sym q);
    }
