-- A list of calls grows by one: by a take that nothing turns down, or by the close. Everything that is known of processor, replies and totals comes from
-- the theorem over lists of calls.
use Rattle.std.specs.Result.{result_unwrap_or}
use Prim.Native.Nat.{ℕ, ◌+◌, ◌-◌, ◌*◌, ◌/◌, ◌≤◌}
use native.Mathlib.Omega.{arith}
use mathlib.Core.Path.{◌≡◌, refl, sym, ap, ap₂, ◌∙◌, subst}
use mathlib.Core.Bool.{true}
use mathlib.Core.List.{List, [], ◌∷◌, ◌++◌, append-nil}
use lib.ListN.{length, take, drop, length-append, length-drop}
use borrow.Rule.Slice.PartMut.{mid_of, put_mid}
use Rattle.rules.specs.declared.Opening.{Opening}
use Rattle.rules.specs.declared.Reply.{Reply}
use Rattle.rules.specs.declared.Totals.{Totals}
use Rattle.rules.specs.Settings.{standard}
use Rattle.rules.specs.Lists.{All}
use Rattle.rules.specs.Samples.{Trace, nothing, ◌⧺◌}
use Rattle.rules.specs.Buffers.{over, over-at}
use Rattle.rules.specs.Machine.{final}
use Rattle.rules.specs.Records.{records, record_size, replies, totals, first_records}
use Rattle.rules.specs.Calls.{Answer, accepted, open_answer, most_replies, most_left, handed, fresh, rest}
use Rattle.rules.proofs.Answers.{standard_allowed, took, first-records, join_nothing}
use Rattle.rules.proofs.HandingOut.{fresh-most, rest-most}
use Rattle.rules.proofs.Joining.{records-length}
use Rattle.processor.specs.declared.Processor.{Processor}
use Rattle.processor.specs.State.{running, running_processor, processor_of, Within, Made}
use Rattle.calls.specs.declared.Answered.{Answered}
use Rattle.calls.specs.declared.Closed.{Closed}
use Rattle.calls.specs.Post.{open_as, open_of, take_answer_at, take_as, take_buffer_as, close_answer_at, close_as, close_buffer_as, TakePost, ClosePost}
use Rattle.calls.specs.Whole.{Call, taking, closing, Meets, Chain, piece_by, joined_trace, handed_by, all_handed_out, totals_by, all_totals, Whole, Begins}
use Rattle.calls.proofs.Calls.{demand_3}
use Rattle.takes.proofs.Pieces.{over-rest, mid_is, post_is}
use Rattle.takes.proofs.Taking.{over-more, handed-most}
use Rattle.piecewise.specs.Post.{Calls}
use Rattle.piecewise.proofs.Lists.{chain_more, last_more, joined-more, handed-more, totals-more}

-- ---- buffers

-- bytes at the start of the rest of a buffer stand behind those at its start
landed : (l k b₀ b m' : List ℕ) (at : ℕ) → b ≡ over l b₀ → at ≡ length l → at ≤ length b₀ → length b ≡ length b₀ → m' ≡ over k (mid_of at (length b - at) b)
    → put_mid at (length b - at) b m' ≡ over (l ++ k) b₀
landed l k b₀ b m' at is place inside size e =
    ap₂ (λ (y z : List ℕ). take at b ++ (y ++ z)) (e ∙ ap (over k) (mid_is at b)) (post_is at b (omega arith))
    ∙ ap (λ (y : List ℕ). take at b ++ y) (append-nil (over k (drop at b)))
    ∙ over-rest k at b
    ∙ ap (over-at k at) is
    ∙ over-more l k b₀ at place inside

-- the rest of a buffer
rest-size : (at : ℕ) (b : List ℕ) → length (mid_of at (length b - at) b) ≡ length b - at
rest-size at b = ap length (mid_is at b) ∙ length-drop at b

-- ---- the theorem, for the calls so far

module _ (ω : Opening) (opens : open_answer ω ≡ accepted) where
  begins : Begins ω (open_of ω)
  unfolding open_of
  begins = record { opened = refl; count = 0; accepts = ap (λ (v : Answer). (open_as v ω).answer) opens }

  -- before the first
  pub none_yet : (b : List ℕ) → Calls ω nothing b (open_of ω).processor 0 b
  unfolding over
  none_yet b = record { calls = []; chain = tt; leaves = refl; joined = refl; unclosed = refl; place = refl; inside = omega arith; buffer = refl }

  module _ (T : Trace) (b₀ : List ℕ) (p : Processor) (at : ℕ) (b : List ℕ) (h : Calls ω T b₀ p at b) where
    whole : Whole ω (open_of ω).processor h.calls
    whole = demand_3.whole ω (open_of ω) begins h.calls h.chain

    sound : Within ω T
    sound = subst (Within ω) h.joined whole.within

    made : Made (running ω T) p
    unfolding processor_of
    made = record { is = sym h.leaves ∙ (whole.unclosed h.unclosed).0 ∙ ap (running_processor ω) h.joined; sound = sound }

    -- what was handed out are the replies due
    due_there : all_handed_out h.calls ≡ records (handed standard T)
    due_there = (whole.unclosed h.unclosed).1 ∙ ap (λ (R : Trace). records (handed standard R)) h.joined

    pub few : at ≤ record_size * most_replies (length T.flags)
    few = omega (arith, h.place, ap length due_there, records-length (handed standard T), handed-most T)

    module _ (size : length b ≡ length b₀) where
      -- ---- a take more

      module _ (P : Trace) (r : Answered) (m' : List ℕ) (post : TakePost p P (mid_of at (length b - at) b) r m') (bytes : All (λ v. v ≤ 255) P.values)
          (clear : take_answer_at (running ω T) P (length b - at) ≡ accepted) where
        abbrev m : List ℕ
        m = mid_of at (length b - at) b

        abbrev F : List Reply
        F = fresh standard T P

        abbrev c : Call
        c = taking P m r m'

        accepts : take_answer_at (running ω T) P (length m) ≡ accepted
        accepts = ap (take_answer_at (running ω T) P) (rest-size at b) ∙ clear

        result-is : r ≡ take_as accepted (running ω T) P
        result-is = post.result (running ω T) made ∙ ap (λ (v : Answer). take_as v (running ω T) P) accepts

        buffer-is : m' ≡ over (records F) m
        buffer-is = post.buffer (running ω T) made ∙ ap (λ (v : Answer). take_buffer_as v (running ω T) P m) accepts

        pub count-is : result_unwrap_or r.answer 0 ≡ length F
        count-is = ap (λ (t : Answered). result_unwrap_or t.answer 0) result-is

        handed-is : handed_by r.answer m' ≡ records F
        handed-is = ap (λ (t : Answered). handed_by t.answer m') result-is ∙ ap (first_records (length F)) buffer-is ∙ first-records F m

        all-handed : all_handed_out (h.calls ++ (c ∷ [])) ≡ all_handed_out h.calls ++ records F
        all-handed = handed-more h.calls c ∙ ap (λ (l : List ℕ). all_handed_out h.calls ++ l) handed-is

        fits : at + record_size * length F ≤ length b₀
        unfolding take_answer_at
        fits = omega (arith, h.inside, size, (took true (length T.flags) P (length b - at) clear).fits, fresh-most standard T P)

        pub take_more : Calls ω (T ⧺ P) b₀ r.processor (at + record_size * result_unwrap_or r.answer 0) (put_mid at (length b - at) b m')
        take_more =
            record {
              calls = h.calls ++ (c ∷ []);
              chain = chain_more h.calls (open_of ω).processor c h.chain bytes (subst (λ (q : Processor). Meets q c) (sym h.leaves) post);
              leaves = last_more h.calls (open_of ω).processor c;
              joined =
                  joined-more h.calls c
                  ∙ ap₂ (λ (R S : Trace). R ⧺ S) h.joined (ap (λ (t : Answered). piece_by t.answer P) result-is);
              unclosed = totals-more h.calls c ∙ ap (λ (l : List Totals). l ++ []) h.unclosed;
              place = omega (arith, h.place, count-is, ap length all-handed, length-append (all_handed_out h.calls) (records F), records-length F);
              inside = omega (arith, fits, count-is);
              buffer = landed (all_handed_out h.calls) (records F) b₀ b m' at h.buffer h.place h.inside size buffer-is ∙ ap (λ (l : List ℕ). over l b₀) (sym all-handed);
            }

      -- ---- the close

      module _ (x : Closed) (m' : List ℕ) (post : ClosePost p (mid_of at (length b - at) b) x m') (clear : close_answer_at (running ω T) (length b - at) ≡ accepted) where
        abbrev cm : List ℕ
        cm = mid_of at (length b - at) b

        abbrev R : List Reply
        R = rest standard T

        abbrev d : Call
        d = closing cm x m'

        close-accepts : close_answer_at (running ω T) (length cm) ≡ accepted
        close-accepts = ap (close_answer_at (running ω T)) (rest-size at b) ∙ clear

        closed_is : x ≡ close_as accepted (running ω T)
        closed_is = post.result (running ω T) made ∙ ap (λ (v : Answer). close_as v (running ω T)) close-accepts

        left_is : m' ≡ over (records R) cm
        left_is = post.buffer (running ω T) made ∙ ap (λ (v : Answer). close_buffer_as v (running ω T) cm) close-accepts

        left-count : result_unwrap_or x.answer 0 ≡ length R
        left-count = ap (λ (t : Closed). result_unwrap_or t.answer 0) closed_is

        pub left_few : result_unwrap_or x.answer 0 ≤ most_left
        left_few = omega (arith, left-count, rest-most standard standard_allowed T)

        left-handed : handed_by x.answer m' ≡ records R
        left-handed = ap (λ (t : Closed). handed_by t.answer m') closed_is ∙ ap (first_records (length R)) left_is ∙ first-records R cm

        -- the whole list, with the close at its end
        ds_chain : Chain (open_of ω).processor (h.calls ++ (d ∷ []))
        ds_chain = chain_more h.calls (open_of ω).processor d h.chain tt (subst (λ (q : Processor). Meets q d) (sym h.leaves) post)

        ds_joined : joined_trace (h.calls ++ (d ∷ [])) ≡ T
        ds_joined = joined-more h.calls d ∙ ap (λ (S : Trace). S ⧺ nothing) h.joined ∙ join_nothing T

        ds_handed : all_handed_out (h.calls ++ (d ∷ [])) ≡ all_handed_out h.calls ++ records R
        ds_handed = handed-more h.calls d ∙ ap (λ (l : List ℕ). all_handed_out h.calls ++ l) left-handed

        ds_totals : all_totals (h.calls ++ (d ∷ [])) ≡ x.totals ∷ []
        ds_totals =
            totals-more h.calls d
            ∙ ap (λ (l : List Totals). l ++ totals_by x.answer x.totals) h.unclosed
            ∙ ap (λ (t : Closed). totals_by t.answer x.totals) closed_is

        ds_whole : Whole ω (open_of ω).processor (h.calls ++ (d ∷ []))
        ds_whole = demand_3.whole ω (open_of ω) begins (h.calls ++ (d ∷ [])) ds_chain

        -- every reply is handed out, and the totals are those of the rules
        every : all_handed_out (h.calls ++ (d ∷ [])) ≡ records (replies (final standard T))
        every = (ds_whole.closed x.totals [] ds_totals).2 ∙ ap (λ (S : Trace). records (replies (final standard S))) ds_joined

        pub totals_are : x.totals ≡ totals (final standard T)
        totals_are = (ds_whole.closed x.totals [] ds_totals).1.rules ∙ ap (λ (S : Trace). totals (final standard S)) ds_joined

        pub buffer-all : put_mid at (length b - at) b m' ≡ over (records (replies (final standard T))) b₀
        buffer-all =
            landed (all_handed_out h.calls) (records R) b₀ b m' at h.buffer h.place h.inside size left_is
            ∙ ap (λ (l : List ℕ). over l b₀) (sym ds_handed ∙ every)

        pub count-all : at / record_size + result_unwrap_or x.answer 0 ≡ length (replies (final standard T))
        count-all =
            omega
            (arith, h.place, left-count, ap length ds_handed, length-append (all_handed_out h.calls) (records R), records-length R, ap length every, records-length (replies (final standard T)))
