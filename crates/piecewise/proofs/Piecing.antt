-- The pieces of a trace that nothing turns down: none of their takes is refused, and neither is the close.
use Rattle.std.specs.Result.{result_unwrap_or}
use Prim.Native.Nat.{ℕ, ◌+◌, ◌-◌, ◌*◌, ◌/◌, ◌≤◌, ◌<◌, min}
use native.Mathlib.Omega.{arith}
use mathlib.Core.Path.{◌≡◌, refl, sym, ap, ◌∙◌, subst}
use mathlib.Core.Bool.{true, false}
use mathlib.Core.List.{List}
use lib.ListN.{length, take, drop, replicate, length-drop, take-append-drop}
use lib.Seq.{length-take-le}
use borrow.Author.Tests.{le-ltb, eq-eqb}
use borrow.Rule.Slice.PartMut.{mid_of, put_mid}
use Rattle.rules.specs.declared.Opening.{Opening}
use Rattle.rules.specs.Lists.{any, All}
use Rattle.rules.specs.Samples.{Trace, nothing, bad, piece_limit, sweep_limit}
use Rattle.rules.specs.Settings.{standard}
use Rattle.rules.specs.Records.{record_size, totals_size}
use Rattle.rules.specs.declared.Refusal.{Refusal}
use Rattle.rules.specs.Calls.{Answer, accepted, refused, take_answer, close_answer, take_room, close_room, fresh}
use Rattle.rules.proofs.ListLaws.{any-first, any-second}
use Rattle.rules.proofs.HandingOut.{fresh-most}
use Rattle.processor.specs.declared.Processor.{Processor}
use Rattle.processor.specs.State.{running}
use Rattle.calls.specs.declared.Answered.{Answered}
use Rattle.calls.specs.declared.Closed.{Closed}
use Rattle.std.specs.Prelude.{Ok}
use Rattle.calls.specs.Post.{open_of, take_answer_at, close_answer_at, TakePost, ClosePost}
use Rattle.whole_refusals.specs.Whole.{whole_answer}
use Rattle.takes.specs.Post.{part}
use Rattle.takes.proofs.Taking.{all_take, all_drop, up_to, between, up_more, up_all}
use Rattle.std.specs.Int.{div_ceil}
use Rattle.piecewise.proofs.Turns.{begin, begin_here, begin_next}
use Rattle.whole.proofs.Answering.{Clear, clear}
use Rattle.piecewise.specs.declared.Swept.{Swept}
use Rattle.piecewise.specs.Post.{swept_as, buffer_as, ByCallsPost, Calls}
use Rattle.piecewise.proofs.Growing.{none_yet, few, count-is, take_more, left_few, totals_are, buffer-all, count-all}

-- a part of a list with no bad byte has none
good-part : (i e : ℕ) (l : List ℕ) → any bad l ≡ false → any bad (part i e l) ≡ false
good-part i e l h =
    let d : any bad (drop i l) ≡ false = any-second bad (take i l) (drop i l) (ap (any bad) (take-append-drop i l) ∙ h) in
    any-first bad (part i e l) (drop (e - i) (drop i l)) (ap (any bad) (take-append-drop (e - i) (drop i l)) ∙ d)

-- ---- what an accepted sweep shows

-- the sum of the rooms of two pieces is at most one block more than that of both
rooms : (i e n room at : ℕ) → i ≤ e → e ≤ n → at ≤ take_room i → take_room n + close_room ≤ room → take_room (e - i) ≤ room - at
rooms i e n room at a b c d = omega arith

take-clear : (taken : ℕ) (P : Trace) (room : ℕ) → length P.flags ≡ length P.values → length P.flags ≤ piece_limit → taken + length P.flags ≤ sweep_limit
    → take_room (length P.flags) ≤ room → any bad P.flags ≡ false → take_answer true taken P room ≡ accepted
unfolding take_answer
take-clear taken P room a b c d e =
    rw (eq-eqb (length P.flags) (length P.values) a, le-ltb piece_limit (length P.flags) b, le-ltb sweep_limit (taken + length P.flags) c, le-ltb room (take_room (length P.flags)) d, e)

close-clear : (room : ℕ) → close_room ≤ room → close_answer true room ≡ accepted
unfolding close_answer
close-clear room h = rw (le-ltb room close_room h)

-- the calls have taken the first i ticks
pub record Pieces (ω : Opening) (T : Trace) (b₀ : List ℕ) (p : Processor) (at i : ℕ) (b : List ℕ) : Type 0 where
  pub taken : Calls ω (up_to i T) b₀ p at b
  pub reach : i ≤ length T.flags
  pub size : length b ≡ length b₀

-- so it is for every opening that p₀ is the processor of, where nothing turns the sweep down
pub record FromOpening (T : Trace) (piece : ℕ) (b₀ : List ℕ) (p₀ p : Processor) (at i : ℕ) (b : List ℕ) : Type 0 where
  pub pieces : (ω : Opening) → p₀ ≡ (open_of ω).processor → whole_answer ω T piece (length b₀) totals_size ≡ accepted → Pieces ω T b₀ p at i b

-- a sweep is turned down: nothing is written
pub turned_away : (ω : Opening) (T : Trace) (piece : ℕ) (b : List ℕ) (r : Swept) (k : Refusal) → whole_answer ω T piece (length b) totals_size ≡ refused k
    → r ≡ swept_as (refused k) T → ByCallsPost ω T piece b r b
turned_away ω T piece b r k v is =
    record { result = is ∙ ap (λ (x : Answer). swept_as x T) (sym v); buffer = ap (λ (x : Answer). buffer_as x T b) (sym v) }

module _ (ω : Opening) (T : Trace) (piece : ℕ) (b₀ : List ℕ) (ok : whole_answer ω T piece (length b₀) totals_size ≡ accepted) where
  shows : Clear ω T piece b₀ (replicate {A = ℕ} totals_size 0)
  shows = clear ω T piece b₀ (replicate {A = ℕ} totals_size 0) ok

  pub some : 1 ≤ piece
  some = shows.some

  pub alike : length T.flags ≡ length T.values
  alike = shows.alike

  -- before the first piece
  pub pieces_start : (p : Processor) → p ≡ (open_of ω).processor → Pieces ω T b₀ p 0 0 b₀
  pieces_start p is =
      record {
        taken = subst (λ (q : Processor). Calls ω nothing b₀ q 0 b₀) (sym is) (none_yet ω shows.opens b₀);
        reach = omega arith;
        size = refl;
      }

  -- where piece k begins, and where it ends
  module _ (p : Processor) (at k : ℕ) (b : List ℕ) (more : k < div_ceil (length T.flags) piece) where
    pub pieces_here : Pieces ω T b₀ p at (begin (length T.flags) piece k) b → Pieces ω T b₀ p at (k * piece) b
    pieces_here h = subst (λ (i : ℕ). Pieces ω T b₀ p at i b) (begin_here (length T.flags) piece some k more) h

    pub pieces_there : (end : ℕ) → end ≡ k * piece + min piece (length T.flags - k * piece) → Pieces ω T b₀ p at end b → Pieces ω T b₀ p at (begin (length T.flags) piece (k + 1)) b
    pieces_there end e h = subst (λ (i : ℕ). Pieces ω T b₀ p at i b) (begin_next (length T.flags) piece some k end more e) h

  module _ (p : Processor) (at i : ℕ) (b : List ℕ) (h : Pieces ω T b₀ p at i b) where
    size_i : length (take i T.flags) ≡ i
    size_i = length-take-le i T.flags h.reach

    pub at_most : at ≤ take_room i
    at_most = omega (arith, few ω shows.opens (up_to i T) b₀ p at b h.taken, size_i)

    pub room-left : at + close_room ≤ length b
    room-left = omega (arith, at_most, shows.room, h.size, h.reach)

    -- one more
    module _ (bytes : All (λ v. v ≤ 255) T.values) (end : ℕ) (step : end ≡ i + min piece (length T.flags - i)) (r : Answered) (m' : List ℕ)
        (post : TakePost p (between i end T) (mid_of at (length b - at) b) r m') where
      here : end ≤ length T.flags
      here = omega (arith, step, h.reach)

      on : i ≤ end
      on = omega (arith, step)

      size-P : length (part i end T.flags) ≡ end - i
      size-P = length-take-le (end - i) (drop i T.flags) (omega (arith, length-drop i T.flags, here))

      alike-P : length (part i end T.flags) ≡ length (part i end T.values)
      alike-P = size-P ∙ sym (length-take-le (end - i) (drop i T.values) (omega (arith, length-drop i T.values, here, alike)))

      room-P : take_room (length (part i end T.flags)) ≤ length b - at
      room-P = omega (arith, size-P, rooms i end (length T.flags) (length b) at on here at_most (omega (arith, shows.room, h.size)))

      accepts : take_answer_at (running ω (up_to i T)) (between i end T) (length b - at) ≡ accepted
      unfolding take_answer_at
      accepts =
          take-clear (length (take i T.flags)) (between i end T) (length b - at) alike-P (omega (arith, size-P, step, shows.limit))
          (omega (arith, size-P, size_i, here, shows.short)) room-P (good-part i end T.flags shows.good)

      bytes-P : All (λ v. v ≤ 255) (part i end T.values)
      bytes-P = all_take (end - i) (drop i T.values) (all_drop i T.values bytes)

      count : result_unwrap_or r.answer 0 ≡ length (fresh standard (up_to i T) (between i end T))
      count = count-is ω shows.opens (up_to i T) b₀ p at b h.taken h.size (between i end T) r m' post bytes-P accepts

      module _ (k : ℕ) (e : k ≡ result_unwrap_or r.answer 0) where
        -- the place behind its records is a small number
        pub count_small : at + record_size * k ≤ sweep_limit
        count_small = omega (arith, e, count, fresh-most standard (up_to i T) (between i end T), size-P, here, at_most, h.reach, shows.short)

        pub pieces_next : length (put_mid at (length b - at) b m') ≡ length b → Pieces ω T b₀ r.processor (at + record_size * k) end (put_mid at (length b - at) b m')
        pieces_next l =
            let c = take_more ω shows.opens (up_to i T) b₀ p at b h.taken h.size (between i end T) r m' post bytes-P accepts in
            let c' = subst (λ (R : Trace). Calls ω R b₀ r.processor (at + record_size * result_unwrap_or r.answer 0) (put_mid at (length b - at) b m')) (up_more T i end on) c in
            record {
              taken = subst (λ (n : ℕ). Calls ω (up_to end T) b₀ r.processor (at + record_size * n) (put_mid at (length b - at) b m')) (sym e) c';
              reach = here;
              size = l ∙ h.size;
            }

    -- all are taken
    pub pieces_end : length T.flags ≤ i → Calls ω T b₀ p at b
    pieces_end l = subst (λ (R : Trace). Calls ω R b₀ p at b) (up_all T i (omega (arith, l, h.reach)) alike) h.taken

  -- ---- the close

  module _ (p : Processor) (at : ℕ) (b : List ℕ) (h : Calls ω T b₀ p at b) (size : length b ≡ length b₀) where
    close-room : close_room ≤ length b - at
    close-room = omega (arith, few ω shows.opens T b₀ p at b h, shows.room, size)

    module _ (x : Closed) (m' : List ℕ) (post : ClosePost p (mid_of at (length b - at) b) x m') where
      close-accepts : close_answer_at (running ω T) (length b - at) ≡ accepted
      unfolding close_answer_at
      close-accepts = close-clear (length b - at) close-room

      pub close_few : result_unwrap_or x.answer 0 ≤ 8
      close_few = left_few ω shows.opens T b₀ p at b h size x m' post close-accepts

      pub swept_all : (k : ℕ) → k ≡ result_unwrap_or x.answer 0 → (r : Swept) → r ≡ record { answer = Ok (at / record_size + k); totals = x.totals }
          → ByCallsPost ω T piece b₀ r (put_mid at (length b - at) b m')
      swept_all k e r is =
          let n = ap (λ (j : ℕ). at / record_size + j) e ∙ count-all ω shows.opens T b₀ p at b h size x m' post close-accepts in
          let t = totals_are ω shows.opens T b₀ p at b h size x m' post close-accepts in
          let s : record { answer = Ok (at / record_size + k); totals = x.totals } ≡ swept_as accepted T = λ i. record { answer = Ok (n i); totals = t i } in
          record {
            result = is ∙ s ∙ ap (λ (v : Answer). swept_as v T) (sym ok);
            buffer = buffer-all ω shows.opens T b₀ p at b h size x m' post close-accepts ∙ ap (λ (v : Answer). buffer_as v T b₀) (sym ok);
          }
