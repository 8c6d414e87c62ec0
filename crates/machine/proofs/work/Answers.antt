-- `work` takes a piece block by block, and of each block the ticks to visit, lowest first.
use Prim.Native.Nat.{ℕ, ◌+◌, ◌-◌, ◌<◌}
use native.Mathlib.Omega.{arith}
use mathlib.Core.Path.{◌≡◌, refl, sym, ap, ◌∙◌, subst}
use mathlib.Core.List.{List}
use lib.ListN.{length, get_or}
use borrow.Author.Rules.{rules}
use borrow.Author.Tests.{eqb-true}
use Rattle.rules.specs.declared.Place.{Place}
use Rattle.rules.specs.declared.Pulse.{Pulse}
use Rattle.rules.specs.Replies.{ended}
use Rattle.places.specs.Places.{idle}
use Rattle.firsts.specs.Ticks.{OpenedPost}
use Rattle.marking.specs.Marks.{TwiceWord}
use Rattle.outcomes.specs.Outcomes.{removed_by, is_opening}
use Rattle.outcomes.proofs.Outcomes.{leaves_places}
use Rattle.marking.proofs.Marking.{twice_as}
use Rattle.covering.proofs.Starting.{all-marked}
use Rattle.span.specs.Spans.{bracket_in}
use Rattle.processor.specs.declared.Progress.{Progress}
use Rattle.processor.specs.Arrays.{machine_in}
use Rattle.visits.specs.Visits.{second_in}
use Rattle.blocks.proofs.Blank.{all_three, both, due-over, stays_law}
use Rattle.blocks.proofs.BlockLaws.{block_law}
use Rattle.blocks.proofs.Feeding.{feed_start, feed_next, feed_end}
use Rattle.blocks.proofs.Standing.{second-low, second_outcome, second_as, Stood, stood_plain, stood_bracketed}
use Rattle.blocks.proofs.Taking.{bracketed_shut, bracketed_opens, bracketed_as}
use Rattle.blocks.proofs.Working.{work_start, work-over, work-less, work-taken, end-start, end_none, end_works, first-from}
use Rattle.machine.proofs.Dealing.{Turning, turning_heard, turning_passed, Dealt, deals_four, deals_one, deals_none}
use Rattle.machine.proofs.Handing.{hands_more}
use Rattle.machine.proofs.Turns.{turn-taken, turn-over, turn-less, hand_less, four-places}
use Rattle.machine.proofs.work.Goals.{then-has_bracket, in-Opens, in-Sidelobe, else-has_bracket, then-v-k, else-v-k, then-marked+else-loop-k-test, else-marked+then-marked-2, else-marked+else-marked-2}
use Rattle.machine.proofs.work.Goals as goal

pub loop-done-init : goal.loop-done-init
loop-done-init c =
    let args = c.args in
    let size : length args.o.places ≡ 4 = search rules in
    (size, feed_start args.o args.values.now.recent.now args.values.now.base args.flags.now args.values.now.piece.now args.out.now)

pub loop-done-preserved-then-stays : goal.loop-done-preserved-then-stays
loop-done-preserved-then-stays c =
    let test1 = c.loop-done-test in
    let loop = c.loop-done in
    let args = c.args in
    let o : Progress = record { front = loop.front; places = loop.places; counts = loop.counts; at = loop.at } in
    let s = all_three _ _ _ _ c.stays.ensures c.if-stays.true in (
      loop.invariant.0,
      feed_next args.o args.values.now.recent.now args.values.now.base args.flags.now args.values.now.piece.now args.out.now
          loop.out o loop.done c.block_length-r.result _ c.packed-x.result o loop.out (omega (arith, c.block_length-r.ensures.within, test1.true)) refl c.packed-x.ensures
          (stays_law o c.packed-x.result c.block_length-r.result _ args.values.now.recent.now args.values.now.base args.values.now.piece.now loop.out c.block_length-r.ensures.most s.0 s.1 s.2)
          loop.invariant.1,
    )

pub loop-done-preserved-then-due-none_due : goal.loop-done-preserved-then-due-none_due
loop-done-preserved-then-due-none_due c =
    let test1 = c.loop-done-test in
    let loop = c.loop-done in
    let args = c.args in
    let o : Progress = record { front = loop.front; places = loop.places; counts = loop.counts; at = loop.at } in
    let s = both _ _ c.if-due-none_due.true in (
      loop.invariant.0,
      feed_next args.o args.values.now.recent.now args.values.now.base args.flags.now args.values.now.piece.now args.out.now
          loop.out o loop.done c.block_length-r.result _ c.packed-x.result (record { front = c.advance-front.result; places = loop.places; counts = loop.counts; at = loop.at }) loop.out (omega (arith, c.block_length-r.ensures.within, test1.true)) refl c.packed-x.ensures
          (block_law o c.packed-x.result c.block_length-r.result _ args.values.now.recent.now args.values.now.base args.values.now.piece.now loop.out c.advance-front.result c.span_of-s.result loop.places loop.counts loop.at loop.out c.advance-front.ensures c.span_of-s.ensures
          (end_works (machine_in loop.places loop.counts) c.span_of-s.result c.block_length-r.result _ args.values.now.recent.now args.values.now.base args.values.now.piece.now loop.at loop.out loop.out loop.places loop.counts loop.at
          (end_none (machine_in loop.places loop.counts) c.span_of-s.result c.block_length-r.result _ args.values.now.recent.now args.values.now.base args.values.now.piece.now loop.at loop.out loop.places loop.counts c.top-due.result refl c.block_length-r.ensures.most c.top-due.ensures (eqb-true _ 0 s.0))
          (sym c.none_due.ensures ∙ s.1)))
          loop.invariant.1,
    )

pub loop-todo-init : goal.loop-todo-init
loop-todo-init c =
    let loop = c.loop-done in
    let args = c.args in (
      work_start (machine_in loop.places loop.counts) c.span_of-s.result c.block_length-r.result _ args.values.now.recent.now args.values.now.base args.values.now.piece.now loop.at loop.out
          loop.places c.covers_of-on.result c.risks_of-risk.result loop.counts c.top-due.result c.wanted-todo.result loop.invariant.0 refl (omega (arith, c.block_length-r.ensures.most))
          (all-marked _ c.covers_of-on.result c.risks_of-risk.result loop.places c.covers_of-on.ensures c.risks_of-risk.ensures) c.top-due.ensures c.wanted-todo.ensures,
      c.twice-both.ensures,
    )

pub loop-todo-smaller-then-is_over : goal.loop-todo-smaller-then-is_over
loop-todo-smaller-then-is_over c =
    let loop2 = c.loop-todo in
    turn-over (ended c.tick_of-u.result.0) loop2.from loop2.places _ loop2.risk c.without_word-risk.result (sym c.is_over.ensures ∙ c.if-is_over.true) refl c.without_word-risk.ensures

pub loop-todo-preserved-then-is_over : goal.loop-todo-preserved-then-is_over
loop-todo-preserved-then-is_over c =
    let loop2 = c.loop-todo in
    let loop = c.loop-done in
    let args = c.args in (
      work-over (machine_in loop.places loop.counts) c.span_of-s.result c.block_length-r.result _ args.values.now.recent.now args.values.now.base args.values.now.piece.now loop.at loop.out loop2.out loop2.places loop2.on loop2.risk loop2.counts loop2.at loop2.todo loop2.from loop2.invariant.0 c.lowest-i.result.n c.tick_of-u.result.0 c.lowest-i.ensures c.tick_of-u.ensures.is
          c.is_over.result c.is_over.ensures c.if-is_over.true c.hand_one-at.result _ c.hand_one-at.auto.out c.hand_one-at.ensures c.without_word-on.result c.without_word-risk.result _ c.without_word-on.ensures c.without_word-risk.ensures refl,
      c.twice-both-then-is_over.ensures,
    )

pub loop-todo-smaller-in-Removes : goal.loop-todo-smaller-in-Removes
loop-todo-smaller-in-Removes c =
    let loop2 = c.loop-todo in
    turn-less c.in-Removes.k c.lowest-i.result.n loop2.from loop2.places _ loop2.risk c.without_word-risk-in-Removes.result (c.outcome_of-y.ensures.last c.in-Removes.k c.in-Removes.is)
    (four-places _ _ _ _ _ _ _ _ (ap (λ (n : ℕ). get_or loop2.places n idle) c.behind.ensures.is) (ap (λ (n : ℕ). get_or loop2.places n idle) c.behind-in-Removes.ensures.is) (ap (λ (n : ℕ). get_or loop2.places n idle) c.behind-in-Removes-2.ensures.is) refl)
    c.without_word-risk-in-Removes.ensures

pub loop-todo-preserved-in-Removes : goal.loop-todo-preserved-in-Removes
loop-todo-preserved-in-Removes c =
    let loop2 = c.loop-todo in
    let loop = c.loop-done in
    let args = c.args in
    let f2 = second_in c.span_of-s.result c.lowest-i.result.n c.tick_of-u.result.0 args.values.now.recent.now args.values.now.base args.values.now.piece.now in (
      work-less (machine_in loop.places loop.counts) c.span_of-s.result c.block_length-r.result _ args.values.now.recent.now args.values.now.base args.values.now.piece.now loop.at loop.out loop2.out loop2.places loop2.on loop2.risk loop2.counts loop2.at loop2.todo loop2.from loop2.invariant.0 c.lowest-i.result.n c.tick_of-u.result.0 c.lowest-i.ensures c.tick_of-u.ensures.is c.is_over.result c.is_over.ensures c.if-is_over.false c.edge_at-e.result c.edge_at-e.ensures f2
          (second_as c.span_of-s.result c.lowest-i.result.n c.tick_of-u.result.0 args.values.now.recent.now args.values.now.base args.values.now.piece.now c.has_bracket.result c.has_bracket.ensures c.if-has_bracket.true f2 refl)
          c.firsts_of-f.result c.firsts_of-f.ensures c.is_busy.result c.outcome_of-y.result
          (second_outcome c.span_of-s.result c.lowest-i.result.n c.tick_of-u.result.0 args.values.now.recent.now args.values.now.base args.values.now.piece.now c.firsts_of-f.result loop2.on loop2.risk c.edge_at-e.result c.second_tick-w.result.0 c.second_main.result c.is_busy.result c.outcome_of-y.result c.second_tick-w.ensures.is c.second_main.ensures c.outcome_of-y.ensures)
          c.in-Removes.k c.in-Removes.is c.counted-counts.result c.counted-counts.ensures c.without_word-on-in-Removes.result c.without_word-risk-in-Removes.result _ c.without_word-on-in-Removes.ensures c.without_word-risk-in-Removes.ensures
          (four-places _ _ _ _ _ _ _ _ (ap (λ (n : ℕ). get_or loop2.places n idle) c.behind.ensures.is) (ap (λ (n : ℕ). get_or loop2.places n idle) c.behind-in-Removes.ensures.is) (ap (λ (n : ℕ). get_or loop2.places n idle) c.behind-in-Removes-2.ensures.is) refl),
      c.twice-both-in-Removes.ensures,
    )

pub loop-k-preserved : goal.loop-k-preserved
loop-k-preserved c =
    let test3 = c.loop-k-test in
    let loop3 = c.loop-k in (
      omega (arith, test3.true),
      elim c.if-v-k.branch [
        | then-v-k w ↦ (subst (λ (m : List Place). Turning c.if-has_bracket.places c.if-has_bracket.on c.lowest-i.result.n c.edge_at-e.result (loop3.k + 1) m) (sym w.places-is)
            (turning_heard c.if-has_bracket.places c.if-has_bracket.on c.lowest-i.result.n c.edge_at-e.result c.agreement_of-v.result c.agreement_of-v.ensures loop3.k loop3.places loop3.invariant.1 test3.true w.if-v-k.true w.heard.result w.heard.ensures))
        | else-v-k w ↦ (subst (λ (m : List Place). Turning c.if-has_bracket.places c.if-has_bracket.on c.lowest-i.result.n c.edge_at-e.result (loop3.k + 1) m) (sym w.places-is)
            (turning_passed c.if-has_bracket.places c.if-has_bracket.on c.lowest-i.result.n c.edge_at-e.result c.agreement_of-v.result c.agreement_of-v.ensures loop3.k loop3.places loop3.invariant.1 w.if-v-k.false))
      ],
    )

pub loop-todo-smaller : goal.loop-todo-smaller
loop-todo-smaller c =
    let loop2 = c.loop-todo in
    let loop = c.loop-done in
    let args = c.args in
    turn-taken loop2.from c.lowest-i.result.n loop2.places c.if-marked.places loop2.risk c.if-has_bracket.risk (first-from (machine_in loop.places loop.counts) c.span_of-s.result c.block_length-r.result _ args.values.now.recent.now args.values.now.base args.values.now.piece.now loop.at loop.out loop2.out loop2.places loop2.on loop2.risk loop2.counts loop2.at loop2.todo loop2.from loop2.invariant.0 c.lowest-i.result.n c.tick_of-u.result.0 c.lowest-i.ensures c.tick_of-u.ensures.is) c.lowest-i.ensures.below

pub loop-todo-preserved : goal.loop-todo-preserved
loop-todo-preserved c =
    let loop2 = c.loop-todo in
    let loop = c.loop-done in
    let args = c.args in
    let size : length loop2.places ≡ 4 = loop2.invariant.0.size in
    let f2 = second_in c.span_of-s.result c.lowest-i.result.n c.tick_of-u.result.0 args.values.now.recent.now args.values.now.base args.values.now.piece.now in
    let low : f2.tick.0 < 4294967296 = omega (arith, second-low c.span_of-s.result c.lowest-i.result.n, c.tick_of-u.ensures.below) in
    let both : TwiceWord c.if-has_bracket.on c.if-has_bracket.both =
    elim c.if-has_bracket.branch [
      | then-has_bracket w ↦ twice_as w.match-y.on c.if-has_bracket.on w.match-y.both c.if-has_bracket.both
          (elim w.match-y.branch [
            | in-Opens v ↦ twice_as v.with_word-on.result w.match-y.on v.twice-both-in-Opens.result w.match-y.both v.twice-both-in-Opens.ensures v.on-is v.both-is
            | in-Sidelobe v ↦ twice_as loop2.on w.match-y.on loop2.both w.match-y.both loop2.invariant.1 v.on-is v.both-is
          ])
          w.on-is w.both-is
      | else-has_bracket w ↦ twice_as loop2.on c.if-has_bracket.on loop2.both c.if-has_bracket.both loop2.invariant.1 w.on-is w.both-is
    ] in
    let stood : Stood c.span_of-s.result c.lowest-i.result.n c.tick_of-u.result.0 args.values.now.recent.now args.values.now.base args.values.now.piece.now c.has_bracket.result c.has_bracket.ensures c.block_length-r.result c.edge_at-e.result loop2.places loop2.on loop2.risk loop2.counts loop2.todo loop2.from loop2.invariant.0.todos c.lowest-i.ensures c.if-has_bracket.places c.if-has_bracket.on c.if-has_bracket.risk c.if-has_bracket.counts c.if-has_bracket.todo =
    elim c.if-has_bracket.branch [
      | then-has_bracket w ↦ stood_bracketed c.span_of-s.result c.lowest-i.result.n c.tick_of-u.result.0 args.values.now.recent.now args.values.now.base args.values.now.piece.now c.has_bracket.result c.has_bracket.ensures c.block_length-r.result c.edge_at-e.result loop2.places loop2.on loop2.risk loop2.counts loop2.todo loop2.from loop2.invariant.0.todos c.lowest-i.ensures f2
          (second_as c.span_of-s.result c.lowest-i.result.n c.tick_of-u.result.0 args.values.now.recent.now args.values.now.base args.values.now.piece.now c.has_bracket.result c.has_bracket.ensures w.if-has_bracket.true f2 refl)
          c.if-has_bracket.places c.if-has_bracket.on c.if-has_bracket.risk c.if-has_bracket.counts c.if-has_bracket.todo c.top-due.result w.above.result w.wanted-todo-then-has_bracket.result w.match-y.places w.match-y.on w.match-y.risk w.counted-counts.result
          (elim w.match-y.branch [
            | in-Opens v ↦ bracketed_as loop2.places loop2.on loop2.risk loop2.counts c.lowest-i.result.n c.edge_at-e.result f2 _ w.match-y.places v.with_word-on.result w.match-y.on v.with_word-risk.result w.match-y.risk w.counted-counts.result
                (bracketed_opens loop2.places loop2.on loop2.risk loop2.counts c.lowest-i.result.n c.edge_at-e.result f2 size c.lowest-i.ensures.below low w.firsts_of-f.result w.firsts_of-f.ensures w.is_busy.result w.is_busy.ensures w.outcome_of-y.result
                (second_outcome c.span_of-s.result c.lowest-i.result.n c.tick_of-u.result.0 args.values.now.recent.now args.values.now.base args.values.now.piece.now w.firsts_of-f.result loop2.on loop2.risk c.edge_at-e.result w.second_tick-w.result.0 w.second_main.result w.is_busy.result w.outcome_of-y.result w.second_tick-w.ensures.is w.second_main.ensures w.outcome_of-y.ensures) (ap removed_by v.in-Opens.is) w.counted-counts.result w.counted-counts.ensures (ap is_opening v.in-Opens.is) v.opened-reply.result
                (subst (λ (q : Pulse). OpenedPost w.firsts_of-f.result loop2.on c.lowest-i.result.n c.edge_at-e.result q v.opened-reply.result) v.second_at-f2.ensures v.opened-reply.ensures) v.free-j.result v.free-j.ensures.is v.free-j.ensures.below v.open_cover.result v.open_phantom.result v.open_cover.ensures v.open_phantom.ensures v.with_word-on.result v.with_word-risk.result v.with_word-on.ensures v.with_word-risk.ensures _ refl) v.places-is v.on-is v.risk-is
            | in-Sidelobe v ↦ bracketed_as loop2.places loop2.on loop2.risk loop2.counts c.lowest-i.result.n c.edge_at-e.result f2 loop2.places w.match-y.places loop2.on w.match-y.on loop2.risk w.match-y.risk w.counted-counts.result (bracketed_shut loop2.places loop2.on loop2.risk loop2.counts c.lowest-i.result.n c.edge_at-e.result f2 size c.lowest-i.ensures.below low w.firsts_of-f.result w.firsts_of-f.ensures w.is_busy.result w.is_busy.ensures w.outcome_of-y.result
                (second_outcome c.span_of-s.result c.lowest-i.result.n c.tick_of-u.result.0 args.values.now.recent.now args.values.now.base args.values.now.piece.now w.firsts_of-f.result loop2.on loop2.risk c.edge_at-e.result w.second_tick-w.result.0 w.second_main.result w.is_busy.result w.outcome_of-y.result w.second_tick-w.ensures.is w.second_main.ensures w.outcome_of-y.ensures) (leaves_places _ v.in-Sidelobe.is).0 w.counted-counts.result w.counted-counts.ensures (leaves_places _ v.in-Sidelobe.is).1) v.places-is v.on-is v.risk-is
          ])
          c.top-due.ensures w.above.ensures w.wanted-todo-then-has_bracket.ensures w.places-is w.counts-is w.on-is w.risk-is w.todo-is
      | else-has_bracket w ↦ stood_plain c.span_of-s.result c.lowest-i.result.n c.tick_of-u.result.0 args.values.now.recent.now args.values.now.base args.values.now.piece.now c.has_bracket.result c.has_bracket.ensures c.block_length-r.result c.edge_at-e.result loop2.places loop2.on loop2.risk loop2.counts loop2.todo loop2.from loop2.invariant.0.todos c.lowest-i.ensures w.if-has_bracket.false c.if-has_bracket.places c.if-has_bracket.on c.if-has_bracket.risk c.if-has_bracket.counts c.if-has_bracket.todo w.without_lowest-todo.result w.without_lowest-todo.ensures w.places-is w.counts-is w.on-is w.risk-is w.todo-is
    ] in
    let dealt : Dealt c.if-has_bracket.places c.if-has_bracket.on c.lowest-i.result.n c.edge_at-e.result c.if-marked.places =
    elim c.if-marked.branch [
      | then-marked+else-loop-k-test w ↦ (subst (λ (m : List Place). Dealt c.if-has_bracket.places c.if-has_bracket.on c.lowest-i.result.n c.edge_at-e.result m) (sym w.places-is) (deals_four c.if-has_bracket.places w.loop-k.places c.if-has_bracket.on c.lowest-i.result.n c.edge_at-e.result (stood.size ∙ size) w.loop-k.k (omega (arith, w.loop-k.invariant.0, w.loop-k-test.false)) w.loop-k.invariant.1))
      | else-marked+then-marked-2 w ↦ (subst (λ (m : List Place). Dealt c.if-has_bracket.places c.if-has_bracket.on c.lowest-i.result.n c.edge_at-e.result m) (sym w.places-is) (deals_one c.if-has_bracket.places c.if-has_bracket.on c.lowest-i.result.n c.edge_at-e.result (stood.size ∙ size) c.if-has_bracket.both w.any_word.result w.which-j.result c.marked.result w.marked-else-marked.result w.speaks.result w.heard-then-marked-2.result both c.marked.ensures w.if-marked.false w.any_word.ensures w.marked-else-marked.ensures w.if-marked-2.true w.which-j.ensures.is w.speaks.ensures w.heard-then-marked-2.ensures))
      | else-marked+else-marked-2 w ↦ (subst (λ (m : List Place). Dealt c.if-has_bracket.places c.if-has_bracket.on c.lowest-i.result.n c.edge_at-e.result m) (sym w.places-is) (deals_none c.if-has_bracket.places c.if-has_bracket.on c.lowest-i.result.n c.edge_at-e.result (stood.size ∙ size) w.any_word.result w.marked-else-marked.result w.any_word.ensures w.marked-else-marked.ensures w.if-marked-2.false))
    ] in
    (work-taken (machine_in loop.places loop.counts) c.span_of-s.result c.block_length-r.result _ args.values.now.recent.now args.values.now.base args.values.now.piece.now loop.at loop.out loop2.out loop2.places loop2.on loop2.risk loop2.counts loop2.at loop2.todo loop2.from loop2.invariant.0 c.lowest-i.result.n c.tick_of-u.result.0 c.lowest-i.ensures c.tick_of-u.ensures.is c.is_over.result c.is_over.ensures c.if-is_over.false c.edge_at-e.result c.edge_at-e.ensures (bracket_in c.span_of-s.result c.lowest-i.result.n c.tick_of-u.result.0 args.values.now.recent.now args.values.now.base args.values.now.piece.now) refl c.if-marked.places c.if-has_bracket.on c.if-has_bracket.risk c.if-has_bracket.counts (stood.visits c.if-marked.places dealt.deal) c.if-has_bracket.todo stood.todos (dealt.size ∙ stood.size ∙ size), both)

pub loop-done-preserved : goal.loop-done-preserved
loop-done-preserved c =
    let loop4 = c.loop-t in
    let test2 = c.loop-todo-test in
    let loop2 = c.loop-todo in
    let test1 = c.loop-done-test in
    let loop = c.loop-done in
    let args = c.args in
    let o : Progress = record { front = loop.front; places = loop.places; counts = loop.counts; at = loop.at } in (
      loop4.invariant.size loop2.invariant.0.size,
      feed_next args.o args.values.now.recent.now args.values.now.base args.flags.now args.values.now.piece.now args.out.now
          loop.out o loop.done c.block_length-r.result _ c.packed-x.result (record { front = c.advance-front.result; places = loop4.places; counts = loop2.counts; at = loop4.at }) loop4.out (omega (arith, c.block_length-r.ensures.within, test1.true)) refl c.packed-x.ensures
          (block_law o c.packed-x.result c.block_length-r.result _ args.values.now.recent.now args.values.now.base args.values.now.piece.now loop.out c.advance-front.result c.span_of-s.result loop4.places loop2.counts loop4.at loop4.out c.advance-front.ensures c.span_of-s.ensures
          (end_works (machine_in loop.places loop.counts) c.span_of-s.result c.block_length-r.result _ args.values.now.recent.now args.values.now.base args.values.now.piece.now loop.at loop.out loop4.out loop4.places loop2.counts loop4.at
          (loop4.invariant.ends (machine_in loop.places loop.counts) c.span_of-s.result loop.at loop.out (end-start (machine_in loop.places loop.counts) c.span_of-s.result c.block_length-r.result _ args.values.now.recent.now args.values.now.base args.values.now.piece.now loop.at loop.out loop2.out loop2.places loop2.on loop2.risk loop2.counts loop2.at loop2.todo loop2.from loop2.invariant.0 test2.false))
          (sym c.none_due-in-loop-t.ensures ∙ c.loop-t-test.false)))
          loop.invariant.1,
    )

pub overflow_sub-last : goal.overflow_sub-last
overflow_sub-last c =
    let loop4 = c.loop-t in
    (due-over (get_or loop4.places 0 idle) _ (sym c.none_due-in-loop-t.ensures ∙ c.loop-t-test.true)).0

pub loop-t-smaller : goal.loop-t-smaller
loop-t-smaller c =
    let loop4 = c.loop-t in
    let loop = c.loop-done in
    let args = c.args in
    hand_less (ended (args.values.now.base + (loop.done + c.block_length-r.result) - 179)) loop4.places _ (due-over (get_or loop4.places 0 idle) _ (sym c.none_due-in-loop-t.ensures ∙ c.loop-t-test.true)).1 refl

pub loop-t-preserved : goal.loop-t-preserved
loop-t-preserved c =
    let loop4 = c.loop-t in
    let loop2 = c.loop-todo in
    let args = c.args in
    hands_more c.block_length-r.result _ args.values.now.recent.now args.values.now.base args.values.now.piece.now loop2.counts loop2.out loop2.places loop2.at loop4.out loop4.places loop4.at loop4.invariant (sym c.none_due-in-loop-t.ensures ∙ c.loop-t-test.true) c.hand_one-at-in-loop-t.result _ c.hand_one-at-in-loop-t.auto.out c.hand_one-at-in-loop-t.ensures _ refl

pub returns : goal.returns
returns c =
    let test1 = c.loop-done-test in
    let loop = c.loop-done in
    let args = c.args in
    feed_end args.o args.values.now.recent.now args.values.now.base args.flags.now args.values.now.piece.now args.out.now
    loop.out (record { front = loop.front; places = loop.places; counts = loop.counts; at = loop.at }) loop.done test1.false loop.invariant.1
