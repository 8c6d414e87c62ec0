-- The machine at work on a block: visits of the ticks to visit, lowest first, and the replies that are over at the end. What was handed out so far is a
-- beginning of what the whole block hands out, so there is room for it.
use Prim.Native.Nat.{ℕ, suc, ◌+◌, ◌-◌, ◌*◌, ◌≤◌, ◌<◌}
use native.Mathlib.Omega.{arith}
use mathlib.Core.Path.{◌≡◌, refl, sym, ap, ◌∙◌, subst}
use mathlib.Core.Bool.{Bool, true, false, not, ◌||◌, cond}
use mathlib.Core.List.{List, [], ◌∷◌, ◌++◌, append-nil, append_assoc}
use lib.Dec.{leb, ltb}
use lib.ListN.{length, get_or, length-append}
use borrow.Author.Tests.{leb-true, leb-false, ltb-false, le-ltb}
use Rattle.rules.specs.declared.Reply.{Reply}
use Rattle.rules.specs.declared.Place.{Place}
use Rattle.rules.specs.declared.Pulse.{Pulse}
use Rattle.rules.specs.declared.Counts.{Counts}
use Rattle.places.specs.Four.{Machine}
use Rattle.std.proofs.Common.{Option, Some, None}
use Rattle.rules.specs.Settings.{standard}
use Rattle.rules.specs.Lists.{All, filter}
use Rattle.rules.specs.Samples.{Trace}
use Rattle.rules.specs.Edges.{stands, edge_at}
use Rattle.rules.specs.Replies.{f1, ended, is_phantom}
use Rattle.rules.specs.Machine.{given, State, retired, bracket_at}
use Rattle.rules.specs.Records.{records, record_size}
use Rattle.rules.specs.Buffers.{over-at}
use Rattle.rules.proofs.Truth.{impossible}
use Rattle.rules.proofs.ListLaws.{all_map}
use Rattle.rules.proofs.Buffers.{over-at-more, over-at-nil}
use Rattle.rules.proofs.Joining.{append-same, records-append, records-length}
use Rattle.rules.proofs.Settled.{edge_timed, edge-done}
use Rattle.rules.proofs.Skipping.{done_grows}
use Rattle.replies.specs.Sums.{wrapped}
use Rattle.handing.specs.Post.{due_slot, HandedPost, InOrder, Queue}
use Rattle.handing.proofs.Handing.{all-open}
use Rattle.places.specs.Places.{test, idle, step_on, place_at, placed, machine_of}
use Rattle.places.specs.Post.{EdgePost}
use Rattle.places.proofs.Steps.{edge_post}
use Rattle.plane.specs.Words.{bit, Lowest}
use Rattle.plane.proofs.BitLaws.{zero_bit}
use Rattle.marking.specs.declared.Words.{Words}
use Rattle.marking.specs.Marks.{four, AllMarked, without_word_lem, without_place, last_on}
use Rattle.marking.proofs.Marking.{last_low}
use Rattle.span.specs.declared.Span.{Span}
use Rattle.front.specs.Post.{value_of}
use Rattle.span.specs.Spans.{TopPost, pulse_in, bracket_in}
use Rattle.span.proofs.Spans.{span-pulse, span-bracket}
use Rattle.firsts.specs.declared.Firsts.{Firsts}
use Rattle.outcomes.specs.declared.Outcome.{Outcome}
use Rattle.outcomes.specs.declared.Outcome.TheVariants.{Removes}
use Rattle.firsts.specs.Ticks.{firsts_of_lem, AllEarly}
use Rattle.outcomes.specs.Outcomes.{outcome_by, clear_in, OutcomePost, counted_by, phantom_more_lem}
use Rattle.outcomes.proofs.Outcomes.{removes_as}
use Rattle.visits.specs.Visits.{Wanted}
use Rattle.blocks.specs.Steps.{state_at, Shows, none_due_lem}
use Rattle.blocks.specs.Leaving.{less_phantom}
use Rattle.processor.specs.Arrays.{machine_in}
use Rattle.blocks.proofs.Leaving.{without_there, last_there, marked-left, over_first}
use Rattle.blocks.proofs.Stages.{Held, sound-at, fits, tick_there, due-at, onward, held_over, held_less, held_step, retired-open}
use Rattle.blocks.proofs.Visiting.{Todo, todo_start, todo_first, todo_left, unwanted}
use Rattle.blocks.proofs.Taking.{Ready, Visited, all_early}

-- ---- records behind each other

pub over-nil : (at : ℕ) (b : List ℕ) → over-at (records []) at b ≡ b
unfolding records
over-nil at b = over-at-nil at b

-- the records of `written` stand in the buffer b, which was b₀, from place at₀ on; `done` are all replies that are done, and `before` those before
pub record Written (before done : List Reply) (at₀ : ℕ) (b₀ : List ℕ) (at : ℕ) (b : List ℕ) : Type 0 where
  pub written : List Reply
  pub grown : done ≡ before ++ written
  pub place : at ≡ at₀ + record_size * length written
  pub buffer : b ≡ over-at (records written) at₀ b₀

pub written_none : (before : List Reply) (at₀ : ℕ) (b₀ : List ℕ) → Written before before at₀ b₀ at₀ b₀
written_none before at₀ b₀ = record { written = []; grown = sym (append-nil before); place = omega arith; buffer = sym (over-nil at₀ b₀) }

-- one reply more
pub written-more : (before done : List Reply) (at₀ : ℕ) (b₀ : List ℕ) (at : ℕ) (b : List ℕ) (r : Reply) (at' : ℕ) (b' : List ℕ) → Written before done at₀ b₀ at b → at + record_size ≤ length b₀
    → at' ≡ at + record_size * length (r ∷ []) → b' ≡ over-at (records (r ∷ [])) at b → Written before (done ++ (r ∷ [])) at₀ b₀ at' b'
written-more before done at₀ b₀ at b r at' b' h room ea eb =
    record {
      written = h.written ++ (r ∷ []);
      grown = ap {B = List Reply} (λ z. z ++ (r ∷ [])) h.grown ∙ append_assoc before h.written (r ∷ []);
      place = omega (arith, ea, h.place, length-append h.written (r ∷ []));
      buffer =
          eb
          ∙ ap {B = List ℕ} (λ z. over-at (records (r ∷ [])) at z) h.buffer
          ∙ over-at-more (records h.written) (records (r ∷ [])) b₀ at₀ at (omega (arith, h.place, records-length h.written)) (omega (arith, records-length (r ∷ [])))
          ∙ ap (λ (z : List ℕ). over-at z at₀ b₀) (sym (records-append h.written (r ∷ [])));
    }

-- ---- F2 comes late enough

f2_tick : ℕ → Option Pulse → ℕ
f2_tick n None = n
f2_tick n (Some f) = f.tick.0

bracket_late : (s : Span) (i u : ℕ) (recent : List ℕ) (base : ℕ) (values : List ℕ) (f : Pulse) → Some f ≡ bracket_in s i u recent base values → u + 167 ≤ f.tick.0
unfolding bracket_in f2_tick
bracket_late s i u recent base values f e =
    let k : f.tick.0 ≡ f2_tick (u + 167) (bracket_in s i u recent base values) = ap (f2_tick (u + 167)) e in
    omega (arith, k, go (bit s.at168 i) (bit s.at167 i) (bit s.at169 i))
  where
    p168 : Pulse
    p168 = pulse_in s.main168 i (u + 168) (value_of recent base values (u + 169))

    p167 : Pulse
    p167 = pulse_in s.main167 i (u + 167) (value_of recent base values (u + 168))

    p169 : Pulse
    p169 = pulse_in s.main169 i (u + 169) (value_of recent base values (u + 170))

    go : (a b c : Bool) → u + 167 ≤ f2_tick (u + 167) (cond a (Some p168) (cond b (Some p167) (cond c (Some p169) None)))
    go true b c = omega arith
    go false true c = omega arith
    go false false true = omega arith
    go false false false = omega arith

-- ---- the block

module _ (m₀ : Machine) (s : Span) (r t : ℕ) (recent : List ℕ) (base : ℕ) (values : List ℕ) (at₀ : ℕ) (b₀ : List ℕ) where
  -- the trace to which all this belongs, and what its r new ticks hand out
  pub record Block (T : Trace) (l : List Reply) : Type 0 where
    pub shows : Shows T t s recent base values
    pub within : r ≤ t
    pub machine : m₀ ≡ machine_of (state_at T (t - r - 178))
    pub done : (state_at T (t - 178)).done ≡ (state_at T (t - r - 178)).done ++ l
    pub room : at₀ + record_size * length l ≤ length b₀

  -- the machine of the places and the counts is that of a state from which the rules lead on
  pub record At (T : Trace) (todo : ℕ) (b : List ℕ) (ps : List Place) (on risk : Words) (c : Counts) (at : ℕ) : Type 0 where
    pub state : State
    pub held : Held T t todo state
    pub machine : machine_in ps c ≡ machine_of state
    pub marked : AllMarked t on risk ps
    pub out : Written (state_at T (t - r - 178)).done state.done at₀ b₀ at b

  pub record Working (b : List ℕ) (ps : List Place) (on risk : Words) (c : Counts) (at todo from : ℕ) : Type 0 where
    pub same : length b ≡ length b₀
    pub size : length ps ≡ 4
    pub todos : Todo s r on todo from
    pub state : (T : Trace) (l : List Reply) → Block T l → At T todo b ps on risk c at

  -- the machine after the ticks below c, where all edges before bit k are taken, and the ticks that are left
  held_at : (T : Trace) (l : List Reply) → Block T l → (k c todo : ℕ) (on risk : Words) (ps : List Place) (n : Counts) → c ≡ t + k - 242 → Todo s r on todo k → AllMarked t on risk ps
      → machine_in ps n ≡ machine_of (state_at T c) → Held T t todo (state_at T c)
  held_at T l g k c todo on risk ps n ec td mk is =
      onward T t s recent base values g.shows k c todo ec td.most td.clear td.sub
      (λ j v a m d o z.
      unwanted T s t recent base values g.shows j v m z on ps (state_at T c).live (mk.cover j v m z) (λ i. (is i).places) (sound-at T g.shows.bounded.bytes c).queue.four
      (td.rest j a m d o))

  pub work_start : (ps : List Place) (on risk : Words) (c : Counts) (due todo : ℕ) → length ps ≡ 4 → m₀ ≡ machine_in ps c → r ≤ 64 → AllMarked t on risk ps → TopPost s.due r due → Wanted s on due todo
      → Working b₀ ps on risk c at₀ todo (64 - r)
  work_start ps on risk c due todo size em h mk top w =
      let td = todo_start s r on due todo h top w in
      record {
        same = refl;
        size = size;
        todos = td;
        state = λ T l g.
            let e : t - r - 178 ≡ t + (64 - r) - 242 = omega (arith, g.within) in
            let is = sym em ∙ g.machine in
            record {
              state = state_at T (t - r - 178);
              held = held_at T l g (64 - r) (t - r - 178) todo on risk ps c e td mk is;
              machine = is;
              marked = mk;
              out = written_none (state_at T (t - r - 178)).done at₀ b₀;
            };
      }

  -- ---- a visit

  -- what is done of a state on its way is part of what the block hands out in all
  room_for : (T : Trace) (l : List Reply) → Block T l → (c n : ℕ) → c ≤ t - 178 → n ≤ length (state_at T c).done → (done : List Reply) → length done ≤ n → (at : ℕ) (b : List ℕ)
      → Written (state_at T (t - r - 178)).done done at₀ b₀ at b → at + record_size * (n - length done) ≤ length b₀
  room_for T l g c n h k done q at b o =
      let G = given standard T in
      let d = t - 178 - c in
      let z : d + c ≡ t - 178 = omega arith in
      let u = subst (λ (m : ℕ). length (state_at T c).done ≤ length (state_at T m).done) z (done_grows G (edge_timed standard T) c d) in
      let a = ap length g.done ∙ length-append (state_at T (t - r - 178)).done l in
      let e = ap length o.grown ∙ length-append (state_at T (t - r - 178)).done o.written in
      omega (arith, u, a, e, o.place, g.room, k)

  -- the tick u that the code visits is tick i of the span
  module _ (b : List ℕ) (ps : List Place) (on risk : Words) (c : Counts) (at todo from : ℕ) (w : Working b ps on risk c at todo from) (i u : ℕ) (low : Lowest todo i)
      (tick : u ≡ t + i - 242) where
    pub first-from : from ≤ i
    first-from = todo_first s r on todo from w.todos i low

    due-set : bit s.due i ≡ true
    due-set = w.todos.sub i low.below low.set

    at_tick : (T : Trace) (l : List Reply) → Block T l → t + i ≡ u + 242
    at_tick T l g =
        let k = tick_there T t s recent base values g.shows i low.below due-set in
        omega (arith, k, tick)

    -- the first place has a reply that is over: it is handed out
    module _ (x : Bool) (ex : x ≡ test (ended u) (get_or ps 0 idle)) (over : x ≡ true) (at' : ℕ) (b' : List ℕ) (size : length b' ≡ length b)
        (hand : HandedPost 1 (due_slot u (get_or ps 0 idle).slot) at b at' b') where
      handed : (T : Trace) (l : List Reply) → Block T l → (S : State) → Held T t todo S → machine_in ps c ≡ machine_of S
          → Written (state_at T (t - r - 178)).done S.done at₀ b₀ at b → (live : List Reply) → S.live ≡ live → (on' risk' : Words) (ps' : List Place) → on' ≡ without_word_lem 0 on
          → risk' ≡ without_word_lem 0 risk → ps' ≡ without_place 0 ps → AllMarked t on risk ps → At T todo b' ps' on' risk' c at'
      unfolding retired
      handed T l g S h is o [] el on' risk' ps' eo er ep mk =
          let e : get_or ps 0 idle ≡ place_at 0 S.live = λ k. (is k).places.p0 in
          absurd (impossible (sym over ∙ ex ∙ ap (test (ended u)) (e ∙ ap (place_at 0) el)))
      handed T l g S h is o (q ∷ live) el on' risk' ps' eo er ep mk =
          let z = at_tick T l g in
          let e : get_or ps 0 idle ≡ place_at 0 S.live = λ k. (is k).places.p0 in
          let eq : get_or ps 0 idle ≡ place_at 0 (q ∷ live) = e ∙ ap (place_at 0) el in
          let en : ended u q ≡ true = sym (ap (test (ended u)) eq) ∙ sym ex ∙ over in
          let due : due_slot u (get_or ps 0 idle).slot ≡ q ∷ [] = ap (λ (p : Place). due_slot u p.slot) eq ∙ rw en in
          let hd = subst (λ (m : List Reply). HandedPost 1 m at b at' b') due hand in
          let nx = h.next i u low z in
          let len =
          ap (λ (y : State). length y.done) (sym nx.1) ∙ ap length (edge-done standard (edge_at standard T u).pulse (bracket_at (given standard T) u) (retired u S))
          ∙ length-append S.done (filter (ended u) S.live) in
          let more : 1 ≤ length (filter (ended u) S.live) =
          subst (λ (m : List Reply). 1 ≤ length (filter (ended u) m)) (sym el) (subst (λ (y : Bool). 1 ≤ length (cond y (q ∷ filter (ended u) live) (filter (ended u) live))) (sym en) (omega arith)) in
          let room : at + record_size ≤ length b₀ =
          omega (arith, room_for T l g (suc u) (length (state_at T (suc u)).done) (omega (arith, z, low.below)) (omega arith) S.done (omega (arith, len)) at b o, len, more) in
          record {
            state = record { done = S.done ++ (q ∷ []); live = live; counts = S.counts };
            held = held_over T t todo i u S h low z q live el en;
            machine =
                (λ k. record {
                  places =
                      (ap four ep
                      ∙ without_there ps (q ∷ live) 0 ((λ j. (is j).places) ∙ ap placed el) (omega (arith, h.sound.queue.four, ap (length {A = Reply}) el)) (omega arith)) k;
                  counts = (is k).counts;
                });
            marked = marked-left 0 t on risk on' risk' ps ps' (omega arith) eo er ep mk;
            out =
                written-more (state_at T (t - r - 178)).done S.done at₀ b₀ at b q at' b' o room (hd.place (omega (arith, room, w.same)))
                (hd.buffer (omega (arith, room, w.same)));
          }

      pub work-over : (on' risk' : Words) (ps' : List Place) → on' ≡ without_word_lem 0 on → risk' ≡ without_word_lem 0 risk → ps' ≡ without_place 0 ps → Working b' ps' on' risk' c at' todo from
      work-over on' risk' ps' eo er ep =
          record {
            same = size ∙ w.same;
            size = ap (length {A = Place}) ep;
            todos = todo_left s r on todo from w.todos 0 on' eo;
            state = λ T l g. let a = w.state T l g in handed T l g a.state a.held a.machine a.out a.state.live refl on' risk' ps' eo er ep a.marked;
          }

    -- the first place has no reply that is over
    module _ (x : Bool) (ex : x ≡ test (ended u) (get_or ps 0 idle)) (open_still : x ≡ false) (e : Pulse) (ee : e ≡ pulse_in s.main i u (value_of recent base values (u + 1))) where
      -- what a trace says of the visit
      record Seen (T : Trace) (S : State) : Type 0 where
        at_u : t + i ≡ u + 242
        stood : stands (edge_at standard T u) ≡ true
        pulse : e ≡ (edge_at standard T u).pulse
        tick_u : (edge_at standard T u).pulse.tick.0 ≡ u
        none : All (λ q. ended u q ≡ false) S.live
        early : (w : ℕ) → u + 167 ≤ w → AllEarly w ps

      seen : (T : Trace) (l : List Reply) → Block T l → (S : State) → Held T t todo S → machine_in ps c ≡ machine_of S → Seen T S
      seen T l g S h is =
          let z = at_tick T l g in
          let le = (h.next i u low z).0 in
          record {
            at_u = z;
            stood = sym (due-at T t s recent base values g.shows u i low.below z) ∙ due-set;
            pulse = ee ∙ span-pulse T s t g.shows.spanned recent base values g.shows.reads i u low.below z;
            tick_u = (edge_timed standard T).tick u;
            none = all-open u S.live h.sound.queue.order (ap (test (ended u)) (λ k. (sym is k).places.p0) ∙ sym ex ∙ open_still);
            early = λ w lw. all_early w ps S.live (λ k. (is k).places) (all_map (λ q. f1 q < h.from) (λ q. f1 q + 167 ≤ w) (λ q k. omega arith) S.live h.sound.low);
          }

      -- the bracket removes the phantom of place k
      module _ (f2 : Pulse) (eb : Some f2 ≡ bracket_in s i u recent base values) (f : Firsts) (ef : f ≡ firsts_of_lem ps) (busy : Bool) (y : Outcome) (op : OutcomePost f on risk i e f2.tick.0 f2.main busy y)
          (k : ℕ) (ek : y ≡ Removes k) (n : Counts) (en : n ≡ counted_by y c) where
        less : (T : Trace) (l : List Reply) → Block T l → (S : State) → Held T t todo S → machine_in ps c ≡ machine_of S
            → Written (state_at T (t - r - 178)).done S.done at₀ b₀ at b → (on' risk' : Words) (ps' : List Place) → on' ≡ without_word_lem k on → risk' ≡ without_word_lem k risk
            → ps' ≡ without_place k ps → AllMarked t on risk ps → At T todo b ps' on' risk' n at
        less T l g S h is o on' risk' ps' eo er ep mk =
            let v = seen T l g S h is in
            let P = (edge_at standard T u).pulse in
            let z : t + i ≡ P.tick.0 + 242 = omega (arith, v.at_u, v.tick_u) in
            let op' = subst (λ (q : Pulse). OutcomePost f on risk i q f2.tick.0 f2.main busy y) v.pulse op in
            let main = P.main || f2.main in
            let K = last_on (is_phantom P.tick.0) ps in
            let clear = clear_in P f2.tick.0 f2.main ps in
            let said : y ≡ outcome_by main K clear busy =
            op'.at ps ef (v.early f2.tick.0 (bracket_late s i u recent base values f2 eb)) (mk.cover i P.tick.0 low.below z) (mk.phantom i P.tick.0 low.below z) in
            let rm = removes_as main clear busy K k (sym said ∙ ek) in
            let lk = last_low (test (is_phantom P.tick.0) (get_or ps 0 idle)) (test (is_phantom P.tick.0) (get_or ps 1 idle)) (test (is_phantom P.tick.0) (get_or ps 2 idle)) (test (is_phantom P.tick.0) (get_or ps 3 idle)) k rm.1 in
            let there : test (is_phantom P.tick.0) (place_at k S.live) ≡ true =
            last_there (is_phantom P.tick.0) ps S.live k (λ j. (is j).places) rm.1 in
            let br : bracket_at (given standard T) u ≡ Some f2 =
            sym (eb ∙ span-bracket T s t g.shows.spanned recent base values g.shows.reads i u low.below v.at_u) in
            let ft = fits T g.shows.bounded u v.stood h.from S (h.next i u low v.at_u).0 h.sound in
            let ph : wrapped S.counts.phantoms 1 ≡ S.counts.phantoms + 1 = omega (arith, ft.counts.phantoms) in
            let cs : n ≡ phantom_more_lem S.counts = en ∙ ap (λ (q : Outcome). counted_by q c) ek ∙ ap phantom_more_lem (λ j. (is j).counts) in
            let more : phantom_more_lem S.counts ≡ (less_phantom k S).counts =
            (λ j. record {
              found = S.counts.found;
              opened = S.counts.opened;
              sidelobe = S.counts.sidelobe;
              garbled = S.counts.garbled;
              lost = S.counts.lost;
              phantoms = ph j;
            }) in
            record {
              state = less_phantom k S;
              held = held_less T t todo i u S h low v.at_u f2 k br rm.0 there v.none;
              machine = λ j. record { places = (ap four ep ∙ without_there ps S.live k (λ q. (is q).places) h.sound.queue.four lk) j; counts = (cs ∙ more) j };
              marked = marked-left k t on risk on' risk' ps ps' lk eo er ep mk;
              out = o;
            }

        pub work-less : (on' risk' : Words) (ps' : List Place) → on' ≡ without_word_lem k on → risk' ≡ without_word_lem k risk → ps' ≡ without_place k ps → Working b ps' on' risk' n at todo from
        work-less on' risk' ps' eo er ep =
            record {
              same = w.same;
              size = ap (length {A = Place}) ep;
              todos = todo_left s r on todo from w.todos k on' eo;
              state = λ T l g. let a = w.state T l g in less T l g a.state a.held a.machine a.out on' risk' ps' eo er ep a.marked;
            }

      -- the edge is taken
      module _ (br : Option Pulse) (eb : br ≡ bracket_in s i u recent base values) (ps' : List Place) (on' risk' : Words) (c' : Counts) (vd : Visited ps on risk c i e br ps' on' risk' c') (todo' : ℕ)
          (td : Todo s r on' todo' (i + 1)) where
        ready : (T : Trace) (S : State) → Seen T S → (q : Option Pulse) → q ≡ bracket_in s i u recent base values → Ready q ps
        ready T S v None k = tt
        ready T S v (Some f2) k = v.early f2.tick.0 (bracket_late s i u recent base values f2 k)

        taken : (T : Trace) (l : List Reply) → Block T l → (S : State) → Held T t todo S → machine_in ps c ≡ machine_of S
            → Written (state_at T (t - r - 178)).done S.done at₀ b₀ at b → AllMarked t on risk ps → At T todo' b ps' on' risk' c' at
        taken T l g S h is o mk =
            let v = seen T l g S h is in
            let G = given standard T in
            let P = (edge_at standard T u).pulse in
            let te : e.tick.0 ≡ u = ap (λ (q : Pulse). q.tick.0) ee in
            let zz : t + i ≡ e.tick.0 + 242 = omega (arith, v.at_u, te) in
            let B = bracket_at G u in
            let ob : br ≡ B = eb ∙ span-bracket T s t g.shows.spanned recent base values g.shows.reads i u low.below v.at_u in
            let x = vd.at t mk zz (ready T S v br eb) in
            let post : EdgePost (machine_in ps c) P B (machine_in ps' c') =
            edge_post (machine_in ps c) P B (machine_in ps' c') (x.1 ∙ (λ a. step_on wrapped standard (v.pulse a) (ob a) (machine_in ps c))) in
            let st = held_step T t todo i u S h low v.at_u v.none in
            let new : machine_in ps' c' ≡ machine_of (state_at T (suc u)) =
            post.result S is (fits T g.shows.bounded u v.stood h.from S (h.next i u low v.at_u).0 h.sound) ∙ ap machine_of st in
            let ec : suc u ≡ t + (i + 1) - 242 = omega (arith, v.at_u) in
            let dn : S.done ≡ (state_at T (suc u)).done = sym (ap (λ (q : State). q.done) (sym st) ∙ edge-done standard P B S) in
            record {
              state = state_at T (suc u);
              held = held_at T l g (i + 1) (suc u) todo' on' risk' ps' c' ec td x.0 new;
              machine = new;
              marked = x.0;
              out = subst (λ (q : List Reply). Written (state_at T (t - r - 178)).done q at₀ b₀ at b) dn o;
            }

        pub work-taken : length ps' ≡ 4 → Working b ps' on' risk' c' at todo' (i + 1)
        work-taken size =
            record {
              same = w.same;
              size = size;
              todos = td;
              state = λ T l g. let a = w.state T l g in taken T l g a.state a.held a.machine a.out a.marked;
            }

  -- ---- the end of the block

  -- the machine is that of the rules once t ticks are taken, and the records of the replies that the block hands out are in the buffer
  pub record Gives (T : Trace) (l : List Reply) (m : Machine) (at : ℕ) (b : List ℕ) : Type 0 where
    pub machine : m ≡ machine_of (state_at T (t - 178))
    pub place : at ≡ at₀ + record_size * length l
    pub buffer : b ≡ over-at (records l) at₀ b₀

  pub record Works (m : Machine) (at : ℕ) (b : List ℕ) : Type 0 where
    pub same : length b ≡ length b₀
    pub result : (T : Trace) (l : List Reply) → Block T l → Gives T l m at b

  -- nothing is left to visit
  pub record Last (T : Trace) (b : List ℕ) (ps : List Place) (c : Counts) (at : ℕ) : Type 0 where
    pub state : State
    pub queue : Queue state
    pub last : 179 ≤ t → retired (t - 179) state ≡ state_at T (t - 178)
    pub soon : t < 179 → state ≡ state_at T (t - 178)
    pub machine : machine_in ps c ≡ machine_of state
    pub out : Written (state_at T (t - r - 178)).done state.done at₀ b₀ at b

  pub record Ending (b : List ℕ) (ps : List Place) (c : Counts) (at : ℕ) : Type 0 where
    pub same : length b ≡ length b₀
    pub state : (T : Trace) (l : List Reply) → Block T l → Last T b ps c at

  pub end-start : (b : List ℕ) (ps : List Place) (on risk : Words) (c : Counts) (at todo from : ℕ) → Working b ps on risk c at todo from → todo ≡ 0 → Ending b ps c at
  end-start b ps on risk c at todo from w z =
      record {
        same = w.same;
        state = λ T l g.
            let a = w.state T l g in
            record { state = a.state; queue = a.held.sound.queue; last = a.held.last z; soon = a.held.soon z; machine = a.machine; out = a.out };
      }

  -- no edge is due
  pub end_none : (ps : List Place) (c : Counts) (due : ℕ) → m₀ ≡ machine_in ps c → r ≤ 64 → TopPost s.due r due → due ≡ 0 → Ending b₀ ps c at₀
  end_none ps c due em h top z =
      record {
        same = refl;
        state = λ T l g.
            let e : t - r - 178 ≡ t + (64 - r) - 242 = omega (arith, g.within) in
            let a : Held T t 0 (state_at T (t - r - 178)) =
            onward T t s recent base values g.shows (64 - r) (t - r - 178) 0 e (omega arith) (λ j k. zero_bit j) (λ j k q. absurd (impossible (sym q ∙ zero_bit j)))
            (λ j v k m d o y. absurd (impossible (sym d ∙ sym (top.same j (omega arith) m) ∙ ap (λ (x : ℕ). bit x j) z ∙ zero_bit j))) in
            record {
              state = state_at T (t - r - 178);
              queue = a.sound.queue;
              last = a.last refl;
              soon = a.soon refl;
              machine = sym em ∙ g.machine;
              out = written_none (state_at T (t - r - 178)).done at₀ b₀;
            };
      }

  module _ (b : List ℕ) (ps : List Place) (c : Counts) (at : ℕ) (w : Ending b ps c at) where
    -- the reply of the first place is due: it is handed out
    module _ (due : none_due_lem (get_or ps 0 idle) t ≡ false) (at' : ℕ) (b' : List ℕ) (size : length b' ≡ length b) (hand : HandedPost 1 (due_slot (t - 179) (get_or ps 0 idle).slot) at b at' b')
        (ps' : List Place) (ep : ps' ≡ without_place 0 ps) where
      late : 179 ≤ t
      late = go (ltb t 179) refl
        where
          go : (q : Bool) → ltb t 179 ≡ q → 179 ≤ t
          go true q = absurd (impossible (sym (ap (λ (y : Bool). y || not (test (ended (t - 179)) (get_or ps 0 idle))) q) ∙ due))
          go false q = ltb-false t 179 q

      over : test (ended (t - 179)) (get_or ps 0 idle) ≡ true
      over = go (test (ended (t - 179)) (get_or ps 0 idle)) refl
        where
          go : (q : Bool) → test (ended (t - 179)) (get_or ps 0 idle) ≡ q → q ≡ true
          go true q = refl
          go false q = absurd (impossible (sym (λ j. le-ltb t 179 late j || not (q j)) ∙ due))

      ended-last : (T : Trace) (l : List Reply) → Block T l → Last T b ps c at → (S : State) → Queue S → retired (t - 179) S ≡ state_at T (t - 178) → machine_in ps c ≡ machine_of S
          → Written (state_at T (t - r - 178)).done S.done at₀ b₀ at b → (live : List Reply) → S.live ≡ live → Last T b' ps' c at'
      unfolding retired
      ended-last T l g a S qu la is o [] el =
          let e : get_or ps 0 idle ≡ place_at 0 S.live = λ k. (is k).places.p0 in
          absurd (impossible (sym over ∙ ap (test (ended (t - 179))) (e ∙ ap (place_at 0) el)))
      ended-last T l g a S qu la is o (q ∷ live) el =
          let u = t - 179 in
          let e : get_or ps 0 idle ≡ place_at 0 S.live = λ k. (is k).places.p0 in
          let eq : get_or ps 0 idle ≡ place_at 0 (q ∷ live) = e ∙ ap (place_at 0) el in
          let en : ended u q ≡ true = sym (ap (test (ended u)) eq) ∙ over in
          let due' : due_slot u (get_or ps 0 idle).slot ≡ q ∷ [] = ap (λ (p : Place). due_slot u p.slot) eq ∙ rw en in
          let hd = subst (λ (m : List Reply). HandedPost 1 m at b at' b') due' hand in
          let len = ap (λ (y : State). length y.done) (sym la) ∙ length-append S.done (filter (ended u) S.live) in
          let more : 1 ≤ length (filter (ended u) S.live) =
          subst (λ (m : List Reply). 1 ≤ length (filter (ended u) m)) (sym el) (subst (λ (y : Bool). 1 ≤ length (cond y (q ∷ filter (ended u) live) (filter (ended u) live))) (sym en) (omega arith)) in
          let room : at + record_size ≤ length b₀ =
          omega (arith, room_for T l g (t - 178) (length (state_at T (t - 178)).done) (omega arith) (omega arith) S.done (omega (arith, len)) at b o, len, more) in
          let k = ap (length {A = Reply}) el in
          record {
            state = record { done = S.done ++ (q ∷ []); live = live; counts = S.counts };
            queue = record { four = omega (arith, qu.four, k); order = (subst InOrder el qu.order).1 };
            last = λ h.
                over_first u S.done live q S.counts en ∙ ap (λ (m : List Reply). retired u (record { done = S.done; live = m; counts = S.counts })) (sym el) ∙ la;
            soon = λ h. absurd (omega (arith, late));
            machine =
                (λ j. record {
                  places = (ap four ep ∙ without_there ps (q ∷ live) 0 ((λ y. (is y).places) ∙ ap placed el) (omega (arith, qu.four, k)) (omega arith)) j;
                  counts = (is j).counts;
                });
            out =
                written-more (state_at T (t - r - 178)).done S.done at₀ b₀ at b q at' b' o room (hd.place (omega (arith, room, w.same))) (hd.buffer (omega (arith, room, w.same)));
          }

      pub end-over : Ending b' ps' c at'
      end-over =
          record {
            same = size ∙ w.same;
            state = λ T l g.
                let a = w.state T l g in
                ended-last T l g a a.state a.queue (a.last late) a.machine a.out a.state.live refl;
          }

    -- no reply is due
    pub end_works : none_due_lem (get_or ps 0 idle) t ≡ true → Works (machine_in ps c) at b
    end_works due =
        record {
          same = w.same;
          result = λ T l g.
              let a = w.state T l g in
              let is = final T a (leb 179 t) refl in
              let e = append-same (state_at T (t - r - 178)).done a.out.written l (sym a.out.grown ∙ ap (λ (y : State). y.done) is ∙ g.done) in
              record {
                machine = a.machine ∙ ap machine_of is;
                place = a.out.place ∙ ap (λ (y : List Reply). at₀ + record_size * length y) e;
                buffer = a.out.buffer ∙ ap (λ (y : List Reply). over-at (records y) at₀ b₀) e;
              };
        }
      where
        open_still : 179 ≤ t → test (ended (t - 179)) (get_or ps 0 idle) ≡ false
        open_still h = go (test (ended (t - 179)) (get_or ps 0 idle)) refl
          where
            go : (q : Bool) → test (ended (t - 179)) (get_or ps 0 idle) ≡ q → q ≡ false
            go false q = refl
            go true q = absurd (impossible (sym due ∙ (λ j. le-ltb t 179 h j || not (q j))))

        final : (T : Trace) (a : Last T b ps c at) (q : Bool) → leb 179 t ≡ q → a.state ≡ state_at T (t - 178)
        final T a true q =
            let h = leb-true 179 t q in
            let first : test (ended (t - 179)) (placed a.state.live).p0 ≡ false = ap (test (ended (t - 179))) (λ j. (sym a.machine j).places.p0) ∙ open_still h in
            sym (retired-open (t - 179) a.state (all-open (t - 179) a.state.live a.queue.order first)) ∙ a.last h
        final T a false q = a.soon (leb-false 179 t q)
