-- The machine between two visits, and while a visit goes on: what is known of its state, and which state of the rules comes next.
use Prim.Native.Nat.{ℕ, suc, ◌+◌, ◌-◌, ◌≤◌, ◌<◌}
use native.Mathlib.Omega.{arith}
use mathlib.Core.Path.{◌≡◌, refl, sym, ap, ◌∙◌, subst}
use mathlib.Core.Bool.{Bool, true, false, ◌||◌}
use mathlib.Core.List.{List, [], ◌∷◌, ◌++◌, append-nil}
use lib.Dec.{leb}
use lib.ListN.{length, length-append}
use borrow.Author.Tests.{leb-true, leb-false}
use Rattle.rules.specs.declared.Reply.{Reply}
use Rattle.rules.specs.declared.Pulse.{Pulse}
use Rattle.std.proofs.Common.{Option, Some, None}
use Rattle.rules.specs.Settings.{standard}
use Rattle.rules.specs.Lists.{All}
use Rattle.rules.specs.Ranges.{Ranged}
use Rattle.rules.specs.Samples.{Trace}
use Rattle.rules.specs.Edges.{stands, edge_at}
use Rattle.rules.specs.Replies.{f1, ended, covers, is_phantom}
use Rattle.rules.specs.Machine.{given, State, retired, bracket_at, bracket, deal, edge_step}
use Rattle.rules.specs.Records.{replies}
use Rattle.rules.proofs.Truth.{impossible}
use Rattle.rules.proofs.ListLaws.{all_map, filter_none, reject_none}
use Rattle.rules.proofs.Order.{rising_all, ordered}
use Rattle.rules.proofs.Outcomes.{Balanced, after_balanced, after-found}
use Rattle.rules.proofs.Printed.{brackets-most}
use Rattle.rules.proofs.Settled.{edge_timed}
use Rattle.rules.proofs.Skipping.{skip_to, visit}
use Rattle.rules.proofs.EachReply.{value_byte, framing, framed_byte, ranged_each}
use Rattle.rules.proofs.Answers.{standard_allowed}
use Rattle.handing.specs.Post.{Queue}
use Rattle.handing.proofs.Handing.{ordered_queue}
use Rattle.places.specs.Places.{test, place_at}
use Rattle.places.specs.Post.{f2_value, Fits}
use Rattle.places.proofs.Steps.{balanced_small}
use Rattle.plane.specs.Words.{bit, Lowest}
use Rattle.plane.proofs.BitLaws.{zero_bit}
use Rattle.span.specs.declared.Span.{Span}
use Rattle.front.proofs.Growing.{padded-none}
use Rattle.span.proofs.Spans.{span-stands}
use Rattle.blocks.specs.Steps.{state_at, Bounded, Shows}
use Rattle.blocks.specs.Leaving.{less_phantom}
use Rattle.blocks.proofs.Leaving.{removed-order, removed-all, removed-length, removed-short, phantom-same, over_first}

-- ---- a state as the machine's functions want it; its replies began before tick c

pub record Sound (c : ℕ) (s : State) : Type 0 where
  pub queue : Queue s
  pub ranged : All Ranged s.live
  pub balanced : Balanced s
  pub found : s.counts.found ≤ c
  pub low : All (λ r. f1 r < c) s.live

all-behind : (P : Reply → Type 0) (d l : List Reply) → All P (d ++ l) → All P l
all-behind P [] l h = h
all-behind P (x ∷ d) l h = all-behind P d l h.1

pub sound-at : (T : Trace) → All (λ v. v ≤ 255) T.values → (c : ℕ) → Sound c (state_at T c)
sound-at T bytes c =
    let G = given standard T in
    let o = ordered G (edge_timed standard T) c in
    record {
      queue = ordered_queue c (state_at T c) o;
      ranged = (ranged_each standard standard_allowed T bytes c).live;
      balanced = after_balanced G c;
      found = omega (arith, after-found G c, brackets-most G c);
      low =
          all_map (λ r. (0 ≤ f1 r) × (f1 r < c)) (λ r. f1 r < c) (λ r h. h.1) (state_at T c).live
          (all-behind (λ r. (0 ≤ f1 r) × (f1 r < c)) (state_at T c).done (state_at T c).live (rising_all 0 c (replies (state_at T c)) o.rising));
    }

-- the first reply is handed out
pub sound-over : (c : ℕ) (s : State) (r : Reply) (l : List Reply) → s.live ≡ r ∷ l → Sound c s → Sound c (record { done = s.done ++ (r ∷ []); live = l; counts = s.counts })
sound-over c s r l e h =
    let q : length (r ∷ l) ≤ 4 = subst (λ (m : List Reply). length m ≤ 4) e h.queue.four in
    let k = ap (length {A = Reply}) e in
    record {
      queue = record { four = omega arith; order = (subst Order e h.queue.order).1 };
      ranged = (subst (All Ranged) e h.ranged).1;
      balanced = record { fates = h.balanced.fates; kept = omega (arith, h.balanced.kept, length-append s.done (r ∷ []), k) };
      found = h.found;
      low = (subst (All (λ x. f1 x < c)) e h.low).1;
    }
  where
    Order : List Reply → Type 0
    Order m = Rattle.handing.specs.Post.InOrder m

-- a phantom is removed
pub sound-less : (c k : ℕ) (s : State) (p : Reply → Bool) → test p (place_at k s.live) ≡ true → Sound c s → Sound c (less_phantom k s)
sound-less c k s p there h =
    record {
      queue = record { four = omega (arith, h.queue.four, removed-short k s.live); order = removed-order k s.live h.queue.order };
      ranged = removed-all Ranged k s.live h.ranged;
      balanced = record { fates = h.balanced.fates; kept = omega (arith, h.balanced.kept, removed-length p s.live k there) };
      found = h.found;
      low = removed-all (λ x. f1 x < c) k s.live h.low;
    }

-- ---- sums of 16 bits are those of the rules

module _ (T : Trace) (bd : Bounded T) (u : ℕ) (st : stands (edge_at standard T u) ≡ true) where
  second_byte : f2_value (bracket_at (given standard T) u) ≤ 255
  second_byte = go (bracket_at (given standard T) u) refl
    where
      go : (b : Option Pulse) → bracket_at (given standard T) u ≡ b → f2_value b ≤ 255
      go None e = omega arith
      go (Some f) e = framed_byte standard standard_allowed T bd.bytes u f (framing (given standard T) u f e)

  pub fits : (c : ℕ) (s : State) → c ≤ u → Sound c s → Fits (edge_at standard T u).pulse (bracket_at (given standard T) u) s
  fits c s le h =
      record {
        four = h.queue.four;
        ranged = h.ranged;
        counts = balanced_small s h.balanced (omega (arith, h.found, bd.edges u st));
        value = value_byte standard standard_allowed T bd.bytes u;
        second = second_byte;
      }

-- ---- what comes next

-- the machine's state is s, and `todo` are the ticks to visit, once t ticks are taken
pub record Held (T : Trace) (t todo : ℕ) (s : State) : Type 0 where
  pub from : ℕ
  pub sound : Sound from s
  -- the step at the next tick to visit leads to the state of the rules
  pub next : (i u : ℕ) → Lowest todo i → t + i ≡ u + 242
      → (from ≤ u) × (edge_step ◌+◌ standard (edge_at standard T u).pulse (bracket_at (given standard T) u) (retired u s) ≡ state_at T (suc u))
  -- with none to visit only retiring is left
  pub last : todo ≡ 0 → 179 ≤ t → retired (t - 179) s ≡ state_at T (t - 178)
  pub soon : todo ≡ 0 → t < 179 → s ≡ state_at T (t - 178)

module _ (T : Trace) (t : ℕ) (s : Span) (recent : List ℕ) (base : ℕ) (values : List ℕ) (sh : Shows T t s recent base values) where
  -- an edge of the span stands at a tick of the sweep
  pub tick_there : (i : ℕ) → i < 64 → bit s.due i ≡ true → 242 ≤ t + i
  tick_there i h e = go (leb 242 (t + i)) refl
    where
      go : (c : Bool) → leb 242 (t + i) ≡ c → 242 ≤ t + i
      go true q = leb-true 242 (t + i) q
      go false q = absurd (impossible (sym e ∙ sh.spanned.due.at i h ∙ padded-none T.flags (t + 78 + i) (omega (arith, leb-false 242 (t + i) q))))

  -- where an edge stands its bit is set
  pub due-at : (j i : ℕ) → i < 64 → t + i ≡ j + 242 → bit s.due i ≡ stands (edge_at standard T j)
  due-at j i h z = span-stands T s t sh.spanned recent base values sh.reads i j h z

  module _ (k c todo : ℕ) (ec : c ≡ t + k - 242) (lk : k ≤ 64) (clear : (j : ℕ) → j < k → bit todo j ≡ false) (sub : (j : ℕ) → j < 64 → bit todo j ≡ true → bit s.due j ≡ true)
      (idle : (j v : ℕ) → k ≤ j → j < 64 → bit s.due j ≡ true → bit todo j ≡ false → t + j ≡ v + 242
      → (bracket_at (given standard T) v ≡ None) × All (λ r. covers v r ≡ false) (state_at T c).live) where
    first-from : (i : ℕ) → Lowest todo i → k ≤ i
    first-from i h = go (leb k i) refl
      where
        go : (b : Bool) → leb k i ≡ b → k ≤ i
        go true q = leb-true k i q
        go false q = absurd (impossible (sym h.set ∙ clear i (leb-false k i q)))

    -- the state after the ticks below c, where all edges before bit k are taken
    pub onward : Held T t todo (state_at T c)
    onward =
        let G = given standard T in
        let ed = edge_timed standard T in
        record {
          from = c;
          sound = sound-at T sh.bounded.bytes c;
          next = λ i u h z.
              let k≤i = first-from i h in
              let le : c ≤ u = omega arith in
              let st : stands (edge_at standard T u) ≡ true = sym (due-at u i h.below z) ∙ sub i h.below h.set in (
                le,
                visit G ed c u le
                    (λ j a n q.
                    let e = j + 242 - t in
                    let y : t + e ≡ j + 242 = omega arith in
                    let m : e < 64 = omega (arith, h.below) in
                    idle e j (omega arith) m (due-at j e m y ∙ q) (h.clear e (omega arith)) y)
                    st,
              );
          last = λ z l.
              let w : suc (t - 179) ≡ t - 178 = omega arith in
              subst (λ (n : ℕ). retired (t - 179) (state_at T c) ≡ state_at T n) w
              (skip_to G ed c (t - 179) (omega arith)
              (λ j a n q.
              let e = j + 242 - t in
              let y : t + e ≡ j + 242 = omega arith in
              let m : e < 64 = omega arith in
              idle e j (omega arith) m (due-at j e m y ∙ q) (ap (λ (x : ℕ). bit x e) z ∙ zero_bit e) y));
          soon = λ z l. let w : c ≡ t - 178 = omega arith in ap (state_at T) w;
        }

-- ---- a visit goes on

pub lowest-same : (x i j : ℕ) → Lowest x i → Lowest x j → i ≡ j
lowest-same x i j h k = go (leb i j) refl (leb j i) refl
  where
    go : (a : Bool) → leb i j ≡ a → (b : Bool) → leb j i ≡ b → i ≡ j
    go true p true q = omega (arith, leb-true i j p, leb-true j i q)
    go false p b q = absurd (impossible (sym k.set ∙ h.clear j (leb-false i j p)))
    go true p false q = absurd (impossible (sym h.set ∙ k.clear i (leb-false j i q)))

pub retired-open : (u : ℕ) (s : State) → All (λ r. ended u r ≡ false) s.live → retired u s ≡ s
unfolding retired
retired-open u s n =
    λ i. record {
      done = (ap {B = List Reply} (λ l. s.done ++ l) (filter_none (ended u) s.live n) ∙ append-nil s.done) i;
      live = reject_none (ended u) s.live n i;
      counts = s.counts;
    }

module _ (T : Trace) (t todo i u : ℕ) (s : State) (h : Held T t todo s) (low : Lowest todo i) (z : t + i ≡ u + 242) where
  -- there is a tick to visit
  visits : todo ≡ 0 → ⊥
  visits e = impossible (sym low.set ∙ ap (λ (x : ℕ). bit x i) e ∙ zero_bit i)

  -- another state with which the step at u leads on
  pub held_same : (s' : State) → Sound h.from s'
      → edge_step ◌+◌ standard (edge_at standard T u).pulse (bracket_at (given standard T) u) (retired u s')
      ≡ edge_step ◌+◌ standard (edge_at standard T u).pulse (bracket_at (given standard T) u) (retired u s) → Held T t todo s'
  held_same s' sound e =
      record {
        from = h.from;
        sound = sound;
        next = λ j v k y.
            let m : j ≡ i = lowest-same todo j i k low in
            let w : u ≡ v = omega (arith, m) in
            subst (λ (n : ℕ). (h.from ≤ n) × (edge_step ◌+◌ standard (edge_at standard T n).pulse (bracket_at (given standard T) n) (retired n s') ≡ state_at T (suc n))) w
            ((h.next i u low z).0, e ∙ (h.next i u low z).1);
        last = λ k. absurd (visits k);
        soon = λ k. absurd (visits k);
      }

  -- the first reply, which is over, is handed out
  pub held_over : (r : Reply) (l : List Reply) → s.live ≡ r ∷ l → ended u r ≡ true → Held T t todo (record { done = s.done ++ (r ∷ []); live = l; counts = s.counts })
  held_over r l e o =
      held_same (record { done = s.done ++ (r ∷ []); live = l; counts = s.counts }) (sound-over h.from s r l e h.sound)
      (ap (edge_step ◌+◌ standard (edge_at standard T u).pulse (bracket_at (given standard T) u))
      (over_first u s.done l r s.counts o ∙ ap (λ (m : List Reply). retired u (record { done = s.done; live = m; counts = s.counts })) (sym e)))

  -- a phantom is removed
  pub held_less : (f : Pulse) (k : ℕ) → bracket_at (given standard T) u ≡ Some f → ((edge_at standard T u).pulse.main || f.main) ≡ true
      → test (is_phantom (edge_at standard T u).pulse.tick.0) (place_at k s.live) ≡ true → All (λ r. ended u r ≡ false) s.live → Held T t todo (less_phantom k s)
  unfolding edge_step
  held_less f k b main there none =
      let e = (edge_at standard T u).pulse in
      held_same (less_phantom k s) (sound-less h.from k s (is_phantom e.tick.0) there h.sound)
      ((λ j. deal ◌+◌ standard e (bracket ◌+◌ e (b j) (retired-open u (less_phantom k s) (removed-all (λ r. ended u r ≡ false) k s.live none) j)))
      ∙ ap (deal ◌+◌ standard e) (phantom-same e f s k there main)
      ∙ (λ j. deal ◌+◌ standard e (bracket ◌+◌ e (sym b j) (sym (retired-open u s none) j))))

  -- with none over, the step at u is made of the state as it is
  pub held_step : All (λ r. ended u r ≡ false) s.live → edge_step ◌+◌ standard (edge_at standard T u).pulse (bracket_at (given standard T) u) s ≡ state_at T (suc u)
  held_step none =
      ap (edge_step ◌+◌ standard (edge_at standard T u).pulse (bracket_at (given standard T) u)) (sym (retired-open u s none)) ∙ (h.next i u low z).1
