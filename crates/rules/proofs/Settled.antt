-- A reply is final once the ticks up to q+206 are worked: no later step changes, removes or moves it.
-- So the replies that are done after m ticks are those with q+207 <= m, after these ticks and after any more; and with the locality of edges,
-- a reply with q+385 ticks taken does not change by what follows.
use Prim.Native.Nat.{ℕ, zero, suc, ◌+◌, ◌-◌, ◌≤◌, ◌<◌}
use native.Mathlib.Omega.{arith}
use native.Mathlib.Nat.{zero-add, suc-add}
use mathlib.Core.Path.{◌≡◌, refl, sym, ap, ◌∙◌, subst}
use mathlib.Core.Bool.{Bool, true, false, cond}
use mathlib.Core.List.{List, [], ◌∷◌, ◌++◌, append-nil}
use lib.Dec.{leb}
use lib.ListN.{length, length-append}
use borrow.Author.Tests.{le-leb, lt-leb, leb-true, leb-false, ltb-true, ltb-false}
use Rattle.rules.specs.declared.Reply.{Reply}
use Rattle.rules.specs.declared.Pulse.{Pulse}
use Rattle.std.proofs.Common.{Option, Some, None}
use Rattle.rules.specs.declared.Fate.{Fate}
use Rattle.rules.specs.declared.Fate.TheVariants.{Sidelobe, Garbled, Lost, Opens}
use Rattle.rules.specs.Settings.{Settings, Allowed}
use Rattle.rules.specs.Lists.{any, filter, reject, All}
use Rattle.rules.specs.Samples.{Trace, ◌⧺◌}
use Rattle.rules.specs.Edges.{stands, edge_at}
use Rattle.rules.specs.Replies.{f1, ended, is_phantom, speaks}
use Rattle.rules.specs.Machine.{Given, given, State, retired, bracket_at, fate, opened, live_after, bracket, deal_from, deal, edge_step, step, after, final}
use Rattle.rules.specs.Records.{replies}
use Rattle.rules.specs.Calls.{due}
use Rattle.rules.proofs.ListLaws.{filter-append, filter_none, filter-all, filter_same, all_append, all_reject, all-kept, all-passed, all_map}
use Rattle.rules.proofs.Locality.{edge-append}
use Rattle.rules.proofs.Order.{hear-f1, opened-f1, Timed, Ordered, ordered, retired-replies}

-- open at tick u: u-q is at most 205
pub record Young (u : ℕ) (r : Reply) : Type 0 where
  pub young : u ≤ f1 r + 205

-- over before tick m: q+207 <= m
abbrev pub over : ℕ → Reply → Bool
over m r = leb (f1 r + 207) m

pub record Old (m : ℕ) (r : Reply) : Type 0 where
  pub old : f1 r + 207 ≤ m

-- after the step at u the open replies are those that tick u can still reach, and the others are done
pub record Aged (u : ℕ) (s : State) : Type 0 where
  pub live : All (Young u) s.live
  pub done : All (Old (suc u)) s.done

young_ended : (u : ℕ) (r : Reply) → ended u r ≡ false → Young u r
unfolding ended
young_ended u r h = record { young = ltb-false (f1 r + 205) u h }

old-ended : (u : ℕ) (r : Reply) → ended u r ≡ true → Old (suc u) r
unfolding ended
old-ended u r h = record { old = omega (arith, ltb-true (f1 r + 205) u h) }

old-later : (m m' : ℕ) → m ≤ m' → (r : Reply) → Old m r → Old m' r
old-later m m' l r h = record { old = omega (arith, h.old) }

pub aged_retired : (u : ℕ) (s : State) → All (Old u) s.done → Aged u (retired u s)
unfolding retired
aged_retired u s h =
    record {
      live = all-kept (Young u) (ended u) (young_ended u) s.live;
      done =
          all_append (Old (suc u)) s.done (filter (ended u) s.live) (all_map (Old u) (Old (suc u)) (old-later u (suc u) (omega arith)) s.done (h))
          (all-passed (Old (suc u)) (ended u) (old-ended u) s.live);
    }

young_after : (x : Fate) (u : ℕ) (p : Reply → Bool) (l : List Reply) (r : Reply) → f1 r ≡ u → All (Young u) l → All (Young u) (live_after x l (reject p l) r)
young_after Sidelobe u p l r e h = h
young_after Garbled u p l r e h = all_reject (Young u) p l h
young_after Lost u p l r e h = all_reject (Young u) p l h
young_after Opens u p l r e h = all_append (Young u) (reject p l) (r ∷ []) (all_reject (Young u) p l h) (record { young = omega arith }, tt)

aged_bracket : (e : Pulse) (b : Option Pulse) (s : State) → Aged e.tick.0 s → Aged e.tick.0 (bracket ◌+◌ e b s)
unfolding bracket
aged_bracket e None s h = h
aged_bracket e (Some f) s h =
    let u = e.tick.0 in
    let ks = reject (is_phantom u) s.live in
    record {
      live = young_after (fate e f ks) u (is_phantom u) s.live (opened e f ks) (ap (λ t. t.0) (opened-f1 e f ks)) h.live;
      done = h.done;
    }

-- an edge leaves the done replies alone
pub edge-done : (set : Settings) (e : Pulse) (b : Option Pulse) (s : State) → (edge_step ◌+◌ set e b s).done ≡ s.done
unfolding edge_step deal bracket
edge-done set e None s = refl
edge-done set e (Some f) s = refl

module _ (set : Settings) where
  young_deal : (u : ℕ) (e : Pulse) (before l : List Reply) → All (Young u) l → All (Young u) (deal_from ◌+◌ set e before l)
  young_deal u e before [] h = tt
  young_deal u e before (r ∷ l) h =
      (rw (hear-f1 set e (any (speaks set e) (before ++ l)) r) (record { young = h.0.young }), young_deal u e (before ++ (r ∷ [])) l h.1)

module _ (G : Given) (timed : Timed G) where
  aged_edge : (u : ℕ) (b : Option Pulse) (s : State) → Aged u s → Aged u (edge_step ◌+◌ G.settings (G.edge u).pulse b s)
  unfolding edge_step deal
  aged_edge u b s h =
      let e = (G.edge u).pulse in
      let t = bracket ◌+◌ e b s in
      let k = subst (λ (v : ℕ). Aged v t) (timed.tick u) (aged_bracket e b s (subst (λ (v : ℕ). Aged v s) (sym (timed.tick u)) h)) in
      record { live = young_deal G.settings u e [] t.live k.live; done = k.done }

  aged_step : (u : ℕ) (s : State) → All (Old u) s.done → Aged u (step ◌+◌ G u s)
  unfolding step
  aged_step u s h = go (stands (G.edge u))
    where
      t : State
      t = retired u s

      go : (b : Bool) → Aged u (cond b (edge_step ◌+◌ G.settings (G.edge u).pulse (bracket_at G u) t) t)
      go true = aged_edge u (bracket_at G u) t (aged_retired u s h)
      go false = aged_retired u s h

  pub old-done : (n : ℕ) → All (Old n) (after ◌+◌ G n).done
  unfolding after
  old-done zero = tt
  old-done (suc n) = (aged_step n (after ◌+◌ G n) (old-done n)).done

  pub aged : (n : ℕ) → Aged n (after ◌+◌ G (suc n))
  unfolding after
  aged n = aged_step n (after ◌+◌ G n) (old-done n)

  -- ---- what is over stays

  not-over : (m n : ℕ) → m ≤ n → (l : List Reply) → All (Young n) l → filter (over m) l ≡ []
  not-over m n h l y = filter_none (over m) l (all_map (Young n) (λ r. over m r ≡ false) (λ r k. lt-leb (f1 r + 207) m (omega (arith, k.young))) l y)

  -- of done replies and open ones that tick n can still reach, those over before m are done
  over_done : (m n : ℕ) → m ≤ n → (d l : List Reply) → All (Young n) l → filter (over m) (d ++ l) ≡ filter (over m) d
  over_done m n h d l y =
      filter-append (over m) d l ∙ ap {B = List Reply} (λ z. filter (over m) d ++ z) (not-over m n h l y) ∙ append-nil (filter (over m) d)

  pub step-done : (u : ℕ) (s : State) → (step ◌+◌ G u s).done ≡ (retired u s).done
  unfolding step
  step-done u s = go (stands (G.edge u))
    where
      t : State
      t = retired u s

      go : (b : Bool) → (cond b (edge_step ◌+◌ G.settings (G.edge u).pulse (bracket_at G u) t) t).done ≡ t.done
      go true = edge-done G.settings (G.edge u).pulse (bracket_at G u) t
      go false = refl

  over-step : (m n : ℕ) → m ≤ n → (s : State) → Ordered n s → All (Old n) s.done → filter (over m) (replies (step ◌+◌ G n s)) ≡ filter (over m) (replies s)
  over-step m n h s o d =
      let t = retired n s in
      let v = step ◌+◌ G n s in
      over_done m n h v.done v.live (aged_step n s d).live
      ∙ ap {B = List Reply} (filter (over m)) (step-done n s)
      ∙ sym (over_done m n h t.done t.live (aged_retired n s d).live)
      ∙ ap {B = List Reply} (filter (over m)) (retired-replies n n s o.rising)

  all-over : (m : ℕ) (l : List Reply) → All (Old m) l → filter (over m) l ≡ l
  all-over m l h = filter-all (over m) l (all_map (Old m) (λ r. over m r ≡ true) (λ r k. le-leb (f1 r + 207) m k.old) l h)

  over_first : (m : ℕ) → filter (over m) (replies (after ◌+◌ G m)) ≡ (after ◌+◌ G m).done
  unfolding after
  over_first zero = refl
  over_first (suc u) =
      let s = after ◌+◌ G u in
      let v = step ◌+◌ G u s in
      let a = aged_step u s (old-done u) in
      filter-append (over (suc u)) v.done v.live
      ∙ ap {B = List Reply} (λ z. filter (over (suc u)) v.done ++ z)
      (filter_none (over (suc u)) v.live (all_map (Young u) (λ r. over (suc u) r ≡ false) (λ r k. lt-leb (f1 r + 207) (suc u) (omega (arith, k.young))) v.live a.live))
      ∙ append-nil (filter (over (suc u)) v.done)
      ∙ all-over (suc u) v.done a.done

  -- the replies over before m are, after any more ticks, those done after m
  pub over-after : (m k : ℕ) → filter (over m) (replies (after ◌+◌ G (k + m))) ≡ (after ◌+◌ G m).done
  unfolding after
  over-after m zero = ap (λ (n : ℕ). filter (over m) (replies (after ◌+◌ G n))) (zero-add m) ∙ over_first m
  over-after m (suc k) =
      ap (λ (n : ℕ). filter (over m) (replies (after ◌+◌ G n))) (suc-add k m)
      ∙ over-step m (k + m) (omega arith) (after ◌+◌ G (k + m)) (ordered G timed (k + m)) (old-done (k + m))
      ∙ over-after m k

-- ---- what is due

-- due once n ticks are taken: over before n-178
due-over : (m n : ℕ) → m + 178 ≡ n → (r : Reply) → due n r ≡ over m r
due-over m n e r = go (leb (f1 r + 207) m) refl
  where
    go : (b : Bool) → leb (f1 r + 207) m ≡ b → leb (f1 r + 385) n ≡ b
    go true q = le-leb (f1 r + 385) n (omega (arith, leb-true (f1 r + 207) m q))
    go false q = lt-leb (f1 r + 385) n (omega (arith, leb-false (f1 r + 207) m q))

-- before 385 ticks nothing is due
pub due-none : (n : ℕ) → n < 385 → (l : List Reply) → filter (due n) l ≡ []
due-none n h [] = refl
due-none n h (r ∷ l) = rw (lt-leb (f1 r + 385) n (omega arith)) (due-none n h l)

module _ (G : Given) (timed : Timed G) where
  -- of all replies, those due at n are the ones done after n-178 ticks
  pub due-after : (n N : ℕ) → 178 ≤ n → n ≤ N → filter (due n) (replies (after ◌+◌ G N)) ≡ (after ◌+◌ G (n - 178)).done
  due-after n N h l =
      let m = n - 178 in
      let k = N - m in
      let e : m + 178 ≡ n = omega arith in
      let z : k + m ≡ N = omega arith in
      filter_same (due n) (over m) (due-over m n e) (replies (after ◌+◌ G N))
      ∙ ap (λ (x : ℕ). filter (over m) (replies (after ◌+◌ G x))) (sym z)
      ∙ over-after G timed m k

-- ---- locality of the machine

-- a step looks at the edges at u, u+167, u+168 and u+169 alone
module _ (G G' : Given) (alike : G.settings ≡ G'.settings) where
  step_same : (u : ℕ) (s : State) → G.edge u ≡ G'.edge u → G.edge (u + 168) ≡ G'.edge (u + 168) → G.edge (u + 167) ≡ G'.edge (u + 167) → G.edge (u + 169) ≡ G'.edge (u + 169)
      → step ◌+◌ G u s ≡ step ◌+◌ G' u s
  unfolding step
  step_same u s p q q' q'' = cc

  pub after_same : (n : ℕ) → ((t : ℕ) → t < n + 169 → G.edge t ≡ G'.edge t) → after ◌+◌ G n ≡ after ◌+◌ G' n
  unfolding after
  after_same zero h = refl
  after_same (suc n) h =
      ap (step ◌+◌ G n) (after_same n (λ t l. h t (omega arith)))
      ∙ step_same n (after ◌+◌ G' n) (h n (omega arith)) (h (n + 168) (omega arith)) (h (n + 167) (omega arith)) (h (n + 169) (omega arith))

pub edge_timed : (set : Settings) (T : Trace) → Timed (given set T)
unfolding edge_at
edge_timed set T = record { tick = λ u. refl }

module _ (set : Settings) (ok : Allowed set) (T R : Trace) (alike : length T.flags ≡ length T.values) where
  -- the machine after n ticks does not change by what follows, once n+178 ticks are there
  pub after-append : (n : ℕ) → n + 178 ≤ length T.flags → after ◌+◌ (given set (T ⧺ R)) n ≡ after ◌+◌ (given set T) n
  after-append n l = after_same (given set (T ⧺ R)) (given set T) refl n (λ t h. edge-append set ok T R t (omega arith) (omega arith))

  due_late : 178 ≤ length T.flags → filter (due (length T.flags)) (replies (final set (T ⧺ R))) ≡ filter (due (length T.flags)) (replies (final set T))
  unfolding final
  due_late h =
      let n = length T.flags in
      due-after (given set (T ⧺ R)) (edge_timed set (T ⧺ R)) n (length (T.flags ++ R.flags)) h (omega (arith, length-append T.flags R.flags))
      ∙ ap (λ (s : State). s.done) (after-append (n - 178) (omega arith))
      ∙ sym (due-after (given set T) (edge_timed set T) n n h (omega arith))

  -- a reply with F1 at q and q+385 ticks taken is final: neither it nor whether it is removed changes by what follows
  pub settled : filter (due (length T.flags)) (replies (final set (T ⧺ R))) ≡ filter (due (length T.flags)) (replies (final set T))
  settled = go (leb 178 (length T.flags)) refl
    where
      n : ℕ
      n = length T.flags

      go : (b : Bool) → leb 178 n ≡ b → filter (due n) (replies (final set (T ⧺ R))) ≡ filter (due n) (replies (final set T))
      go true q = due_late (leb-true 178 n q)
      go false q =
          let h : n < 385 = omega (arith, leb-false 178 n q) in
          due-none n h (replies (final set (T ⧺ R))) ∙ sym (due-none n h (replies (final set T)))
