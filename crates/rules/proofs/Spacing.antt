-- Among the replies opened and not removed any 206 consecutive ticks hold at most four F1s: when a fifth opens, an earlier one is over.
-- So n ticks hand out at most 4 x ceil(n/206) replies, and a close at most eight.
use Prim.Native.Nat.{ℕ, zero, suc, ◌+◌, ◌*◌, ◌≤◌, ◌<◌}
use native.Mathlib.Omega.{arith}
use mathlib.Core.Path.{◌≡◌, refl, sym, ap, subst}
use mathlib.Core.Bool.{Bool, true, false, ◌&&◌, ◌||◌, cond, and-false}
use mathlib.Core.List.{List, [], ◌∷◌, ◌++◌}
use lib.Dec.{leb, ltb}
use lib.ListN.{length, length-append}
use borrow.Author.Tests.{le-leb, lt-leb, leb-true, leb-false, lt-ltb, ltb-true, ltb-false}
use Rattle.rules.specs.declared.Tick.{Tick}
use Rattle.rules.specs.declared.Reply.{Reply}
use Rattle.rules.specs.declared.Pulse.{Pulse}
use Rattle.std.proofs.Common.{Option, Some, None}
use Rattle.rules.specs.Settings.{Settings}
use Rattle.rules.specs.Lists.{any, filter, reject, count, All}
use Rattle.rules.specs.Edges.{stands}
use Rattle.rules.specs.Replies.{f1, is_phantom, speaks, hear}
use Rattle.rules.specs.Machine.{Given, State, retired, bracket_at, fate_by, clear, fate, opened, live_after, bracket, deal_from, deal, edge_step, step, after}
use Rattle.rules.specs.Records.{replies}
use Rattle.rules.specs.Sentences.{in_span}
use Rattle.rules.proofs.ListLaws.{count-append, count_reject, count_most, count_none, count-cons, count-or, all_map}
use Rattle.rules.proofs.Truth.{and_left, and_right}
use Rattle.rules.proofs.Order.{hear-f1, opened-f1, Timed, Ordered, ordered, retired-replies}
use Rattle.rules.proofs.Settled.{Old, aged_retired, old-done}

-- at most four F1s in any 206 ticks
pub record Spaced (l : List Reply) : Type 0 where
  pub four : (a : ℕ) → count (in_span a 206) l ≤ 4

-- ---- one bracket

-- replies over before tick u have no F1 in a span of 206 ticks that holds u
old_outside : (u a : ℕ) → u < a + 206 → (r : Reply) → Old (suc u) r → in_span a 206 r ≡ false
old_outside u a h r o = rw (lt-leb a (f1 r) (omega (arith, o.old)))

old-count : (u a : ℕ) → u < a + 206 → (d : List Reply) → All (Old (suc u)) d → count (in_span a 206) d ≡ 0
old-count u a h d o = count_none (in_span a 206) d (all_map (Old (suc u)) (λ r. in_span a 206 r ≡ false) (old_outside u a h) d o)

-- fewer open replies, fewer in a span
spaced_reject : (p : Reply → Bool) (d l : List Reply) → Spaced (d ++ l) → Spaced (d ++ reject p l)
spaced_reject p d l h =
    record { four = λ a. omega (arith, h.four a, count-append (in_span a 206) d l, count-append (in_span a 206) d (reject p l), count_reject (in_span a 206) p l) }

-- one more, that opens at u with at most three open
spaced_snoc : (u : ℕ) (d ks : List Reply) (r : Reply) → f1 r ≡ u → All (Old (suc u)) d → length ks ≤ 3 → Spaced (d ++ ks) → Spaced (d ++ (ks ++ (r ∷ [])))
spaced_snoc u d ks r e o k h = record { four = λ a. go a (leb a u) (ltb u (a + 206)) refl refl }
  where
    outside : (a : ℕ) → in_span a 206 r ≡ false → count (in_span a 206) (d ++ (ks ++ (r ∷ []))) ≤ 4
    outside a q =
        let one : count (in_span a 206) (r ∷ []) ≡ 0 = count_none (in_span a 206) (r ∷ []) (q, tt) in
        omega (arith, h.four a, one, count-append (in_span a 206) d (ks ++ (r ∷ [])), count-append (in_span a 206) ks (r ∷ []), count-append (in_span a 206) d ks)

    go : (a : ℕ) (b c : Bool) → leb a u ≡ b → ltb u (a + 206) ≡ c → count (in_span a 206) (d ++ (ks ++ (r ∷ []))) ≤ 4
    go a true true p q =
        omega (arith, old-count u a (ltb-true u (a + 206) q) d o, count-append (in_span a 206) d (ks ++ (r ∷ [])), count_most (in_span a 206) (ks ++ (r ∷ [])), length-append ks (r ∷ []))
    go a false c p q = outside a (rw (e, p))
    go a true false p q = outside a (rw (e, q, and-false (leb a u)))

-- what becomes of a bracket leaves at most four F1s in a span
after_spaced : (x c : Bool) (u : ℕ) (p : Reply → Bool) (d l : List Reply) (r : Reply) → f1 r ≡ u → All (Old (suc u)) d → Spaced (d ++ l)
    → Spaced (d ++ live_after (fate_by x c (leb 4 (length (reject p l)))) l (reject p l) r)
after_spaced false c u p d l r e o h = h
after_spaced true false u p d l r e o h = spaced_reject p d l h
after_spaced true true u p d l r e o h = go (leb 4 (length (reject p l))) refl
  where
    go : (b : Bool) → leb 4 (length (reject p l)) ≡ b → Spaced (d ++ live_after (fate_by true true b) l (reject p l) r)
    go true q = spaced_reject p d l h
    go false q = spaced_snoc u d (reject p l) r e o (omega (arith, leb-false 4 (length (reject p l)) q)) (spaced_reject p d l h)

spaced_bracket : (e : Pulse) (b : Option Pulse) (s : State) → All (Old (suc e.tick.0)) s.done → Spaced (replies s) → Spaced (replies (bracket ◌+◌ e b s))
unfolding bracket fate
spaced_bracket e None s o h = h
spaced_bracket e (Some f) s o h =
    let u = e.tick.0 in
    let ks = reject (is_phantom u) s.live in
    after_spaced (e.main || f.main) (clear e f ks) u (is_phantom u) s.done s.live (opened e f ks) (ap (λ t. t.0) (opened-f1 e f ks)) o h

-- ---- after any number of ticks

module _ (set : Settings) where
  -- settling moves no reply
  deal-count : (a : ℕ) (e : Pulse) (before l : List Reply) → count (in_span a 206) (deal_from ◌+◌ set e before l) ≡ count (in_span a 206) l
  deal-count a e before [] = refl
  deal-count a e before (r ∷ l) =
      let other = any (speaks set e) (before ++ l) in
      count-cons (in_span a 206) (hear ◌+◌ set e other r) r (deal_from ◌+◌ set e (before ++ (r ∷ [])) l) l
      (ap (λ (t : Tick). leb a t.0 && ltb t.0 (a + 206)) (hear-f1 set e other r)) (deal-count a e (before ++ (r ∷ [])) l)

  spaced_edge : (e : Pulse) (b : Option Pulse) (s : State) → All (Old (suc e.tick.0)) s.done → Spaced (replies s) → Spaced (replies (edge_step ◌+◌ set e b s))
  unfolding edge_step deal
  spaced_edge e b s o h =
      let t = bracket ◌+◌ e b s in
      let k = spaced_bracket e b s o h in
      record {
        four =
            λ a. omega (arith, k.four a, count-append (in_span a 206) t.done t.live, count-append (in_span a 206) t.done (deal_from ◌+◌ set e [] t.live), deal-count a e [] t.live);
      }

module _ (G : Given) (timed : Timed G) where
  spaced_step : (u : ℕ) (s : State) → Ordered u s → All (Old u) s.done → Spaced (replies s) → Spaced (replies (step ◌+◌ G u s))
  unfolding step
  spaced_step u s o d h = go (stands (G.edge u))
    where
      t : State
      t = retired u s

      same : Spaced (replies t)
      same = subst Spaced (sym (retired-replies u u s o.rising)) h

      old : All (Old (suc (G.edge u).pulse.tick.0)) t.done
      old = subst (λ (v : ℕ). All (Old (suc v)) t.done) (sym (timed.tick u)) (aged_retired u s d).done

      go : (b : Bool) → Spaced (replies (cond b (edge_step ◌+◌ G.settings (G.edge u).pulse (bracket_at G u) t) t))
      go true = spaced_edge G.settings (G.edge u).pulse (bracket_at G u) t old same
      go false = same

  pub spaced : (n : ℕ) → Spaced (replies (after ◌+◌ G n))
  unfolding after
  spaced zero = record { four = λ a. omega arith }
  spaced (suc n) = spaced_step n (after ◌+◌ G n) (ordered G timed n) (old-done G timed n) (spaced n)

-- ---- spans of more ticks

-- an F1 in two spans side by side is in one of them
side_by_side : (a c : ℕ) (r : Reply) → in_span a (206 * suc c) r ≡ true → (in_span a 206 r || in_span (a + 206) (206 * c) r) ≡ true
side_by_side a c r h = go (ltb (f1 r) (a + 206)) refl
  where
    l : a ≤ f1 r
    l = leb-true a (f1 r) (and_left (leb a (f1 r)) (ltb (f1 r) (a + 206 * suc c)) h)

    m : f1 r < a + 206 * suc c
    m = ltb-true (f1 r) (a + 206 * suc c) (and_right (leb a (f1 r)) (ltb (f1 r) (a + 206 * suc c)) h)

    go : (b : Bool) → ltb (f1 r) (a + 206) ≡ b → (leb a (f1 r) && b || in_span (a + 206) (206 * c) r) ≡ true
    go true q = rw (le-leb a (f1 r) l)
    go false q =
        rw (and-false (leb a (f1 r)), le-leb (a + 206) (f1 r) (ltb-false (f1 r) (a + 206) q), lt-ltb (f1 r) (a + 206 + 206 * c) (omega (arith, m)))

span_none : (a : ℕ) (l : List Reply) → count (in_span a 0) l ≡ 0
span_none a [] = refl
span_none a (r ∷ l) = go (leb a (f1 r)) (ltb (f1 r) (a + 0)) refl refl (span_none a l)
  where
    go : (b c : Bool) → leb a (f1 r) ≡ b → ltb (f1 r) (a + 0) ≡ c → count (in_span a 0) l ≡ 0 → length (cond (b && c) (r ∷ filter (in_span a 0) l) (filter (in_span a 0) l)) ≡ 0
    go true true p q h = absurd (omega (arith, leb-true a (f1 r) p, ltb-true (f1 r) (a + 0) q))
    go true false p q h = h
    go false c p q h = h

-- c spans of 206 ticks hold at most 4c F1s
pub spans : (l : List Reply) → Spaced l → (c a : ℕ) → count (in_span a (206 * c)) l ≤ 4 * c
spans l s zero a = omega (arith, span_none a l)
spans l s (suc c) a =
    omega (arith, count-or (in_span a (206 * suc c)) (in_span a 206) (in_span (a + 206) (206 * c)) (side_by_side a c) l, s.four a, spans l s c (a + 206))
