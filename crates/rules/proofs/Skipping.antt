-- A tick without an edge only retires, and so does one whose edge has no bracket and is covered by no open reply: a run of them is one retiring at the last. So
-- the machine need be visited only at the other edges.
use Prim.Native.Nat.{ℕ, zero, suc, ◌+◌, ◌-◌, ◌≤◌, ◌<◌}
use native.Mathlib.Omega.{arith}
use mathlib.Core.Path.{◌≡◌, refl, sym, ap, ◌∙◌, subst}
use mathlib.Core.Bool.{Bool, true, false, not, ◌&&◌, ◌||◌, cond}
use mathlib.Core.List.{List, [], ◌∷◌, ◌++◌, append-nil, append_assoc}
use lib.Dec.{leb, eqb}
use lib.ListN.{length, length-append}
use borrow.Author.Tests.{leb-true, leb-false, ltb-true, lt-ltb, le-ltb}
use Rattle.rules.specs.declared.Reply.{Reply}
use Rattle.rules.specs.declared.Pulse.{Pulse}
use Rattle.std.proofs.Common.{Option, None}
use Rattle.rules.specs.Settings.{Settings}
use Rattle.rules.specs.Lists.{any, filter, reject, All}
use Rattle.rules.specs.Samples.{bit}
use Rattle.rules.specs.Edges.{stands}
use Rattle.rules.specs.Replies.{f1, ended, position, is_position, covers, agrees, verdict, bit_of, takes, heard_at, speaks, hear}
use Rattle.rules.specs.Machine.{Given, State, retired, bracket_at, bracket, deal_from, deal, edge_step, step, after}
use Rattle.rules.specs.Records.{replies}
use Rattle.rules.proofs.Truth.{impossible}
use Rattle.rules.proofs.ListLaws.{filter_none, reject_none, all_map, all_reject}
use Rattle.rules.proofs.Order.{Rising, rising_behind, none-later, ended_earlier, Timed, ordered}
use Rattle.rules.proofs.Settled.{Young, aged, step-done}

-- ---- retiring twice

ended-later : (u v : ℕ) → u ≤ v → (r : Reply) → ended u r ≡ true → ended v r ≡ true
unfolding ended
ended-later u v h r e = lt-ltb (f1 r + 205) v (omega (arith, ltb-true (f1 r + 205) u e))

module _ (u v : ℕ) (h : u ≤ v) where
  filter-after : (t n : ℕ) (l : List Reply) → Rising t n l → filter (ended u) l ++ filter (ended v) (reject (ended u) l) ≡ filter (ended v) l
  filter-after t n [] s = refl
  filter-after t n (r ∷ l) s = go (ended u r) refl (filter-after (f1 r + 1) n l s.1)
    where
      go : (b : Bool) → ended u r ≡ b → filter (ended u) l ++ filter (ended v) (reject (ended u) l) ≡ filter (ended v) l
          → cond b (r ∷ filter (ended u) l) (filter (ended u) l) ++ filter (ended v) (cond b (reject (ended u) l) (r ∷ reject (ended u) l)) ≡ filter (ended v) (r ∷ l)
      go true e k = rw (ended-later u v h r e) (ap {B = List Reply} (λ z. r ∷ z) k)
      go false e k =
          let n' = none-later (ended u) (ended_earlier u) r e n l s.1 in
          rw (filter_none (ended u) l n', reject_none (ended u) l n')

  reject_after : (l : List Reply) → reject (ended v) (reject (ended u) l) ≡ reject (ended v) l
  reject_after [] = refl
  reject_after (r ∷ l) = go (ended u r) refl (reject_after l)
    where
      go : (b : Bool) → ended u r ≡ b → reject (ended v) (reject (ended u) l) ≡ reject (ended v) l → reject (ended v) (cond b (reject (ended u) l) (r ∷ reject (ended u) l)) ≡ reject (ended v) (r ∷ l)
      go true e k = rw (ended-later u v h r e) k
      go false e k = ap {B = List Reply} (λ z. cond (ended v r) z (r ∷ z)) k

  -- the later of two retirings is enough
  pub retired-twice : (n : ℕ) (s : State) → Rising 0 n (replies s) → retired v (retired u s) ≡ retired v s
  unfolding retired
  retired-twice n s k =
      let d =
      append_assoc s.done (filter (ended u) s.live) (filter (ended v) (reject (ended u) s.live))
      ∙ ap {B = List Reply} (λ z. s.done ++ z) (filter-after 0 n s.live (rising_behind 0 n s.done s.live k)) in
      let l = reject_after s.live in
      λ i. record { done = d i; live = l i; counts = s.counts }

-- ---- edges that no open reply covers

-- only a position that covers can be settled
pub takes_none : (k w : ℕ) → is_position k ≡ false → takes k w ≡ false
takes_none k w h = go (leb 1 k) (leb k 14) (eqb k 17) (not (bit (bit_of k) w)) h
  where
    go : (a b c d : Bool) → (b || c) ≡ false → ((a && b || c) && d) ≡ false
    go a true c d h = absurd (impossible h)
    go a false true d h = absurd (impossible h)
    go true false false d h = refl
    go false false false d h = refl

module _ (set : Settings) (e : Pulse) where
  hear-none : (other : Bool) (r : Reply) → covers e.tick.0 r ≡ false → hear ◌+◌ set e other r ≡ r
  unfolding hear covers
  hear-none other r h =
      let k = position (f1 r) e.tick.0 in
      ap (λ (b : Bool). cond b (heard_at ◌+◌ k e (verdict e.main (agrees set e.value r) other) r) r) (takes_none k r.word.settled h)

  deal-none : (before l : List Reply) → All (λ r. covers e.tick.0 r ≡ false) l → deal_from ◌+◌ set e before l ≡ l
  deal-none before [] h = refl
  deal-none before (r ∷ l) h =
      let a = hear-none (any (speaks set e) (before ++ l)) r h.0 in
      let b = deal-none (before ++ (r ∷ [])) l h.1 in
      λ i. a i ∷ b i

-- ---- ticks at which nothing is done but to retire

module _ (G : Given) (timed : Timed G) where
  -- where l are the open replies: no edge stands at t, or one without a bracket that none of them covers
  abbrev pub Passed : List Reply → ℕ → Type 0
  Passed l t = stands (G.edge t) ≡ true → (bracket_at G t ≡ None) × All (λ r. covers t r ≡ false) l

  plain_step : (u : ℕ) (s : State) → Passed (retired u s).live u → step ◌+◌ G u s ≡ retired u s
  unfolding step edge_step bracket deal
  plain_step u s h = go (stands (G.edge u)) refl
    where
      go : (b : Bool) → stands (G.edge u) ≡ b → cond b (edge_step ◌+◌ G.settings (G.edge u).pulse (bracket_at G u) (retired u s)) (retired u s) ≡ retired u s
      go false e = refl
      go true e =
          let n = subst (λ (v : ℕ). All (λ r. covers v r ≡ false) (retired u s).live) (sym (timed.tick u)) (h e).1 in
          ap (λ (b : Option Pulse). edge_step ◌+◌ G.settings (G.edge u).pulse b (retired u s)) (h e).0
          ∙ (λ i. record { done = (retired u s).done; live = deal-none G.settings (G.edge u).pulse [] (retired u s).live n i; counts = (retired u s).counts })

  passed-less : (u v t : ℕ) (s : State) → Passed s.live t → Passed (retired v (retired u s)).live t
  unfolding retired
  passed-less u v t s h e =
      let U : Reply → Type 0 = λ r. covers t r ≡ false in
      ((h e).0, all_reject U (ended v) (reject (ended u) s.live) (all_reject U (ended u) s.live (h e).1))

  passed-once : (v t : ℕ) (s : State) → Passed s.live t → Passed (retired v s).live t
  unfolding retired
  passed-once v t s h e = ((h e).0, all_reject (λ (r : Reply). covers t r ≡ false) (ended v) s.live (h e).1)

  -- from c on, suc k such ticks
  pub skip : (k c : ℕ) → ((t : ℕ) → c ≤ t → t ≤ c + k → Passed (after ◌+◌ G c).live t) → after ◌+◌ G (suc (c + k)) ≡ retired (c + k) (after ◌+◌ G c)
  unfolding after
  skip zero c h =
      let z : c + 0 ≡ c = omega arith in
      rw z (plain_step c (after ◌+◌ G c) (passed-once c c (after ◌+◌ G c) (h c (omega arith) (omega arith))))
  skip (suc k) c h =
      let z : c + suc k ≡ suc (c + k) = omega arith in
      let a = after ◌+◌ G c in
      let e = skip k c (λ t l m. h t l (omega arith)) in
      let n = passed-less (c + k) (suc (c + k)) (suc (c + k)) a (h (suc (c + k)) (omega arith) (omega arith)) in
      rw z
      (plain_step (suc (c + k)) (after ◌+◌ G (suc (c + k))) (subst (λ (s : State). Passed (retired (suc (c + k)) s).live (suc (c + k))) (sym e) n)
      ∙ ap (retired (suc (c + k))) e
      ∙ retired-twice (c + k) (suc (c + k)) (omega arith) c a (ordered G timed c).rising)

  -- after tick u nothing is left for u to retire
  young_none : (u : ℕ) (l : List Reply) → All (Young u) l → All (λ r. ended u r ≡ false) l
  unfolding ended
  young_none u l y = all_map (Young u) (λ r. ended u r ≡ false) (λ r k. le-ltb (f1 r + 205) u k.young) l y

  retired_again : (u : ℕ) → retired u (after ◌+◌ G (suc u)) ≡ after ◌+◌ G (suc u)
  unfolding retired
  retired_again u =
      let s = after ◌+◌ G (suc u) in
      let n = young_none u s.live (aged G timed u).live in
      let d = ap {B = List Reply} (λ z. s.done ++ z) (filter_none (ended u) s.live n) ∙ append-nil s.done in
      let l = reject_none (ended u) s.live n in
      λ i. record { done = d i; live = l i; counts = s.counts }

  -- with nothing to do from c to u, the state after u is that after c, retired at u
  pub skip_to : (c u : ℕ) → c ≤ suc u → ((t : ℕ) → c ≤ t → t ≤ u → Passed (after ◌+◌ G c).live t) → retired u (after ◌+◌ G c) ≡ after ◌+◌ G (suc u)
  skip_to c u h p = go (leb c u) refl
    where
      go : (b : Bool) → leb c u ≡ b → retired u (after ◌+◌ G c) ≡ after ◌+◌ G (suc u)
      go true e =
          let l = leb-true c u e in
          let k = u - c in
          let z : c + k ≡ u = omega arith in
          sym (subst (λ (n : ℕ). after ◌+◌ G (suc n) ≡ retired n (after ◌+◌ G c)) z (skip k c (λ t a b. p t a (omega arith))))
      go false e =
          let z : c ≡ suc u = omega (arith, leb-false c u e) in
          ap (λ (n : ℕ). retired u (after ◌+◌ G n)) z ∙ retired_again u

  -- with nothing to do from c up to u, the step at u starts from the state after c, retired at u
  pub visit : (c u : ℕ) → c ≤ u → ((t : ℕ) → c ≤ t → t < u → Passed (after ◌+◌ G c).live t) → stands (G.edge u) ≡ true
      → edge_step ◌+◌ G.settings (G.edge u).pulse (bracket_at G u) (retired u (after ◌+◌ G c)) ≡ after ◌+◌ G (suc u)
  unfolding after step
  visit c zero h p q =
      let z : c ≡ 0 = omega arith in
      rw (z, q)
  visit c (suc u) h p q =
      let e = (G.edge (suc u)).pulse in
      let b = bracket_at G (suc u) in
      rw q
      (ap (λ (s : State). edge_step ◌+◌ G.settings e b s)
      (sym (retired-twice u (suc u) (omega arith) c (after ◌+◌ G c) (ordered G timed c).rising)
      ∙ ap (retired (suc u)) (skip_to c u h (λ t a m. p t a (omega arith)))))

  -- what is done stays done: the list only grows
  step_grows : (u : ℕ) (s : State) → length s.done ≤ length (step ◌+◌ G u s).done
  unfolding retired
  step_grows u s =
      subst (λ (d : List Reply). length s.done ≤ length d) (sym (step-done G timed u s)) (omega (arith, length-append s.done (filter (ended u) s.live)))

  pub done_grows : (c k : ℕ) → length (after ◌+◌ G c).done ≤ length (after ◌+◌ G (k + c)).done
  unfolding after
  done_grows c zero = let z : 0 + c ≡ c = omega arith in rw z (omega arith)
  done_grows c (suc k) =
      let z : suc k + c ≡ suc (k + c) = omega arith in
      rw z (omega (arith, step_grows (k + c) (after ◌+◌ G (k + c)), done_grows c k))
