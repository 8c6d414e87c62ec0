-- Replies stand in strictly rising order of F1, each F1 before the tick, and at most four are open.
-- Retiring moves the first of the open replies behind those that are done, so the list of all replies stays as it is.
use Prim.Native.Nat.{ℕ, zero, suc, ◌+◌, ◌≤◌, ◌<◌}
use native.Mathlib.Omega.{arith}
use mathlib.Core.Path.{◌≡◌, refl, sym, ap, ◌∙◌, subst}
use mathlib.Core.Bool.{Bool, true, false, ◌||◌, cond}
use mathlib.Core.List.{List, [], ◌∷◌, ◌++◌, append_assoc}
use lib.Dec.{leb}
use lib.ListN.{length, length-append}
use borrow.Author.Tests.{leb-false, ltb-false, le-ltb}
use Rattle.rules.specs.declared.Reply.{Reply}
use Rattle.rules.specs.declared.Pulse.{Pulse}
use Rattle.std.proofs.Common.{Option, Some, None}
use Rattle.rules.specs.declared.Fate.{Fate}
use Rattle.rules.specs.declared.Fate.TheVariants.{Sidelobe, Garbled, Lost, Opens}
use Rattle.rules.specs.Settings.{Settings}
use Rattle.rules.specs.Lists.{any, filter, reject, All}
use Rattle.rules.specs.Edges.{stands}
use Rattle.rules.specs.Replies.{f1, position, takes, verdict, agrees, heard_at, ended, is_phantom, speaks, hear}
use Rattle.rules.specs.Machine.{Given, State, retired, bracket_at, fate_by, clear, fate, opened, opened_by_lem, live_after, bracket, deal_from, deal, edge_step, step, after}
use Rattle.rules.specs.Records.{replies}
use Rattle.rules.proofs.ListLaws.{filter_none, reject_none, reject_short}
use Rattle.rules.proofs.Outcomes.{deal-length}

-- ---- rising order

-- each F1 is at t or later and below the end u, and each is after the one before it
abbrev pub Rising : ℕ → ℕ → List Reply → Type 0
Rising t u [] = t ≤ u
Rising t u (r ∷ l) = (t ≤ f1 r) × Rising (f1 r + 1) u l

rising_from : (t t' u : ℕ) → t' ≤ t → (l : List Reply) → Rising t u l → Rising t' u l
rising_from t t' u h [] s = omega arith
rising_from t t' u h (r ∷ l) s = (omega arith, s.1)

rising_later : (t u u' : ℕ) → u ≤ u' → (l : List Reply) → Rising t u l → Rising t u' l
rising_later t u u' h [] s = omega arith
rising_later t u u' h (r ∷ l) s = (s.0, rising_later (f1 r + 1) u u' h l s.1)

-- every F1 of a rising list is from t on, and below u
pub rising_all : (t u : ℕ) (l : List Reply) → Rising t u l → All (λ r. (t ≤ f1 r) × (f1 r < u)) l
rising_all t u [] s = tt
rising_all t u (r ∷ l) s = ((s.0, below (f1 r) u l s.1), weaken l (rising_all (f1 r + 1) u l s.1))
  where
    below : (a u : ℕ) (l : List Reply) → Rising (a + 1) u l → a < u
    below a u [] s = omega arith
    below a u (x ∷ l) s = let b = below (f1 x) u l s.1 in omega (arith, s.0)

    weaken : (l : List Reply) → All (λ x. (f1 r + 1 ≤ f1 x) × (f1 x < u)) l → All (λ x. (t ≤ f1 x) × (f1 x < u)) l
    weaken [] h = tt
    weaken (x ∷ l) h = ((omega (arith, h.0, s.0), h.0.1), weaken l h.1)

rising_reject : (p : Reply → Bool) (t u : ℕ) (l : List Reply) → Rising t u l → Rising t u (reject p l)
rising_reject p t u [] s = s
rising_reject p t u (r ∷ l) s = go (p r) (rising_reject p (f1 r + 1) u l s.1)
  where
    go : (b : Bool) → Rising (f1 r + 1) u (reject p l) → Rising t u (cond b (reject p l) (r ∷ reject p l))
    go true k = rising_from (f1 r + 1) t u (omega (arith, s.0)) (reject p l) k
    go false k = (s.0, k)

rising_snoc : (t u : ℕ) (r : Reply) → f1 r ≡ u → (l : List Reply) → Rising t u l → Rising t (u + 1) (l ++ (r ∷ []))
rising_snoc t u r e [] s = (omega arith, omega arith)
rising_snoc t u r e (x ∷ l) s = (s.0, rising_snoc (f1 x + 1) u r e l s.1)

-- the later part of a rising list
pub rising_behind : (t u : ℕ) (d l : List Reply) → Rising t u (d ++ l) → Rising t u l
rising_behind t u [] l s = s
rising_behind t u (x ∷ d) l s = rising_from (f1 x + 1) t u (omega (arith, s.0)) l (rising_behind (f1 x + 1) u d l s.1)

-- the later part is replaced by one that rises from wherever it did
rising_swap : (u u' : ℕ) (d l l' : List Reply) → ((t : ℕ) → Rising t u l → Rising t u' l') → (t : ℕ) → Rising t u (d ++ l) → Rising t u' (d ++ l')
rising_swap u u' [] l l' f t s = f t s
rising_swap u u' (x ∷ d) l l' f t s = (s.0, rising_swap u u' d l l' f (f1 x + 1) s.1)

-- ---- a test that the earlier replies pass splits a rising list in two

pub record Earlier (p : Reply → Bool) : Type 0 where
  pub earlier : (r x : Reply) → f1 r ≤ f1 x → p r ≡ false → p x ≡ false

pub none-later : (p : Reply → Bool) → Earlier p → (r : Reply) → p r ≡ false → (u : ℕ) (l : List Reply) → Rising (f1 r + 1) u l → All (λ x. p x ≡ false) l
none-later p e r q u [] s = tt
none-later p e r q u (x ∷ l) s =
    let q' = e.earlier r x (omega (arith, s.0)) q in
    (q', none-later p e x q' u l s.1)

pub split_rising : (p : Reply → Bool) → Earlier p → (t u : ℕ) (l : List Reply) → Rising t u l → filter p l ++ reject p l ≡ l
split_rising p e t u [] s = refl
split_rising p e t u (r ∷ l) s = go (p r) refl (split_rising p e (f1 r + 1) u l s.1)
  where
    go : (b : Bool) → p r ≡ b → filter p l ++ reject p l ≡ l → cond b (r ∷ filter p l) (filter p l) ++ cond b (reject p l) (r ∷ reject p l) ≡ r ∷ l
    go true q h = ap {B = List Reply} (λ z. r ∷ z) h
    go false q h =
        let n = none-later p e r q u l s.1 in
        rw (filter_none p l n, reject_none p l n)

pub ended_earlier : (u : ℕ) → Earlier (ended u)
unfolding ended
ended_earlier u = record { earlier = λ r x l q. le-ltb (f1 x + 205) u (omega (arith, ltb-false (f1 r + 205) u q)) }

-- retiring keeps the list of replies
pub retired-replies : (u n : ℕ) (s : State) → Rising 0 n (replies s) → replies (retired u s) ≡ replies s
unfolding retired
retired-replies u n s h =
    append_assoc s.done (filter (ended u) s.live) (reject (ended u) s.live)
    ∙ ap {B = List Reply} (λ z. s.done ++ z) (split_rising (ended u) (ended_earlier u) 0 n s.live (rising_behind 0 n s.done s.live h))

-- ---- an edge does not move a reply

pub hear-f1 : (set : Settings) (e : Pulse) (other : Bool) (r : Reply) → (hear ◌+◌ set e other r).f1 ≡ r.f1
unfolding hear
hear-f1 set e other r = go (takes (position (f1 r) e.tick.0) r.word.settled)
  where
    go : (b : Bool) → (cond b (heard_at ◌+◌ (position (f1 r) e.tick.0) e (verdict e.main (agrees set e.value r) other) r) r).f1 ≡ r.f1
    go true = refl
    go false = refl

rising_deal : (set : Settings) (e : Pulse) (t u : ℕ) (before l : List Reply) → Rising t u l → Rising t u (deal_from ◌+◌ set e before l)
rising_deal set e t u before [] s = s
rising_deal set e t u before (r ∷ l) s =
    rw (hear-f1 set e (any (speaks set e) (before ++ l)) r) (s.0, rising_deal set e (f1 r + 1) u (before ++ (r ∷ [])) l s.1)

rising_after : (x : Fate) (u : ℕ) (p : Reply → Bool) (l : List Reply) (r : Reply) → f1 r ≡ u → (t : ℕ) → Rising t u l → Rising t (u + 1) (live_after x l (reject p l) r)
rising_after Sidelobe u p l r e t h = rising_later t u (u + 1) (omega arith) l h
rising_after Garbled u p l r e t h = rising_later t u (u + 1) (omega arith) (reject p l) (rising_reject p t u l h)
rising_after Lost u p l r e t h = rising_later t u (u + 1) (omega arith) (reject p l) (rising_reject p t u l h)
rising_after Opens u p l r e t h = rising_snoc t u r e (reject p l) (rising_reject p t u l h)

pub opened-f1 : (e f : Pulse) (ks : List Reply) → (opened e f ks).f1 ≡ e.tick
unfolding opened opened_by_lem
opened-f1 e f ks = refl

rising_bracket : (e : Pulse) (b : Option Pulse) (s : State) → Rising 0 e.tick.0 (replies s) → Rising 0 (e.tick.0 + 1) (replies (bracket ◌+◌ e b s))
unfolding bracket
rising_bracket e None s h = rising_later 0 e.tick.0 (e.tick.0 + 1) (omega arith) (replies s) h
rising_bracket e (Some f) s h =
    let u = e.tick.0 in
    let ks = reject (is_phantom u) s.live in
    rising_swap u (u + 1) s.done s.live (live_after (fate e f ks) s.live ks (opened e f ks))
    (rising_after (fate e f ks) u (is_phantom u) s.live (opened e f ks) (ap (λ t. t.0) (opened-f1 e f ks))) 0 h

rising_edge : (set : Settings) (e : Pulse) (b : Option Pulse) (s : State) → Rising 0 e.tick.0 (replies s) → Rising 0 (e.tick.0 + 1) (replies (edge_step ◌+◌ set e b s))
unfolding edge_step deal
rising_edge set e b s h =
    let t = bracket ◌+◌ e b s in
    rising_swap (e.tick.0 + 1) (e.tick.0 + 1) t.done t.live (deal_from ◌+◌ set e [] t.live)
    (λ k. rising_deal set e k (e.tick.0 + 1) [] t.live) 0 (rising_bracket e b s h)

-- ---- at most four open

after-short : (a c : Bool) (l ks : List Reply) (r : Reply) → length l ≤ 4 → length ks ≤ length l → length (live_after (fate_by a c (leb 4 (length ks))) l ks r) ≤ 4
after-short false c l ks r h k = h
after-short true false l ks r h k = omega arith
after-short true true l ks r h k = go (leb 4 (length ks)) refl
  where
    go : (b : Bool) → leb 4 (length ks) ≡ b → length (live_after (fate_by true true b) l ks r) ≤ 4
    go true q = omega arith
    go false q = omega (arith, length-append ks (r ∷ []), leb-false 4 (length ks) q)

pub bracket-short : (e : Pulse) (b : Option Pulse) (s : State) → length s.live ≤ 4 → length (bracket ◌+◌ e b s).live ≤ 4
unfolding bracket fate
bracket-short e None s h = h
bracket-short e (Some f) s h =
    let ks = reject (is_phantom e.tick.0) s.live in
    after-short (e.main || f.main) (clear e f ks) s.live ks (opened e f ks) h (reject_short (is_phantom e.tick.0) s.live)

pub edge-short : (set : Settings) (e : Pulse) (b : Option Pulse) (s : State) → length s.live ≤ 4 → length (edge_step ◌+◌ set e b s).live ≤ 4
unfolding edge_step deal
edge-short set e b s h = omega (arith, deal-length set e [] (bracket ◌+◌ e b s).live, bracket-short e b s h)

-- ---- after any number of ticks

-- the edge at tick u says so
pub record Timed (G : Given) : Type 0 where
  pub tick : (u : ℕ) → (G.edge u).pulse.tick.0 ≡ u

pub record Ordered (n : ℕ) (s : State) : Type 0 where
  pub rising : Rising 0 n (replies s)
  pub four : length s.live ≤ 4

module _ (G : Given) (timed : Timed G) where
  ordered_retired : (u : ℕ) (s : State) → Ordered u s → Ordered u (retired u s)
  unfolding retired
  ordered_retired u s h =
      record {
        rising = subst (λ (l : List Reply). Rising 0 u l) (sym (retired-replies u u s h.rising)) h.rising;
        four = omega (arith, h.four, reject_short (ended u) s.live);
      }

  ordered_edge : (u : ℕ) (b : Option Pulse) (s : State) → Ordered u s → Ordered (suc u) (edge_step ◌+◌ G.settings (G.edge u).pulse b s)
  ordered_edge u b s h =
      let e = (G.edge u).pulse in
      let q = timed.tick u in
      let z : e.tick.0 + 1 ≡ suc u = omega arith in
      record {
        rising = subst (λ (n : ℕ). Rising 0 n (replies (edge_step ◌+◌ G.settings e b s))) z (rising_edge G.settings e b s (subst (λ (n : ℕ). Rising 0 n (replies s)) (sym q) h.rising));
        four = edge-short G.settings e b s h.four;
      }

  ordered_later : (u : ℕ) (s : State) → Ordered u s → Ordered (suc u) s
  ordered_later u s h = record { rising = rising_later 0 u (suc u) (omega arith) (replies s) h.rising; four = h.four }

  ordered_step : (u : ℕ) (s : State) → Ordered u s → Ordered (suc u) (step ◌+◌ G u s)
  unfolding step
  ordered_step u s h = go (stands (G.edge u))
    where
      t : State
      t = retired u s

      go : (b : Bool) → Ordered (suc u) (cond b (edge_step ◌+◌ G.settings (G.edge u).pulse (bracket_at G u) t) t)
      go true = ordered_edge u (bracket_at G u) t (ordered_retired u s h)
      go false = ordered_later u t (ordered_retired u s h)

  -- the replies after n ticks rise, each F1 below n, and at most four are open
  pub ordered : (n : ℕ) → Ordered n (after ◌+◌ G n)
  unfolding after
  ordered zero = record { rising = omega arith; four = omega arith }
  ordered (suc n) = ordered_step n (after ◌+◌ G n) (ordered n)
