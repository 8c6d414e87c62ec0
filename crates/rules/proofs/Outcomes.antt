-- Every bracket ends in exactly one counted outcome: found = replies + sidelobe + garbled + lost + phantoms = the edges at which a bracket stands.
-- Each part of a step keeps the two sums of `Balanced`, and only a bracket raises found, by one.
use Prim.Native.Nat.{ℕ, zero, suc, ◌+◌}
use native.Mathlib.Omega.{arith}
use mathlib.Core.Path.{◌≡◌, refl, ap, ◌∙◌}
use mathlib.Core.Bool.{Bool, true, false, ◌&&◌, cond}
use mathlib.Core.List.{List, [], ◌∷◌, ◌++◌}
use lib.ListN.{length, length-append}
use Rattle.rules.specs.declared.Reply.{Reply}
use Rattle.rules.specs.declared.Pulse.{Pulse}
use Rattle.std.proofs.Common.{Option, Some, None}
use Rattle.rules.specs.declared.Fate.{Fate}
use Rattle.rules.specs.declared.Fate.TheVariants.{Sidelobe, Garbled, Lost, Opens}
use Rattle.rules.specs.Settings.{Settings}
use Rattle.rules.specs.Lists.{filter, reject, count}
use Rattle.rules.specs.Samples.{Trace}
use Rattle.rules.specs.Edges.{stands}
use Rattle.rules.specs.Replies.{ended, is_phantom}
use Rattle.rules.specs.Machine.{Given, given, State, retired, is_bracket, bracket_at, brackets_below, fate, opened, live_after, tally, bracket, deal_from, deal, edge_step, step, after, final}
use Rattle.rules.specs.declared.Totals.{Totals}
use Rattle.rules.specs.Records.{totals}
use Rattle.rules.proofs.ListLaws.{count_split}

pub record Balanced (s : State) : Type 0 where
  -- each bracket found has one fate
  pub fates : s.counts.found ≡ s.counts.opened + s.counts.sidelobe + s.counts.garbled + s.counts.lost
  -- each reply opened is there still, or was removed as a phantom
  pub kept : s.counts.opened ≡ length s.done + length s.live + s.counts.phantoms

retired_balanced : (u : ℕ) (s : State) → Balanced s → Balanced (retired u s)
unfolding retired
retired_balanced u s h =
    record {
      fates = h.fates;
      kept = omega (arith, h.kept, length-append s.done (filter (ended u) s.live), count_split (ended u) s.live);
    }

tally_balanced : (x : Fate) (ks : List Reply) (p : ℕ) (r : Reply) (s : State) → p + length ks ≡ length s.live → Balanced s
    → Balanced (record { done = s.done; live = live_after x s.live ks r; counts = tally ◌+◌ x p s.counts })
tally_balanced Sidelobe ks p r s e h = omega arith
tally_balanced Garbled ks p r s e h = omega arith
tally_balanced Lost ks p r s e h = omega arith
tally_balanced Opens ks p r s e h = omega (arith, length-append ks (r ∷ []))

bracket_balanced : (e : Pulse) (b : Option Pulse) (s : State) → Balanced s → Balanced (bracket ◌+◌ e b s)
unfolding bracket
bracket_balanced e None s h = h
bracket_balanced e (Some f) s h =
    let p = is_phantom e.tick.0 in
    let ks = reject p s.live in
    tally_balanced (fate e f ks) ks (count p s.live) (opened e f ks) s (count_split p s.live) h

module _ (set : Settings) where
  pub deal-length : (e : Pulse) (before l : List Reply) → length (deal_from ◌+◌ set e before l) ≡ length l
  deal-length e before [] = refl
  deal-length e before (r ∷ l) = ap suc (deal-length e (before ++ (r ∷ [])) l)

  edge_balanced : (e : Pulse) (b : Option Pulse) (s : State) → Balanced s → Balanced (edge_step ◌+◌ set e b s)
  unfolding edge_step deal
  edge_balanced e b s h =
      let t = bracket ◌+◌ e b s in
      let k = bracket_balanced e b s h in
      record { fates = k.fates; kept = omega (arith, k.kept, deal-length e [] t.live) }

  -- what became of a bracket is counted once
  tally-found : (x : Fate) (p : ℕ) (s : State) → (tally ◌+◌ x p s.counts).found ≡ s.counts.found + 1
  tally-found Sidelobe p s = refl
  tally-found Garbled p s = refl
  tally-found Lost p s = refl
  tally-found Opens p s = refl

  edge-found : (e : Pulse) (b : Option Pulse) (s : State) → (edge_step ◌+◌ set e b s).counts.found ≡ s.counts.found + cond (is_bracket b) 1 0
  unfolding edge_step deal bracket
  edge-found e None s = omega arith
  edge-found e (Some f) s =
      let p = is_phantom e.tick.0 in
      tally-found (fate e f (reject p s.live)) (count p s.live) s

module _ (G : Given) where
  step_balanced : (u : ℕ) (s : State) → Balanced s → Balanced (step ◌+◌ G u s)
  unfolding step
  step_balanced u s h = go (stands (G.edge u))
    where
      t : State
      t = retired u s

      go : (b : Bool) → Balanced (cond b (edge_step ◌+◌ G.settings (G.edge u).pulse (bracket_at G u) t) t)
      go true = edge_balanced G.settings (G.edge u).pulse (bracket_at G u) t (retired_balanced u s h)
      go false = retired_balanced u s h

  step-found : (u : ℕ) (s : State) → (step ◌+◌ G u s).counts.found ≡ s.counts.found + cond (stands (G.edge u) && is_bracket (bracket_at G u)) 1 0
  unfolding step retired
  step-found u s = go (stands (G.edge u))
    where
      t : State
      t = retired u s

      go : (b : Bool) → (cond b (edge_step ◌+◌ G.settings (G.edge u).pulse (bracket_at G u) t) t).counts.found ≡ s.counts.found + cond (b && is_bracket (bracket_at G u)) 1 0
      go true = edge-found G.settings (G.edge u).pulse (bracket_at G u) t
      go false = omega arith

  pub after_balanced : (n : ℕ) → Balanced (after ◌+◌ G n)
  unfolding after
  after_balanced zero = omega arith
  after_balanced (suc n) = step_balanced n (after ◌+◌ G n) (after_balanced n)

  pub after-found : (n : ℕ) → (after ◌+◌ G n).counts.found ≡ brackets_below G n
  unfolding after brackets_below
  after-found zero = refl
  after-found (suc n) =
      step-found n (after ◌+◌ G n) ∙ ap (λ (k : ℕ). k + cond (stands (G.edge n) && is_bracket (bracket_at G n)) 1 0) (after-found n)

-- the two sides of demand 3's sum, for a whole trace
pub record Accounted (set : Settings) (T : Trace) (x : Totals) : Type 0 where
  pub sum : x.found ≡ x.replies + x.sidelobe + x.garbled + x.lost + x.phantoms
  pub brackets : x.found ≡ brackets_below (given set T) (length T.flags)

pub accounted : (set : Settings) (T : Trace) → Accounted set T (totals (final set T))
unfolding totals final
accounted set T =
    let s = after ◌+◌ (given set T) (length T.flags) in
    let h = after_balanced (given set T) (length T.flags) in
    record { sum = omega (arith, h.fates, h.kept, length-append s.done s.live); brackets = after-found (given set T) (length T.flags) }
