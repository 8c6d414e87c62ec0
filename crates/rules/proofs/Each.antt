-- What holds of every reply: a property that a reply has when it opens, and that settling keeps, holds of all replies after any number of ticks.
-- Opening is known to happen at an edge with a bracket whose fate is to open.
use Prim.Native.Nat.{ℕ, zero, suc, ◌+◌}
use mathlib.Core.Path.{◌≡◌, refl}
use mathlib.Core.Bool.{Bool, true, false, cond}
use mathlib.Core.List.{List, [], ◌∷◌, ◌++◌}
use Rattle.rules.specs.declared.Reply.{Reply}
use Rattle.rules.specs.declared.Pulse.{Pulse}
use Rattle.std.proofs.Common.{Option, Some, None}
use Rattle.rules.specs.declared.Fate.{Fate}
use Rattle.rules.specs.declared.Fate.TheVariants.{Sidelobe, Garbled, Lost, Opens}
use Rattle.rules.specs.Settings.{Settings}
use Rattle.rules.specs.Lists.{any, filter, reject, All}
use Rattle.rules.specs.Edges.{stands}
use Rattle.rules.specs.Replies.{ended, is_phantom, speaks, hear}
use Rattle.rules.specs.Machine.{Given, State, retired, bracket_at, fate, opened, live_after, bracket, deal_from, deal, edge_step, step, after}
use Rattle.rules.specs.Records.{replies}
use Rattle.rules.proofs.ListLaws.{all_filter, all_reject, all_append}

-- P holds of the replies that are done, and of those that are open
pub record Each (P : Reply → Type 0) (s : State) : Type 0 where
  pub done : All P s.done
  pub live : All P s.live

module _ (P : Reply → Type 0) where
  pub each_replies : (s : State) → Each P s → All P (replies s)
  each_replies s h = all_append P s.done s.live h.done h.live

  each_retired : (u : ℕ) (s : State) → Each P s → Each P (retired u s)
  unfolding retired
  each_retired u s h =
      record {
        done = all_append P s.done (filter (ended u) s.live) h.done (all_filter P (ended u) s.live h.live);
        live = all_reject P (ended u) s.live h.live;
      }

  each_after : (x : Fate) (l ks : List Reply) (r : Reply) → All P l → All P ks → (x ≡ Opens → P r) → All P (live_after x l ks r)
  each_after Sidelobe l ks r h k f = h
  each_after Garbled l ks r h k f = k
  each_after Lost l ks r h k f = k
  each_after Opens l ks r h k f = all_append P ks (r ∷ []) k (f refl, tt)

  each_bracket : (e : Pulse) (b : Option Pulse) → ((f : Pulse) → b ≡ Some f → (ks : List Reply) → fate e f ks ≡ Opens → P (opened e f ks)) → (s : State)
      → Each P s → Each P (bracket ◌+◌ e b s)
  unfolding bracket
  each_bracket e None begins s h = h
  each_bracket e (Some f) begins s h =
      let ks = reject (is_phantom e.tick.0) s.live in
      record {
        done = h.done;
        live = each_after (fate e f ks) s.live ks (opened e f ks) h.live (all_reject P (is_phantom e.tick.0) s.live h.live) (begins f refl ks);
      }

  module _ (set : Settings) where
    each_deal : (e : Pulse) → ((other : Bool) (r : Reply) → P r → P (hear ◌+◌ set e other r)) → (before l : List Reply) → All P l
        → All P (deal_from ◌+◌ set e before l)
    each_deal e keeps before [] h = tt
    each_deal e keeps before (r ∷ l) h = (keeps (any (speaks set e) (before ++ l)) r h.0, each_deal e keeps (before ++ (r ∷ [])) l h.1)

  module _ (G : Given) (keeps : (u : ℕ) (other : Bool) (r : Reply) → P r → P (hear ◌+◌ G.settings (G.edge u).pulse other r))
      (begins : (u : ℕ) → stands (G.edge u) ≡ true → (f : Pulse) → bracket_at G u ≡ Some f → (ks : List Reply) → fate (G.edge u).pulse f ks ≡ Opens → P (opened (G.edge u).pulse f ks)) where
    each_step : (u : ℕ) (s : State) → Each P s → Each P (step ◌+◌ G u s)
    unfolding step edge_step deal
    each_step u s h = go (stands (G.edge u)) refl
      where
        t : State
        t = retired u s

        e : Pulse
        e = (G.edge u).pulse

        go : (b : Bool) → stands (G.edge u) ≡ b → Each P (cond b (deal ◌+◌ G.settings e (bracket ◌+◌ e (bracket_at G u) t)) t)
        go true q =
            let k = each_bracket e (bracket_at G u) (begins u q) t (each_retired u s h) in
            record { done = k.done; live = each_deal G.settings e (keeps u) [] (bracket ◌+◌ e (bracket_at G u) t).live k.live }
        go false q = each_retired u s h

    pub each : (n : ℕ) → Each P (after ◌+◌ G n)
    unfolding after
    each zero = record { done = tt; live = tt }
    each (suc n) = each_step n (after ◌+◌ G n) (each n)
