-- Brackets and the plain machine. The open replies are a list in order of F1.
use Prim.Native.Nat.{ℕ, zero, suc, ◌+◌, ◌^◌}
use Rattle.std.specs.Prelude.{Bool, true, false, ◌&&◌, ◌||◌, leb, eqb, length, Option, Some, None}
use Rattle.std.proofs.Math.Bool.{not, cond}
use mathlib.Core.List.{List, [], ◌∷◌, ◌++◌}
use Rattle.rules.specs.declared.Reply.{Reply}
use Rattle.rules.specs.declared.Pulse.{Pulse}
use Rattle.rules.specs.declared.Counts.{Counts}
use Rattle.rules.specs.declared.Fate.{Fate}
use Rattle.rules.specs.declared.Fate.TheVariants.{Sidelobe, Garbled, Lost, Opens}
use Rattle.rules.specs.Settings.{Settings}
use Rattle.rules.specs.Lists.{any, filter, reject, count}
use Rattle.rules.specs.Samples.{Trace, decoders}
use Rattle.rules.specs.Edges.{Edge, stands, edge_at}
use Rattle.rules.specs.Replies.{covers, inside, military, is_phantom, ended, speaks, hear, lone}

-- What the machine is given of a sweep: the settings, and the edge at each tick, if there is one.
pub record Given : Type 0 where
  pub settings : Settings
  pub edge : ℕ → Edge

-- what a trace gives it
abbrev pub given : Settings → Trace → Given
given set T = record { settings = set; edge = edge_at set T }

pub record State : Type 0 where
  -- the replies opened and not removed that are no longer open, and those that are, in order of F1
  pub done : List Reply
  pub live : List Reply
  pub counts : Counts

abbrev pub start : State
start = record { done = []; live = []; counts = record { found = 0; opened = 0; sidelobe = 0; garbled = 0; lost = 0; phantoms = 0 } }

-- "Replies with q+205 < u are no longer open."
unfoldable pub retired : ℕ → State → State
unfolding ended
retired u s = record { done = s.done ++ filter (ended u) s.live; live = reject (ended u) s.live; counts = s.counts }

-- ---- brackets

-- "A bracket stands at edge u if an edge stands at u+168; else at u+167; else at u+169. The first found is its F2; u is its F1."
-- The three edges are those at u+168, u+167 and u+169.
unfoldable pub bracket_of : Settings → Edge → Edge → Edge → Option Pulse
bracket_of set e₁₆₈ e₁₆₇ e₁₆₉ =
    cond (stands e₁₆₈) (Some e₁₆₈.pulse)
    (cond (eqb set.tolerance 0) None
    (cond (stands e₁₆₇) (Some e₁₆₇.pulse)
    (cond (stands e₁₆₉) (Some e₁₆₉.pulse)
    None)))

abbrev pub is_bracket : Option Pulse → Bool
is_bracket None = false
is_bracket (Some f) = true

module _ (G : Given) where
  -- the bracket at an edge at u, if one stands there
  unfoldable pub bracket_at : ℕ → Option Pulse
  unfolding bracket_of
  bracket_at u = bracket_of G.settings (G.edge (u + 168)) (G.edge (u + 167)) (G.edge (u + 169))

  -- the number of edges below tick n at which a bracket stands
  unfoldable pub brackets_below : ℕ → ℕ
  unfolding bracket_at
  brackets_below zero = 0
  brackets_below (suc n) = brackets_below n + cond (stands (G.edge n) && is_bracket (bracket_at n)) 1 0

-- ---- what becomes of a bracket

-- "1. Neither F1 nor F2 has M: sidelobe, done." "3. No framing pulse both has M and is uncovered by every open reply: garbled, done."
-- "4. Four replies open: lost, done." "5. A reply opens."
-- By whether a framing pulse has M, whether one has M and is uncovered, and whether four replies are open.
abbrev pub fate_by : Bool → Bool → Bool → Fate
fate_by false clear full = Sidelobe
fate_by true false full = Garbled
fate_by true true true = Lost
fate_by true true false = Opens

-- "5. A reply opens. Its reference is F1's value, or F2's if an open reply covers F1. It is a potential phantom if an open reply covers u at
-- position 1 to 14. It is military if an open q has u-q from 203 to 205." "Where F2 is the reference, position 14 is settled when the reply opens,
-- as code 1 with F2's M for confidence, and not averaged."
-- F1 is e and F2 is f; `covered` says that an open reply covers F1.
unfoldable pub opened_by_lem : Bool → Bool → Bool → Pulse → Pulse → Reply
unfolding lone
opened_by_lem covered suspect military e f =
    record {
      f1 = e.tick;
      marks = record { suspect = suspect; military = military; second = covered; main = (cond covered f e).main };
      word =
          record {
            settled = cond covered (2 ^ 13) 0;
            code = cond covered (2 ^ 13) 0;
            unsure = cond (covered && not f.main) (2 ^ 13) 0;
          };
      reference = lone (cond covered f e).value;
    }

-- A bracket with F1 at e and F2 at f. `live` are the open replies, phantoms removed.
module _ (e f : Pulse) (live : List Reply) where
  -- a framing pulse has M and is uncovered by every open reply
  unfoldable pub clear : Bool
  unfolding covers
  clear = (e.main && not (any (covers e.tick.0) live)) || (f.main && not (any (covers f.tick.0) live))

  unfoldable pub fate : Fate
  unfolding clear
  fate = fate_by (e.main || f.main) clear (leb decoders (length live))

  unfoldable pub opened : Reply
  unfolding covers inside military opened_by_lem
  opened = opened_by_lem (any (covers e.tick.0) live) (any (inside e.tick.0) live) (any (military e.tick.0) live) e f

-- the open replies once a bracket's fate is known: ks are those without the phantoms, and r is the reply to open
abbrev pub live_after : Fate → List Reply → List Reply → Reply → List Reply
live_after Sidelobe live ks r = live
live_after Garbled live ks r = ks
live_after Lost live ks r = ks
live_after Opens live ks r = ks ++ (r ∷ [])

module _ (plus : ℕ → ℕ → ℕ) where
  -- "If a bracket stands at u, "found" rises". p phantoms are removed, but by a sidelobe bracket none.
  abbrev pub tally : Fate → ℕ → Counts → Counts
  tally Sidelobe p c =
      record { found = plus c.found 1; opened = c.opened; sidelobe = plus c.sidelobe 1; garbled = c.garbled; lost = c.lost; phantoms = c.phantoms }
  tally Garbled p c =
      record { found = plus c.found 1; opened = c.opened; sidelobe = c.sidelobe; garbled = plus c.garbled 1; lost = c.lost; phantoms = plus c.phantoms p }
  tally Lost p c =
      record { found = plus c.found 1; opened = c.opened; sidelobe = c.sidelobe; garbled = c.garbled; lost = plus c.lost 1; phantoms = plus c.phantoms p }
  tally Opens p c =
      record { found = plus c.found 1; opened = plus c.opened 1; sidelobe = c.sidelobe; garbled = c.garbled; lost = c.lost; phantoms = plus c.phantoms p }

  -- "If a bracket stands at u, "found" rises, and these are tried in order". "2. Each open potential phantom [..] is removed: one phantom each."
  unfoldable pub bracket : Pulse → Option Pulse → State → State
  unfolding fate opened is_phantom
  bracket e None s = s
  bracket e (Some f) s =
      let ks = reject (is_phantom e.tick.0) s.live in
      record {
        done = s.done;
        live = live_after (fate e f ks) s.live ks (opened e f ks);
        counts = tally (fate e f ks) (count (is_phantom e.tick.0) s.live) s.counts;
      }

  module _ (set : Settings) where
    -- "All comparisons use the references from before this edge, a newly opened reply's included. [..] "Others" are other open replies that cover u."
    -- The edge goes to each open reply of the list; `before` are the open replies that stand before those.
    abbrev pub deal_from : Pulse → List Reply → List Reply → List Reply
    deal_from e before [] = []
    deal_from e before (r ∷ behind) = hear plus set e (any (speaks set e) (before ++ behind)) r ∷ deal_from e (before ++ (r ∷ [])) behind

    unfoldable pub deal : Pulse → State → State
    unfolding hear speaks
    deal e s = record { done = s.done; live = deal_from e [] s.live; counts = s.counts }

    -- the edge e, where the bracket b stands, if one does
    unfoldable pub edge_step : Pulse → Option Pulse → State → State
    unfolding bracket deal
    edge_step e b s = deal e (bracket e b s)

  module _ (G : Given) where
    -- "The machine takes the edges by rising tick u."
    unfoldable pub step : ℕ → State → State
    unfolding retired edge_step bracket_at
    step u s = let t = retired u s in cond (stands (G.edge u)) (edge_step G.settings (G.edge u).pulse (bracket_at G u) t) t

    -- the state after the ticks below n
    unfoldable pub after : ℕ → State
    unfolding step
    after zero = start
    after (suc n) = step n (after n)

-- the state after a whole trace
unfoldable pub final : Settings → Trace → State
unfolding after edge_at
final set T = after ◌+◌ (given set T) (length T.flags)
