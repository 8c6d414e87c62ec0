-- Edges. A rule about a tick t is a function of `w`, the flag bytes from tick t-2 on: t-2 is at place 0, t-1 at place 1, t at place 2.
-- Two bytes 0 stand before the trace. `drop n w` is the `w` of tick t+n.
use Rattle.std.specs.Prelude.{ℕ, zero, suc, ◌+◌, ◌-◌, ◌%◌, Bool, true, false, ◌&&◌, ◌||◌, get_or, drop}
use Rattle.std.proofs.Math.Bool.{not, cond}
use mathlib.Core.List.{List, [], ◌∷◌}
use Rattle.std.proofs.Math.Dec.{ltb, eqb}
use Rattle.rules.specs.declared.Pulse.{Pulse}
use Rattle.rules.specs.Settings.{Settings}
use Rattle.rules.specs.Samples.{Trace, A, P, N, M}

-- "Lead at t: A(t)=1, and either A(t-1)=0, or A(t-2)=A(t-1)=1, P(t-1)=0, P(t)=1."
unfoldable pub lead : List ℕ → Bool
unfolding A P
lead w = A w 2 && (not (A w 1) || (A w 0 && A w 1 && not (P w 1) && P w 2))

-- "Trail at t, met while high: A(t)=0; or N(t-1)=0, N(t)=1 and one of: A(t+1)=0; N(t+1)=1 and A(t+2)=0; N(t+1)=N(t+2)=1; N(t+1)=1 and P(t+2)=1."
-- This is what makes t a trail if video is high there.
unfoldable pub falls : List ℕ → Bool
unfolding A P N
falls w =
    not (A w 2)
    || (not (N w 1) && N w 2 && (not (A w 3) || (N w 3 && not (A w 4)) || (N w 3 && N w 4) || (N w 3 && P w 4)))

-- "Video goes high at a lead. High video goes low at a trail, unless that tick is a lead."
-- How far a run has come. 0: video is low after t. Else t-s+1, for the last lead s. `a` is the same of tick t-1.
-- So video is high at t if a is not 0, and a lead or a trail at t then ends a run of a ticks.
unfoldable pub age : ℕ → List ℕ → ℕ
unfolding lead falls
age a w = cond (lead w) 1 (cond (eqb a 0 || falls w) 0 (suc a))

-- a trail at one of the n ticks after the lead at t
unfoldable pub trail_within : ℕ → List ℕ → Bool
unfolding falls
trail_within zero w = false
trail_within (suc n) w = falls (drop 1 w) || trail_within n (drop 1 w)

-- neither lead nor trail at t+1 to t+n: the run that reaches t goes on to t+n
unfoldable pub goes_on : ℕ → List ℕ → Bool
unfolding lead falls
goes_on zero w = true
goes_on (suc n) w = not (lead (drop 1 w)) && not (falls (drop 1 w)) && goes_on n (drop 1 w)

-- the run that reaches t goes on to t+n, or a lead ends it before
unfoldable pub no_trail_lem : ℕ → List ℕ → Bool
unfolding lead falls
no_trail_lem zero w = true
no_trail_lem (suc n) w = lead (drop 1 w) || (not (falls (drop 1 w)) && no_trail_lem n (drop 1 w))

-- where an edge comes from
pub data Kind : Type 0 where
  no_edge actual pseudo extra : Kind

abbrev pub is_edge : Kind → Bool
is_edge no_edge = false
is_edge actual = true
is_edge pseudo = true
is_edge extra = true

module _ (set : Settings) where
  -- "If e-s > 5: a trail at e gives a pseudo edge at e-4 and extra edges at s+4j (j = 1, 2, ..) up to e-8; a lead at e gives extra edges at s+4j up to e-4."
  -- This is the edge at t that a run gives which reaches t with age a, t being no lead; so a = t-s+1.
  -- pseudo: the run ends by a trail at e = t+4, and e-s = a+3 is above the longest.
  -- extra: t = s+4j, j from 1 on, and the run ends by a trail at t+8 or later or by a lead at t+4 or later: then e-s is 8 or more.
  unfoldable pub in_run : ℕ → List ℕ → Kind
  unfolding lead falls goes_on no_trail_lem
  in_run a w =
      cond (eqb a 0) no_edge
      (cond (goes_on 3 w && not (lead (drop 4 w)) && falls (drop 4 w) && ltb set.longest (a + 3)) pseudo
      (cond (ltb 1 a && eqb (a % 4) 1 && goes_on 3 w && no_trail_lem 4 (drop 3 w)) extra
      no_edge))

  -- "An actual edge is a lead with no trail at the next tick."
  -- This is the edge at t, where a is the age at t.
  unfoldable pub kind : ℕ → List ℕ → Kind
  unfolding lead trail_within in_run
  kind a w = cond (lead w) (cond (trail_within (set.shortest - 1) w) no_edge actual) (in_run a w)

  -- tick by tick: a is the age at the tick before, and the list is the `w` of the tick
  unfoldable pub kinds_from : ℕ → List ℕ → List Kind
  unfolding kind age
  kinds_from a [] = []
  kinds_from a (x ∷ w) = let b = age a (x ∷ w) in kind b (x ∷ w) ∷ kinds_from b w

  -- the edges of a trace, one entry for each tick, and two past the end, which are `no_edge`
  unfoldable pub kinds : List ℕ → List Kind
  unfolding kinds_from
  kinds flags = kinds_from 0 (0 ∷ 0 ∷ flags)

-- an edge, if there is one, with its pulse
pub record Edge : Type 0 where
  pub kind : Kind
  pub pulse : Pulse

abbrev pub stands : Edge → Bool
stands e = is_edge e.kind

-- "M and value of an edge at t are those of tick t+1."
unfoldable pub edge_in : Trace → List Kind → ℕ → Edge
unfolding M
edge_in T ks t =
    record {
      kind = get_or ks t no_edge;
      pulse = record { tick = record { 0 = t }; main = M T.flags (t + 1); value = get_or T.values (t + 1) 0 };
    }

-- the edge at tick t of a trace
unfoldable pub edge_at : Settings → Trace → ℕ → Edge
unfolding edge_in kinds
edge_at set T = edge_in T (kinds set T.flags)

-- ---- the same by tick, for the laws

-- the `w` of tick t
abbrev pub since : List ℕ → ℕ → List ℕ
since flags t = drop t (0 ∷ 0 ∷ flags)

unfoldable pub age_at : List ℕ → ℕ → ℕ
unfolding age
age_at flags zero = age 0 (since flags zero)
age_at flags (suc t) = age (age_at flags t) (since flags (suc t))

unfoldable pub kind_at : Settings → List ℕ → ℕ → Kind
unfolding age_at kind
kind_at set flags t = kind set (age_at flags t) (since flags t)
