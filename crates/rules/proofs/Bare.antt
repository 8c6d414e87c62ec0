-- P, N and M count only where A is: without them on the ticks that lack A, a trace has the same edges, replies and totals.
-- Leads agree, and trails too, since high video has A before them; an edge inside a run is a matter of these; and the tick after an edge has A.
use Prim.Native.Nat.{ℕ, zero, suc, ◌+◌, ◌-◌, ◌/◌, ◌≤◌}
use mathlib.Core.Path.{◌≡◌, refl, sym, ap, ◌∙◌}
use mathlib.Core.Bool.{Bool, true, false, not, ◌&&◌, ◌||◌, cond}
use mathlib.Core.List.{List, [], ◌∷◌, map}
use lib.Dec.{eqb}
use lib.ListN.{length, get_or, drop, length-map, get_or-map}
use lib.Seq.{ext_get_or}
use Rattle.rules.specs.declared.Pulse.{Pulse}
use Rattle.std.proofs.Common.{Option, Some, None}
use Rattle.rules.specs.Settings.{Settings, Allowed}
use Rattle.rules.specs.Samples.{Trace, A, P, N, M, odd}
use Rattle.rules.specs.Edges.{Kind, no_edge, actual, lead, falls, age, trail_within, kinds, since, age_at, kind_at, Edge, stands, edge_at}
use Rattle.rules.specs.Sentences.{lead_at, high_after, trail_at, Plain, bare}
use Rattle.rules.specs.Machine.{Given, given, State, bracket_at, edge_step, retired, step, after, final}
use Rattle.rules.proofs.Truth.{impossible}
use Rattle.rules.proofs.Locality.{kinds-at, from-length}
use Rattle.rules.proofs.Runs.{since-suc, high-age, trail_falls, high-lead, Going, high-A, A-suc}
use Rattle.rules.proofs.EdgeSentences.{kind-inside, kind-low, kind-lead, is_lead, is_low, is_inside, standing, high_on}
use Rattle.rules.proofs.Apart.{edge-high}

-- ---- the flags of a bare byte

-- a bare byte has A if the byte has
bare-odd : (b : ℕ) → odd (bare b) ≡ odd b
bare-odd b = go (odd b) refl
  where
    go : (a : Bool) → odd b ≡ a → odd (cond a b 0) ≡ a
    go true q = q
    go false q = refl

-- a bare byte has the flag of weight m if the byte has it and A
bare-flag : (m : ℕ) → odd (0 / m) ≡ false → (b : ℕ) → odd (bare b / m) ≡ (odd b && odd (b / m))
bare-flag m z b = go (odd b)
  where
    go : (a : Bool) → odd (cond a b 0 / m) ≡ (a && odd (b / m))
    go true = refl
    go false = z

-- at each place of a window bare bytes have the A of the bytes
bare-A : (w : List ℕ) (k : ℕ) → A (map bare w) k ≡ A w k
unfolding A
bare-A w k = ap odd (get_or-map bare w k 0) ∙ bare-odd (get_or w k 0)

-- and P where the bytes have A and P
bare-P : (w : List ℕ) (k : ℕ) → P (map bare w) k ≡ (A w k && P w k)
unfolding A P
bare-P w k = ap (λ (b : ℕ). odd (b / 2)) (get_or-map bare w k 0) ∙ bare-flag 2 refl (get_or w k 0)

-- and N where the bytes have A and N
bare-N : (w : List ℕ) (k : ℕ) → N (map bare w) k ≡ (A w k && N w k)
unfolding A N
bare-N w k = ap (λ (b : ℕ). odd (b / 4)) (get_or-map bare w k 0) ∙ bare-flag 4 refl (get_or w k 0)

-- M of a tick that has A stays
bare-M : (w : List ℕ) (k : ℕ) → A w k ≡ true → M (map bare w) k ≡ M w k
unfolding A M
bare-M w k h =
    ap (λ (b : ℕ). odd (b / 8)) (get_or-map bare w k 0) ∙ bare-flag 8 refl (get_or w k 0)
    ∙ ap (λ (a : Bool). a && odd (get_or w k 0 / 8)) h

-- ---- leads and trails

-- the sentence of a lead asks for P only with A
lead-flags : (a₀ a₁ a₂ p₁ p₂ : Bool)
    → (a₂ && (not a₁ || (a₀ && a₁ && not (a₁ && p₁) && (a₂ && p₂)))) ≡ (a₂ && (not a₁ || (a₀ && a₁ && not p₁ && p₂)))
lead-flags a₀ false false p₁ p₂ = refl
lead-flags a₀ true false p₁ p₂ = refl
lead-flags a₀ false true p₁ p₂ = refl
lead-flags a₀ true true p₁ p₂ = refl

-- bare bytes have a lead where the bytes have
bare-lead : (w : List ℕ) → lead (map bare w) ≡ lead w
unfolding lead
bare-lead w = rw (bare-A w 0, bare-A w 1, bare-A w 2, bare-P w 1, bare-P w 2) (lead-flags (A w 0) (A w 1) (A w 2) (P w 1) (P w 2))

-- the sentence of a trail asks for N and P only with A, if the tick before has A
falls-flags : (a₁ a₂ a₃ a₄ n₁ n₂ n₃ n₄ p₄ : Bool) → a₁ ≡ true
    → (not a₂ || (not (a₁ && n₁) && (a₂ && n₂) && (not a₃ || ((a₃ && n₃) && not a₄) || ((a₃ && n₃) && (a₄ && n₄)) || ((a₃ && n₃) && (a₄ && p₄)))))
    ≡ (not a₂ || (not n₁ && n₂ && (not a₃ || (n₃ && not a₄) || (n₃ && n₄) || (n₃ && p₄))))
falls-flags false a₂ a₃ a₄ n₁ n₂ n₃ n₄ p₄ e = absurd (impossible (sym e))
falls-flags true false a₃ a₄ n₁ n₂ n₃ n₄ p₄ e = refl
falls-flags true true false a₄ n₁ n₂ n₃ n₄ p₄ e = refl
falls-flags true true true true n₁ n₂ n₃ n₄ p₄ e = refl
falls-flags true true true false n₁ n₂ true n₄ p₄ e = refl
falls-flags true true true false n₁ n₂ false n₄ p₄ e = refl

-- bare bytes let high video fall where the bytes do
bare-falls : (w : List ℕ) → A w 1 ≡ true → falls (map bare w) ≡ falls w
unfolding falls
bare-falls w h =
    rw (bare-A w 2, bare-A w 3, bare-A w 4, bare-N w 1, bare-N w 2, bare-N w 3, bare-N w 4, bare-P w 4)
    (falls-flags (A w 1) (A w 2) (A w 3) (A w 4) (N w 1) (N w 2) (N w 3) (N w 4) (P w 4) h)

-- ---- tick by tick

-- the bytes from a tick on, made bare
map-drop : (t : ℕ) (v : List ℕ) → drop t (map bare v) ≡ map bare (drop t v)
map-drop zero v = refl
map-drop (suc t) [] = refl
map-drop (suc t) (x ∷ v) = map-drop t v

-- the window of a tick of bare bytes
bare-since : (F : List ℕ) (t : ℕ) → since (map bare F) t ≡ map bare (since F t)
bare-since F t = map-drop t (0 ∷ 0 ∷ F)

-- the leads are the same
bare-lead_at : (F : List ℕ) (t : ℕ) → lead_at (map bare F) t ≡ lead_at F t
unfolding lead_at
bare-lead_at F t = rw (bare-since F t) (bare-lead (since F t))

-- while video is high the tick before has A, so that it falls at the same tick
bare-falls_at : (F : List ℕ) (t : ℕ) → high_after F t ≡ true → falls (since (map bare F) (suc t)) ≡ falls (since F (suc t))
bare-falls_at F t h = rw (bare-since F (suc t)) (bare-falls (since F (suc t)) (A-suc F t ∙ high-A F t h))

-- the age asks for a trail only if it was not 0
same-age : (l z f g : Bool) (a : ℕ) → (z ≡ false → f ≡ g) → cond l 1 (cond (z || f) 0 (suc a)) ≡ cond l 1 (cond (z || g) 0 (suc a))
same-age l true f g a h = refl
same-age l false f g a h = ap (λ (x : Bool). cond l 1 (cond x 0 (suc a))) (h refl)

-- a run has come as far
bare-age_at : (F : List ℕ) (t : ℕ) → age_at (map bare F) t ≡ age_at F t
unfolding age_at age lead_at
bare-age_at F zero = ap (λ (l : Bool). cond l 1 0) (bare-lead_at F zero)
bare-age_at F (suc t) =
    rw (bare-age_at F t, bare-lead_at F (suc t))
    (same-age (lead (since F (suc t))) (eqb (age_at F t) 0) (falls (since (map bare F) (suc t))) (falls (since F (suc t))) (age_at F t)
    (λ z. bare-falls_at F t (high-age F t ∙ ap not z)))

-- video is high at the same ticks
bare-high_after : (F : List ℕ) (t : ℕ) → high_after (map bare F) t ≡ high_after F t
bare-high_after F t = high-age (map bare F) t ∙ ap (λ (a : ℕ). not (eqb a 0)) (bare-age_at F t) ∙ sym (high-age F t)

-- the trails are the same
bare-trail_at : (F : List ℕ) (t : ℕ) → trail_at (map bare F) t ≡ trail_at F t
unfolding trail_at
bare-trail_at F zero = refl
bare-trail_at F (suc t) = rw (bare-high_after F t) (go (high_after F t) refl)
  where
    go : (b : Bool) → high_after F t ≡ b → (b && falls (since (map bare F) (suc t))) ≡ (b && falls (since F (suc t)))
    go true q = bare-falls_at F t q
    go false q = refl

-- the look-ahead for a trail goes on only while video is high
bare-trail_within : (F : List ℕ) (n t : ℕ) → high_after F t ≡ true → trail_within n (since (map bare F) t) ≡ trail_within n (since F t)
unfolding trail_within
bare-trail_within F zero t h = refl
bare-trail_within F (suc n) t h =
    rw (since-suc (map bare F) t, since-suc F t, bare-falls_at F t h) (go (falls (since F (suc t))) refl (bare-trail_within F n (suc t)))
  where
    go : {x y : Bool} (b : Bool) → falls (since F (suc t)) ≡ b → (high_after F (suc t) ≡ true → x ≡ y) → (b || x) ≡ (b || y)
    go true q ih = refl
    go false q ih = ih (high_on F t h (trail_falls F t h ∙ q))

-- ---- edges

-- a tick that is neither a lead nor a trail stays so
bare_plain : (F : List ℕ) (t : ℕ) → Plain F t → Plain (map bare F) t
bare_plain F t p = record { lead = bare-lead_at F t ∙ p.lead; trail = bare-trail_at F t ∙ p.trail }

-- the run that reaches t ends at the same tick
bare_going : (F : List ℕ) (t e : ℕ) → Going F t e → Going (map bare F) t e
bare_going F t e g =
    record {
      high = bare-high_after F t ∙ g.high;
      next =
          record {
            later = g.next.later;
            between = λ i l m. bare_plain F i (g.next.between i l m);
            ends = rw (bare-lead_at F e, bare-trail_at F e) g.next.ends;
          };
    }

-- the edge at a tick is the same: at a lead by the look-ahead, inside a run by its age and its end
bare-kind_at : (set : Settings) (F : List ℕ) (t : ℕ) → kind_at set (map bare F) t ≡ kind_at set F t
bare-kind_at set F t =
    elim (standing F t) as (λ v. kind_at set (map bare F) t ≡ kind_at set F t) [
      | is_lead p ↦
          kind-lead set (map bare F) t (bare-lead_at F t ∙ p)
          ∙ ap (λ (b : Bool). cond b no_edge actual) (bare-trail_within F (set.shortest - 1) t (high-lead F t p)) ∙ sym (kind-lead set F t p)
      | is_low p ↦ kind-low set (map bare F) t (bare-high_after F t ∙ p) ∙ sym (kind-low set F t p)
      | is_inside p e g ↦
          kind-inside set (map bare F) t e (bare-lead_at F t ∙ p) (bare_going F t e g)
          ∙ rw (bare-age_at F t, bare-lead_at F e) (sym (kind-inside set F t e p g))
    ]

-- the list of edges is as long
bare-length : (set : Settings) (F : List ℕ) → length (kinds set (map bare F)) ≡ length (kinds set F)
unfolding kinds
bare-length set F =
    from-length set 0 (0 ∷ 0 ∷ map bare F) ∙ ap (λ (n : ℕ). suc (suc n)) (length-map F bare) ∙ sym (from-length set 0 (0 ∷ 0 ∷ F))

-- P, N and M on a tick without A change no edge
pub bare-kinds : (set : Settings) → Allowed set → (F : List ℕ) → kinds set (map bare F) ≡ kinds set F
bare-kinds set ok F =
    ext_get_or no_edge (kinds set (map bare F)) (kinds set F) (bare-length set F) (λ i l. kinds-at set (map bare F) i ∙ bare-kind_at set F i ∙ sym (kinds-at set F i))

-- ---- the machine

-- the same edge stands, or none
record Alike (e g : Edge) : Type 0 where
  kind : e.kind ≡ g.kind
  pulse : stands g ≡ true → e.pulse ≡ g.pulse

-- what is done with an edge's pulse only where the edge stands
same-done : {X : Type 0} (f : Pulse → X) {x y : X} → x ≡ y → (e g : Edge) → Alike e g → cond (stands e) (f e.pulse) x ≡ cond (stands g) (f g.pulse) y
same-done f {x} {y} q e g a = rw a.kind (go (stands g) a.pulse)
  where
    go : (b : Bool) → (b ≡ true → e.pulse ≡ g.pulse) → cond b (f e.pulse) x ≡ cond b (f g.pulse) y
    go true h = ap f (h refl)
    go false h = q

-- the machine asks for M and value only of edges that stand
module _ (plus : ℕ → ℕ → ℕ) (set : Settings) (E E' : ℕ → Edge) (alike : (t : ℕ) → Alike (E t) (E' t)) where
  abbrev G : Given
  G = record { settings = set; edge = E }

  abbrev G' : Given
  G' = record { settings = set; edge = E' }

  -- the same bracket stands at u
  same_bracket : (u : ℕ) → bracket_at G u ≡ bracket_at G' u
  unfolding bracket_at
  same_bracket u =
      let last = same-done Some {x = None} {y = None} refl (E (u + 169)) (E' (u + 169)) (alike (u + 169)) in
      let next = same-done Some last (E (u + 167)) (E' (u + 167)) (alike (u + 167)) in
      same-done Some (ap (cond (eqb set.tolerance 0) None) next) (E (u + 168)) (E' (u + 168)) (alike (u + 168))

  -- a tick does the same to the state
  same_step : (u : ℕ) (s : State) → step plus G u s ≡ step plus G' u s
  unfolding step
  same_step u s =
      let t = retired u s in
      same-done (λ (p : Pulse). edge_step plus set p (bracket_at G u) t) {x = t} {y = t} refl (E u) (E' u) (alike u)
      ∙ ap (λ (b : Option Pulse). cond (stands (E' u)) (edge_step plus set (E' u).pulse b t) t) (same_bracket u)

  -- the state after n ticks is the same
  same_after : (n : ℕ) → after plus G n ≡ after plus G' n
  unfolding after
  same_after zero = refl
  same_after (suc n) = ap (step plus G n) (same_after n) ∙ same_step n (after plus G' n)

-- a trace without P, N and M on the ticks that lack A
abbrev pub bared : Trace → Trace
bared T = record { flags = map bare T.flags; values = T.values }

module _ (set : Settings) (ok : Allowed set) (two : 2 ≤ set.shortest) where
  -- the same edges stand, and each with the same M, since the tick where it is read has A
  bare_alike : (T : Trace) (t : ℕ) → Alike (edge_at set (bared T) t) (edge_at set T t)
  unfolding edge_at
  bare_alike T t =
      record {
        kind = ap (λ (ks : List Kind). get_or ks t no_edge) (bare-kinds set ok T.flags);
        pulse =
            λ h i. record {
              tick = record { 0 = t };
              main = bare-M T.flags (t + 1) (edge-high set ok two T t h) i;
              value = get_or T.values (t + 1) 0;
            };
      }

  -- P, N and M on a tick without A change no reply and no total
  pub bare-final : (T : Trace) → final set (bared T) ≡ final set T
  unfolding final
  bare-final T =
      ap (after ◌+◌ (given set (bared T))) (length-map T.flags bare)
      ∙ same_after ◌+◌ set (edge_at set (bared T)) (edge_at set T) (bare_alike T) (length T.flags)
