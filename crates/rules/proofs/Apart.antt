-- Edges are at least two ticks apart, and none stands past the end of a trace, nor at its last tick where a run of one tick gives no edge.
-- An edge is at a lead, or inside a run that goes on for three ticks; the next tick is then inside that run, with an age that gives none.
use Prim.Native.Nat.{ℕ, suc, ◌+◌, ◌-◌, ◌≤◌, ◌<◌}
use native.Mathlib.Omega.{arith}
use mathlib.Core.Path.{◌≡◌, refl, sym, ap, ◌∙◌}
use mathlib.Core.Logic.{◌⊎◌, inl, inr}
use mathlib.Core.Bool.{Bool, true, false, cond}
use mathlib.Core.List.{List}
use lib.Dec.{leb, ltb}
use lib.ListN.{length}
use borrow.Author.Tests.{leb-true, leb-false, ltb-true, ltb-false, eqb-false}
use Rattle.rules.specs.Settings.{Settings, Allowed}
use Rattle.rules.specs.Samples.{Trace, A, odd}
use Rattle.rules.specs.Edges.{Kind, no_edge, actual, pseudo, extra, is_edge, trail_within, since, age_at, kind_at, stands, edge_at}
use Rattle.rules.specs.Sentences.{lead_at, high_after, Plain, Covered}
use Rattle.rules.proofs.Truth.{impossible, or-second}
use Rattle.rules.proofs.Locality.{kinds-at}
use Rattle.rules.proofs.Runs.{not_low, age-lead, age_plain, high-lead, Going, going_suc, low-past, at_lead, low, at_plain, aged, high-A, place-two, no-two-leads}
use Rattle.rules.proofs.EdgeSentences.{is_pseudo, is_extra, kind-inside, kind-low, kind-lead, is_lead, is_low, is_inside, standing, high_on, actual-is, PseudoEnd, pseudo_end, ExtraEnd, extra_end}

-- ---- where an edge stands

-- an edge that two tests give in turn: one of them passed
by_test : (b c : Bool) → is_edge (cond b pseudo (cond c extra no_edge)) ≡ true → (b ≡ true) ⊎ (c ≡ true)
by_test true c h = inl refl
by_test false true h = inr refl
by_test false false h = absurd (impossible (sym h))

-- an edge inside a run is a pseudo or an extra edge
inside-edge : (set : Settings) (F : List ℕ) (t e : ℕ) → lead_at F t ≡ false → Going F t e → is_edge (kind_at set F t) ≡ true
    → PseudoEnd set (age_at F t) t e (lead_at F e) ⊎ ExtraEnd (age_at F t) t e (lead_at F e)
inside-edge set F t e p g h =
    elim (by_test (is_pseudo set (age_at F t) t e (lead_at F e)) (is_extra (age_at F t) t e (lead_at F e)) (ap is_edge (sym (kind-inside set F t e p g)) ∙ h)) as (λ v. PseudoEnd set (age_at F t) t e (lead_at F e) ⊎ ExtraEnd (age_at F t) t e (lead_at F e)) [
      | inl q ↦ inl (pseudo_end set (age_at F t) t e (lead_at F e) q)
      | inr q ↦ inr (extra_end (age_at F t) t e (lead_at F e) q)
    ]

-- the run of an edge inside it goes on for three ticks
runs_on : (set : Settings) (a t e : ℕ) (l : Bool) → PseudoEnd set a t e l ⊎ ExtraEnd a t e l → t + 3 < e
runs_on set a t e l (inl x) = omega (arith, x.at)
runs_on set a t e l (inr x) = x.before

-- no edge stands where video is low
low-edge : (set : Settings) (F : List ℕ) (t : ℕ) → high_after F t ≡ false → is_edge (kind_at set F t) ≡ true → ⊥
low-edge set F t p h = impossible (sym h ∙ ap is_edge (kind-low set F t p))

-- video is high at an edge
edge_video : (set : Settings) (F : List ℕ) (t : ℕ) → is_edge (kind_at set F t) ≡ true → high_after F t ≡ true
edge_video set F t h =
    elim (standing F t) as (λ v. high_after F t ≡ true) [
      | is_lead p ↦ high-lead F t p
      | is_low p ↦ absurd (low-edge set F t p h)
      | is_inside p e g ↦ g.high
    ]

-- an edge at a lead is an actual edge
lead_actual : (b : Bool) → is_edge (cond b no_edge actual) ≡ true → cond b no_edge actual ≡ actual
lead_actual true h = absurd (impossible (sym h))
lead_actual false h = refl

module _ (set : Settings) (ok : Allowed set) where
  -- ---- two edges

  -- the second tick of a run has no edge: a pseudo edge there would end a run of five ticks, and an extra edge is four ticks after the lead or later
  second-tick : (t e : ℕ) (l : Bool) (a : ℕ) → a ≡ 2 → PseudoEnd set a t e l ⊎ ExtraEnd a t e l → ⊥
  second-tick t e l a q (inl x) = omega (arith, x.long, ok.longest-from)
  second-tick t e l a q (inr x) = omega (arith, x.fourth)

  -- two neighbouring ticks of a run have not both an edge
  neighbours : (a t e : ℕ) (l : Bool) → PseudoEnd set a t e l ⊎ ExtraEnd a t e l → PseudoEnd set (suc a) (suc t) e l ⊎ ExtraEnd (suc a) (suc t) e l → ⊥
  neighbours a t e l (inl x) (inl y) = omega (arith, x.at, y.at)
  neighbours a t e l (inl x) (inr y) = omega (arith, x.at, y.before)
  neighbours a t e l (inr x) (inl y) = omega (arith, y.at, ltb-true (t + 7) e (or-second l (ltb (t + 7) e) y.trail x.up_to))
  neighbours a t e l (inr x) (inr y) = omega (arith, x.fourth, y.fourth)

  -- no edge at the tick after a lead
  after-lead : (F : List ℕ) (t : ℕ) → lead_at F t ≡ true → is_edge (kind_at set F (suc t)) ≡ true → ⊥
  after-lead F t l h =
      elim (standing F (suc t)) as (λ v. ⊥) [
        | is_lead p ↦ no-two-leads F t l p
        | is_low p ↦ low-edge set F (suc t) p h
        | is_inside p e g ↦ second-tick (suc t) e (lead_at F e) (age_at F (suc t)) (second p g) (inside-edge set F (suc t) e p g h)
      ]
    where
      second : {e : ℕ} → lead_at F (suc t) ≡ false → Going F (suc t) e → age_at F (suc t) ≡ 2
      second p g =
          elim (aged F t) as (λ v. age_at F (suc t) ≡ 2) [
            | at_lead q b ↦ absurd (impossible (sym q ∙ p))
            | low b ↦ absurd (eqb-false (age_at F (suc t)) 0 (not_low F (suc t) g.high) b)
            | at_plain q c b ↦ b ∙ ap suc (age-lead F t l)
          ]

  -- edges are at least two ticks apart
  pub two-apart : (F : List ℕ) (t : ℕ) → is_edge (kind_at set F t) ≡ true → is_edge (kind_at set F (suc t)) ≡ true → ⊥
  two-apart F t h k =
      elim (standing F t) as (λ v. ⊥) [
        | is_lead p ↦ after-lead F t p k
        | is_low p ↦ low-edge set F t p h
        | is_inside p e g ↦
            let x = inside-edge set F t e p g h in
            let m : suc t < e = omega (arith, runs_on set (age_at F t) t e (lead_at F e) x) in
            let q : Plain F (suc t) = g.next.between (suc t) (omega arith) m in
            let y = inside-edge set F (suc t) e q.lead (going_suc F t e m g) k in
            neighbours (age_at F t) t e (lead_at F e) x (rw (age_plain F t g.high q) at y)
      ]

  -- ---- the last edge

  -- an edge stands at a tick of the trace
  pub edge-before-end : (F : List ℕ) (t : ℕ) → is_edge (kind_at set F t) ≡ true → t < length F
  edge-before-end F t h = go (leb (length F) t) refl
    where
      go : (b : Bool) → leb (length F) t ≡ b → t < length F
      go true q = absurd (low-past F t (leb-true (length F) t q) (edge_video set F t h))
      go false q = leb-false (length F) t q

  -- past the end there is no edge
  pub no-edge-past : (F : List ℕ) (t : ℕ) → length F ≤ t → kind_at set F t ≡ no_edge
  no-edge-past F t l = go (kind_at set F t) refl
    where
      go : (k : Kind) → kind_at set F t ≡ k → k ≡ no_edge
      go no_edge q = refl
      go actual q = absurd (omega (arith, edge-before-end F t (ap is_edge q)))
      go pseudo q = absurd (omega (arith, edge-before-end F t (ap is_edge q)))
      go extra q = absurd (omega (arith, edge-before-end F t (ap is_edge q)))

  module _ (two : 2 ≤ set.shortest) where
    -- video is high at the tick after an edge too
    edge-goes_on : (F : List ℕ) (t : ℕ) → is_edge (kind_at set F t) ≡ true → high_after F (suc t) ≡ true
    edge-goes_on F t h =
        elim (standing F t) as (λ v. high_after F (suc t) ≡ true) [
          | is_lead p ↦
              let q = kind-lead set F t p in
              let x = actual-is set ok F t (q ∙ lead_actual (trail_within (set.shortest - 1) (since F t)) (ap is_edge (sym q) ∙ h)) in
              high_on F t (high-lead F t p) (x.trails (suc t) (omega arith) (omega arith))
          | is_low p ↦ absurd (low-edge set F t p h)
          | is_inside p e g ↦
              (going_suc F t e (omega (arith, runs_on set (age_at F t) t e (lead_at F e) (inside-edge set F t e p g h))) g).high
        ]

    -- the last edge stands two ticks before the end, or earlier
    pub edge-before-end-two : (F : List ℕ) (t : ℕ) → is_edge (kind_at set F t) ≡ true → t + 2 ≤ length F
    edge-before-end-two F t h = go (leb (length F) (suc t)) refl
      where
        go : (b : Bool) → leb (length F) (suc t) ≡ b → t + 2 ≤ length F
        go true q = absurd (low-past F (suc t) (leb-true (length F) (suc t) q) (edge-goes_on F t h))
        go false q = omega (arith, leb-false (length F) (suc t) q)

    -- the tick after an edge has A
    next_has_A : (F : List ℕ) (t : ℕ) → is_edge (kind_at set F t) ≡ true → A F (t + 1) ≡ true
    unfolding A
    next_has_A F t h =
        let s : t + 1 ≡ suc t = omega arith in
        rw s (ap odd (sym (place-two F (suc t))) ∙ high-A F (suc t) (edge-goes_on F t h))

  -- ---- the same of the edges of a trace

  -- where an edge of a trace stands, its flags give one
  kind-stands : (T : Trace) (t : ℕ) → stands (edge_at set T t) ≡ true → is_edge (kind_at set T.flags t) ≡ true
  unfolding edge_at
  kind-stands T t h = ap is_edge (sym (kinds-at set T.flags t)) ∙ h

  -- no two edges of a trace are at neighbouring ticks
  pub edges-apart : (T : Trace) (t : ℕ) → stands (edge_at set T t) ≡ true → stands (edge_at set T (suc t)) ≡ true → ⊥
  edges-apart T t h k = two-apart T.flags t (kind-stands T t h) (kind-stands T (suc t) k)

  -- an edge of a trace stands at one of its ticks
  pub edge-end : (T : Trace) (t : ℕ) → stands (edge_at set T t) ≡ true → t < length T.flags
  edge-end T t h = edge-before-end T.flags t (kind-stands T t h)

  -- the last edge of a trace stands two ticks before its end, or earlier
  pub edge-end-two : 2 ≤ set.shortest → (T : Trace) (t : ℕ) → stands (edge_at set T t) ≡ true → t + 2 ≤ length T.flags
  edge-end-two two T t h = edge-before-end-two two T.flags t (kind-stands T t h)

  -- the tick at which an edge's M and value are read has A
  pub edge-high : 2 ≤ set.shortest → (T : Trace) (t : ℕ) → stands (edge_at set T t) ≡ true → A T.flags (t + 1) ≡ true
  edge-high two T t h = next_has_A two T.flags t (kind-stands T t h)

  next-to : (T : Trace) (t u : ℕ) → t + 1 ≡ u → stands (edge_at set T t) ≡ true → stands (edge_at set T u) ≡ true → ⊥
  next-to T t u e h k =
      let z : u ≡ suc t = omega arith in
      edges-apart T t h (rw z at k)

  -- position 0 of a reply with F1 at the edge q covers no edge but that
  pub own_f1 : (T : Trace) (q u : ℕ) → stands (edge_at set T q) ≡ true → stands (edge_at set T u) ≡ true → Covered q 0 u → u ≡ q
  own_f1 T q u p r c = go (ltb u q) (ltb q u) refl refl
    where
      go : (a b : Bool) → ltb u q ≡ a → ltb q u ≡ b → u ≡ q
      go true b e f = absurd (next-to T u q (omega (arith, c, ltb-true u q e)) r p)
      go false true e f = absurd (next-to T q u (omega (arith, c, ltb-true q u f)) p r)
      go false false e f = omega (arith, ltb-false u q e, ltb-false q u f)
