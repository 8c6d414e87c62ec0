-- The edge that the rules give at a tick is the one that document 01's sentences give: actual, pseudo or extra, and no other.
-- `by_end` is the edge inside a run as a matter of its age, its tick, where the run ends, and whether by a lead.
use Prim.Native.Nat.{ℕ, zero, suc, ◌+◌, ◌-◌, ◌/◌, ◌%◌, ◌≤◌, ◌<◌}
use native.Mathlib.Omega.{arith}
use mathlib.Core.Path.{◌≡◌, refl, sym, ap, ◌∙◌}
use mathlib.Core.Logic.{◌⊎◌, inl, inr}
use mathlib.Core.Bool.{Bool, true, false, not, ◌&&◌, ◌||◌, cond, and-false, or-true}
use mathlib.Core.List.{List, [], ◌∷◌}
use lib.Dec.{leb, ltb, eqb}
use borrow.Author.Tests.{leb-true, leb-false, ltb-true, ltb-false, eqb-true, eqb-false, lt-ltb, eq-eqb, ne_eqb, not-true}
use Rattle.rules.specs.Settings.{Settings, Allowed}
use Rattle.rules.specs.Lists.{any}
use Rattle.rules.specs.Samples.{odd, P, N, bad}
use Rattle.rules.specs.Edges.{Kind, no_edge, actual, pseudo, extra, lead, falls, trail_within, no_trail_lem, in_run, kind, since, age_at, kind_at}
use Rattle.rules.specs.Sentences.{lead_at, high_after, trail_at, Plain, Next, Run, Actual, Pseudo, Extra, SaidEdges}
use Rattle.rules.proofs.Truth.{impossible, and_left, and_right, or_left, or_right, or-second, same_or}
use Rattle.rules.proofs.Runs.{since-add, since-suc, not_low, low-age, high-lead, age-lead, age_plain, trail_falls, Going, going_add, goes_on-is, no_trail-is, ended, reach, Reach, Sloped, no-lead-and-trail}

-- where a run of age a at t ends at e, by a lead if l
abbrev pub is_pseudo : Settings → ℕ → ℕ → ℕ → Bool → Bool
is_pseudo set a t e l = eqb e (t + 4) && not l && ltb set.longest (a + 3)

abbrev pub is_extra : ℕ → ℕ → ℕ → Bool → Bool
is_extra a t e l = ltb 1 a && eqb (a % 4) 1 && ltb (t + 3) e && (l || ltb (t + 7) e)

abbrev pub by_end : Settings → ℕ → ℕ → ℕ → Bool → Kind
by_end set a t e l = cond (is_pseudo set a t e l) pseudo (cond (is_extra a t e l) extra no_edge)

-- ---- inside a run

-- the tick before e: e is a lead, or video falls there
end_view : (F : List ℕ) (t : ℕ) → high_after F t ≡ true → (lead_at F (suc t) || trail_at F (suc t)) ≡ true → (not (lead_at F (suc t)) && falls (since F (suc t))) ≡ not (lead_at F (suc t))
end_view F t h n = go (lead_at F (suc t)) (trail_at F (suc t)) (falls (since F (suc t))) (trail_falls F t h) n
  where
    go : (l r f : Bool) → r ≡ f → (l || r) ≡ true → (not l && f) ≡ not l
    go true r f e n = refl
    go false r f e n = sym e ∙ n

-- a trail at t+4 and no lead there, where the run goes on to t+3
falls-at-four : (F : List ℕ) (t e : ℕ) → Going F t e → (ltb (t + 3) e && not (lead_at F (t + 4)) && falls (since F (t + 4))) ≡ (eqb e (t + 4) && not (lead_at F e))
falls-at-four F t e g = go (ltb (t + 3) e) (eqb e (t + 4)) refl refl
  where
    s : suc (t + 3) ≡ t + 4
    s = omega arith

    l : Bool
    l = lead_at F (t + 4)

    f : Bool
    f = falls (since F (t + 4))

    go : (b c : Bool) → ltb (t + 3) e ≡ b → eqb e (t + 4) ≡ c → (b && not l && f) ≡ (c && not (lead_at F e))
    go false false p q = refl
    go false true p q = absurd (omega (arith, ltb-false (t + 3) e p, eqb-true e (t + 4) q))
    go true true p q =
        let z : e ≡ suc (t + 3) = omega (arith, eqb-true e (t + 4) q) in
        let h = going_add F 3 t e (ltb-true (t + 3) e p) g in
        let v = end_view F (t + 3) h.high (rw z at h.next.ends) in
        let v' : (not (lead_at F (t + 4)) && falls (since F (t + 4))) ≡ not (lead_at F (t + 4)) = rw s at v in
        v' ∙ ap (λ (n : ℕ). not (lead_at F n)) (sym (eqb-true e (t + 4) q))
    go true false p q =
        let z = eqb-false e (t + 4) q in
        let h = going_add F 3 t e (ltb-true (t + 3) e p) g in
        let pl : Plain F (t + 4) = h.next.between (t + 4) (omega arith) (omega (arith, ltb-true (t + 3) e p)) in
        let tr : falls (since F (t + 4)) ≡ false = rw s at (sym (trail_falls F (t + 3) h.high) ∙ (rw (← s) at pl.trail)) in
        rw (pl.lead, tr)

no-trail-from : (F : List ℕ) (t e : ℕ) → Going F t e → (ltb (t + 3) e && no_trail_lem 4 (since F (t + 3))) ≡ (ltb (t + 3) e && (lead_at F e || ltb (t + 7) e))
no-trail-from F t e g = go (ltb (t + 3) e) refl
  where
    s : t + 3 + 4 ≡ t + 7
    s = omega arith

    go : (b : Bool) → ltb (t + 3) e ≡ b → (b && no_trail_lem 4 (since F (t + 3))) ≡ (b && (lead_at F e || ltb (t + 7) e))
    go false p = refl
    go true p = no_trail-is F 4 (t + 3) e (going_add F 3 t e (ltb-true (t + 3) e p) g) ∙ ap (λ (n : ℕ). lead_at F e || ltb n e) s

-- the two tests of the rules, with the look-ahead replaced
regroup : (a b c d x y : Bool) → (a && b && c) ≡ (x && y) → (a && b && c && d) ≡ (x && y && d)
regroup a b c d x y e = ap (λ (z : Bool). z && d) e

regroup' : (p q a n m : Bool) → (a && n) ≡ (a && m) → (p && q && a && n) ≡ (p && q && a && m)
regroup' false q a n m e = refl
regroup' true false a n m e = refl
regroup' true true a n m e = e

-- the edge at a tick inside a run is that of `by_end`
pub kind-inside : (set : Settings) (F : List ℕ) (t e : ℕ) → lead_at F t ≡ false → Going F t e → kind_at set F t ≡ by_end set (age_at F t) t e (lead_at F e)
unfolding kind_at kind in_run lead_at
kind-inside set F t e l g =
    let a = age_at F t in
    rw (l, not_low F t g.high, since-add F 4 t, since-add F 3 t, goes_on-is F 3 t e g)
    (ap (λ (b : Bool). cond b pseudo (cond (ltb 1 a && eqb (a % 4) 1 && ltb (t + 3) e && no_trail_lem 4 (since F (t + 3))) extra no_edge))
    (regroup (ltb (t + 3) e) (not (lead (since F (t + 4)))) (falls (since F (t + 4))) (ltb set.longest (a + 3)) (eqb e (t + 4)) (not (lead (since F e))) (falls-at-four F t e g))
    ∙ ap (λ (b : Bool). cond (is_pseudo set a t e (lead (since F e))) pseudo (cond b extra no_edge))
    (regroup' (ltb 1 a) (eqb (a % 4) 1) (ltb (t + 3) e) (no_trail_lem 4 (since F (t + 3))) (lead (since F e) || ltb (t + 7) e) (no-trail-from F t e g)))

-- a lead makes video high
lead_low : (F : List ℕ) (t : ℕ) → high_after F t ≡ false → lead_at F t ≡ false
lead_low F t h = go (lead_at F t) refl
  where
    go : (l : Bool) → lead_at F t ≡ l → l ≡ false
    go true p = absurd (impossible (sym (high-lead F t p) ∙ h))
    go false p = refl

-- no edge stands where video is low
pub kind-low : (set : Settings) (F : List ℕ) (t : ℕ) → high_after F t ≡ false → kind_at set F t ≡ no_edge
unfolding kind_at kind in_run lead_at
kind-low set F t h = rw (lead_low F t h, low-age F t h)

-- at a lead an edge stands, if no trail follows too soon
pub kind-lead : (set : Settings) (F : List ℕ) (t : ℕ) → lead_at F t ≡ true → kind_at set F t ≡ cond (trail_within (set.shortest - 1) (since F t)) no_edge actual
unfolding kind_at kind lead_at
kind-lead set F t h = rw h

-- where a tick stands: at a lead, in low video, or inside a run that ends at e
pub data Standing (F : List ℕ) (t : ℕ) : Type 0 where
  is_lead : lead_at F t ≡ true → Standing F t
  is_low : high_after F t ≡ false → Standing F t
  is_inside : lead_at F t ≡ false → (e : ℕ) → Going F t e → Standing F t

pub standing : (F : List ℕ) (t : ℕ) → Standing F t
standing F t = go (lead_at F t) (high_after F t) refl refl
  where
    go : (l h : Bool) → lead_at F t ≡ l → high_after F t ≡ h → Standing F t
    go true h p q = is_lead p
    go false false p q = is_low q
    go false true p q = let n = ended F t q in is_inside p n.e (record { high = q; next = n.next })

-- ---- actual edges

-- high video with no trail stays high
pub high_on : (F : List ℕ) (t : ℕ) → high_after F t ≡ true → trail_at F (suc t) ≡ false → high_after F (suc t) ≡ true
unfolding high_after
high_on F t h n = rw (h, sym (trail_falls F t h) ∙ n, or-true (lead_at F (suc t)))

-- the look-ahead for a trail, as trails
clear-ticks : (F : List ℕ) (n t : ℕ) → high_after F t ≡ true → trail_within n (since F t) ≡ false → (i : ℕ) → t < i → i ≤ t + n → trail_at F i ≡ false
unfolding trail_within
clear-ticks F zero t h c i l m = absurd (omega arith)
clear-ticks F (suc n) t h c i l m =
    let c' : (falls (since F (suc t)) || trail_within n (since F (suc t))) ≡ false = rw (since-suc F t) at c in
    let r : trail_at F (suc t) ≡ false = trail_falls F t h ∙ or_left (falls (since F (suc t))) (trail_within n (since F (suc t))) c' in
    elim (same_or i (suc t)) as (λ v. trail_at F i ≡ false) [
      | inl e ↦ ap (trail_at F) e ∙ r
      | inr d ↦ clear-ticks F n (suc t) (high_on F t h r) (or_right (falls (since F (suc t))) (trail_within n (since F (suc t))) c') i (omega arith) (omega arith)
    ]

ticks-clear : (F : List ℕ) (n t : ℕ) → high_after F t ≡ true → ((i : ℕ) → t < i → i ≤ t + n → trail_at F i ≡ false) → trail_within n (since F t) ≡ false
unfolding trail_within
ticks-clear F zero t h c = refl
ticks-clear F (suc n) t h c =
    let r : trail_at F (suc t) ≡ false = c (suc t) (omega arith) (omega arith) in
    rw (since-suc F t, sym (trail_falls F t h) ∙ r) (ticks-clear F n (suc t) (high_on F t h r) (λ i l m. c i (omega arith) (omega arith)))

clash : (k : Kind) → k ≡ no_edge → k ≡ actual → ⊥
clash k p q = let z : ◌≡◌ {A = ℕ} 0 1 = cc in omega arith

by_end_actual : (b c : Bool) → cond b pseudo (cond c extra no_edge) ≡ actual → ⊥
by_end_actual true c q = let z : ◌≡◌ {A = ℕ} 0 1 = cc in omega arith
by_end_actual false true q = let z : ◌≡◌ {A = ℕ} 0 1 = cc in omega arith
by_end_actual false false q = let z : ◌≡◌ {A = ℕ} 0 1 = cc in omega arith

clear-lead : (b : Bool) → cond b no_edge actual ≡ actual → b ≡ false
clear-lead true q = absurd (clash no_edge refl q)
clear-lead false q = refl

module _ (set : Settings) (ok : Allowed set) (F : List ℕ) (t : ℕ) where
  -- an actual edge is a lead with no trail fewer than `shortest` ticks after it
  pub actual-is : kind_at set F t ≡ actual → Actual set F t
  actual-is q =
      elim (standing F t) as (λ v. Actual set F t) [
        | is_lead p ↦
            record {
              lead = p;
              trails =
                  λ i l m. clear-ticks F (set.shortest - 1) t (high-lead F t p) (clear-lead (trail_within (set.shortest - 1) (since F t)) (sym (kind-lead set F t p) ∙ q)) i l (omega arith);
            }
        | is_low h ↦ absurd (clash (kind_at set F t) (kind-low set F t h) q)
        | is_inside p e g ↦
            absurd (by_end_actual (is_pseudo set (age_at F t) t e (lead_at F e)) (is_extra (age_at F t) t e (lead_at F e)) (sym (kind-inside set F t e p g) ∙ q))
      ]

  pub is-actual : Actual set F t → kind_at set F t ≡ actual
  is-actual a =
      kind-lead set F t a.lead
      ∙ ap (λ (b : Bool). cond b no_edge actual) (ticks-clear F (set.shortest - 1) t (high-lead F t a.lead) (λ i l m. a.trails i l (omega (arith, ok))))

-- ---- the run in which a tick stands

-- s and e of the run, where the age is suc a
record Inside (F : List ℕ) (t e : ℕ) : Type 0 where
  a : ℕ
  aged : age_at F t ≡ suc a
  inside : a ≤ t
  run : Run F (t - a) e

one_less : (n : ℕ) → (n ≡ 0 → ⊥) → n ≡ suc (n - 1)
one_less n h = omega arith

inside-run : (F : List ℕ) (t e : ℕ) → Going F t e → Inside F t e
inside-run F t e g =
    let a = age_at F t - 1 in
    let q = one_less (age_at F t) (eqb-false (age_at F t) 0 (not_low F t g.high)) in
    let r = reach F t a q in
    record {
      a = a;
      aged = q;
      inside = r.inside;
      run = record { lead = r.lead; next = record { later = omega (arith, g.next.later); between = λ i l m. go a r i l m (leb i t) refl; ends = g.next.ends } };
    }
  where
    go : (a : ℕ) → Reach F t a → (i : ℕ) → t - a < i → i < e → (b : Bool) → leb i t ≡ b → Plain F i
    go a r i l m true q = r.plain i (omega (arith, r.inside)) (leb-true i t q)
    go a r i l m false q = g.next.between i (leb-false i t q) m

-- the other way: inside the run from s to e, k ticks on, the age is suc k
age-add : (F : List ℕ) (k s e : ℕ) → lead_at F s ≡ true → Next F s e → s + k < e → age_at F (s + k) ≡ suc k
age-add F zero s e l n h = let z : s + 0 ≡ s = omega arith in ap (age_at F) z ∙ age-lead F s l
age-add F (suc k) s e l n h =
    let z : s + suc k ≡ suc (s + k) = omega arith in
    let g = going_add F k s e (omega arith) (record { high = high-lead F s l; next = n }) in
    ap (age_at F) z ∙ age_plain F (s + k) g.high (n.between (suc (s + k)) (omega arith) (omega arith)) ∙ ap suc (age-add F k s e l n (omega arith))

-- a tick of the run after its lead
record TickOf (F : List ℕ) (s t e : ℕ) : Type 0 where
  lead : lead_at F t ≡ false
  going : Going F t e
  aged : age_at F t ≡ suc (t - s)

tick-of : (F : List ℕ) (s t e : ℕ) → Run F s e → s < t → t < e → TickOf F s t e
tick-of F s t e r l m =
    let z : s + (t - s) ≡ t = omega arith in
    let m' : s + (t - s) < e = omega arith in
    record {
      lead = (r.next.between t l m).lead;
      going = rw z at (going_add F (t - s) s e m' (record { high = high-lead F s r.lead; next = r.next }));
      aged = ap (age_at F) (sym z) ∙ age-add F (t - s) s e r.lead r.next m';
    }

-- ---- pseudo and extra edges

pick_pseudo : (b c : Bool) → cond b pseudo (cond c extra no_edge) ≡ pseudo → b ≡ true
pick_pseudo true c q = refl
pick_pseudo false true q = cc
pick_pseudo false false q = cc

pick_extra : (b c : Bool) → cond b pseudo (cond c extra no_edge) ≡ extra → c ≡ true
pick_extra true c q = cc
pick_extra false true q = refl
pick_extra false false q = cc

lead-kind : (b : Bool) (k : Kind) → cond b no_edge actual ≡ k → (k ≡ pseudo → ⊥) × (k ≡ extra → ⊥)
lead-kind true k q = (λ e. let z : ◌≡◌ {A = ℕ} 0 1 = cc in omega arith, λ e. let z : ◌≡◌ {A = ℕ} 0 1 = cc in omega arith)
lead-kind false k q = (λ e. let z : ◌≡◌ {A = ℕ} 0 1 = cc in omega arith, λ e. let z : ◌≡◌ {A = ℕ} 0 1 = cc in omega arith)

low-kind : (k : Kind) → k ≡ no_edge → (k ≡ pseudo → ⊥) × (k ≡ extra → ⊥)
low-kind k q = (λ e. let z : ◌≡◌ {A = ℕ} 0 1 = cc in omega arith, λ e. let z : ◌≡◌ {A = ℕ} 0 1 = cc in omega arith)

-- inside a run, what each test says in numbers
pub record PseudoEnd (set : Settings) (a t e : ℕ) (l : Bool) : Type 0 where
  pub at : e ≡ t + 4
  pub trail : l ≡ false
  pub long : set.longest < a + 3

pub pseudo_end : (set : Settings) (a t e : ℕ) (l : Bool) → is_pseudo set a t e l ≡ true → PseudoEnd set a t e l
pseudo_end set a t e l q =
    let p = and_left (eqb e (t + 4) && not l) (ltb set.longest (a + 3)) q in
    record {
      at = eqb-true e (t + 4) (and_left (eqb e (t + 4)) (not l) p);
      trail = not-true l (and_right (eqb e (t + 4)) (not l) p);
      long = ltb-true set.longest (a + 3) (and_right (eqb e (t + 4) && not l) (ltb set.longest (a + 3)) q);
    }

pub record ExtraEnd (a t e : ℕ) (l : Bool) : Type 0 where
  pub later : 1 < a
  pub fourth : a % 4 ≡ 1
  pub before : t + 3 < e
  pub up_to : (l || ltb (t + 7) e) ≡ true

pub extra_end : (a t e : ℕ) (l : Bool) → is_extra a t e l ≡ true → ExtraEnd a t e l
extra_end a t e l q =
    let x = ltb 1 a in
    let y = eqb (a % 4) 1 in
    let z = ltb (t + 3) e in
    let p = and_left (x && y && z) (l || ltb (t + 7) e) q in
    let o = and_left (x && y) z p in
    record {
      later = ltb-true 1 a (and_left x y o);
      fourth = eqb-true (a % 4) 1 (and_right x y o);
      before = ltb-true (t + 3) e (and_right (x && y) z p);
      up_to = and_right (x && y && z) (l || ltb (t + 7) e) q;
    }

module _ (set : Settings) (ok : Allowed set) (F : List ℕ) (sloped : Sloped F) (t : ℕ) where
  -- a trail and no lead
  trail-only : (e : ℕ) → trail_at F e ≡ true → lead_at F e ≡ false
  trail-only e r = go (lead_at F e) refl
    where
      go : (l : Bool) → lead_at F e ≡ l → l ≡ false
      go true p = absurd (no-lead-and-trail F sloped e p r)
      go false p = refl

  pub pseudo-is : kind_at set F t ≡ pseudo → Pseudo set F t
  pseudo-is q =
      elim (standing F t) as (λ v. Pseudo set F t) [
        | is_lead p ↦ absurd ((lead-kind (trail_within (set.shortest - 1) (since F t)) (kind_at set F t) (sym (kind-lead set F t p))).0 q)
        | is_low h ↦ absurd ((low-kind (kind_at set F t) (kind-low set F t h)).0 q)
        | is_inside p e g ↦
            let i = inside-run F t e g in
            let d = pseudo_end set (age_at F t) t e (lead_at F e) (pick_pseudo (is_pseudo set (age_at F t) t e (lead_at F e)) (is_extra (age_at F t) t e (lead_at F e)) (sym (kind-inside set F t e p g) ∙ q)) in
            record {
              s = t - i.a;
              e = e;
              run = i.run;
              long = omega (arith, d.at, d.long, i.aged, i.inside);
              trail = or-second (lead_at F e) (trail_at F e) d.trail g.next.ends;
              tick = sym d.at;
            }
      ]

  pub is-pseudo : Pseudo set F t → kind_at set F t ≡ pseudo
  is-pseudo x =
      let i = tick-of F x.s t x.e x.run (omega (arith, ok, x.long, x.tick)) (omega (arith, x.tick)) in
      kind-inside set F t x.e i.lead i.going
      ∙ rw (i.aged, eq-eqb x.e (t + 4) (sym x.tick), trail-only x.e x.trail, lt-ltb set.longest (suc (t - x.s) + 3) (omega (arith, x.long, x.tick)))

  -- where the run ends at e: by a trail at t+8 or later, or by a lead at t+4 or later
  up-to : (e : ℕ) → t + 3 < e → (lead_at F e || trail_at F e) ≡ true → (lead_at F e || ltb (t + 7) e) ≡ true
      → ((trail_at F e ≡ true) × (t + 8 ≤ e)) ⊎ ((lead_at F e ≡ true) × (t + 4 ≤ e))
  up-to e l n u = go (lead_at F e) refl
    where
      go : (b : Bool) → lead_at F e ≡ b → ((trail_at F e ≡ true) × (t + 8 ≤ e)) ⊎ ((lead_at F e ≡ true) × (t + 4 ≤ e))
      go true p = inr (p, omega arith)
      go false p =
          inl (or-second (lead_at F e) (trail_at F e) p n, omega (arith, ltb-true (t + 7) e (or-second (lead_at F e) (ltb (t + 7) e) p u)))

  pub extra-is : kind_at set F t ≡ extra → Extra set F t
  extra-is q =
      elim (standing F t) as (λ v. Extra set F t) [
        | is_lead p ↦ absurd ((lead-kind (trail_within (set.shortest - 1) (since F t)) (kind_at set F t) (sym (kind-lead set F t p))).1 q)
        | is_low h ↦ absurd ((low-kind (kind_at set F t) (kind-low set F t h)).1 q)
        | is_inside p e g ↦
            let i = inside-run F t e g in
            let d = extra_end (age_at F t) t e (lead_at F e) (pick_extra (is_pseudo set (age_at F t) t e (lead_at F e)) (is_extra (age_at F t) t e (lead_at F e)) (sym (kind-inside set F t e p g) ∙ q)) in
            let a = i.a in
            let m : a % 4 ≡ 0 = omega (arith, d.fourth, i.aged) in
            record {
              s = t - a;
              e = e;
              j = a / 4;
              run = i.run;
              long = omega (arith, ok.longest-to, d.before, d.later, m, i.aged, i.inside);
              first = omega (arith, m, d.later, i.aged);
              tick = omega (arith, m, i.inside);
              up_to = up-to e d.before g.next.ends d.up_to;
            }
      ]

  -- an extra edge is no pseudo edge: the run ends by a lead, or later
  not_pseudo : (a e : ℕ) → ((trail_at F e ≡ true) × (t + 8 ≤ e)) ⊎ ((lead_at F e ≡ true) × (t + 4 ≤ e)) → is_pseudo set a t e (lead_at F e) ≡ false
  not_pseudo a e (inl x) = rw (ne_eqb e (t + 4) (λ z. omega (arith, x.1)))
  not_pseudo a e (inr x) = rw (x.0, and-false (eqb e (t + 4)))

  extra_up_to : (e : ℕ) → ((trail_at F e ≡ true) × (t + 8 ≤ e)) ⊎ ((lead_at F e ≡ true) × (t + 4 ≤ e)) → (t + 3 < e) × ((lead_at F e || ltb (t + 7) e) ≡ true)
  extra_up_to e (inl x) = (omega (arith, x.1), rw (lt-ltb (t + 7) e (omega (arith, x.1)), or-true (lead_at F e)))
  extra_up_to e (inr x) = (omega (arith, x.1), rw x.0)

  pub is-extra : Extra set F t → kind_at set F t ≡ extra
  is-extra x =
      let u = extra_up_to x.e x.up_to in
      let i = tick-of F x.s t x.e x.run (omega (arith, x.first, x.tick)) (omega (arith, u.0)) in
      let m : suc (t - x.s) % 4 ≡ 1 = omega (arith, x.tick) in
      kind-inside set F t x.e i.lead i.going
      ∙ rw (not_pseudo (age_at F t) x.e x.up_to, i.aged, lt-ltb 1 (suc (t - x.s)) (omega (arith, x.first, x.tick)), eq-eqb (suc (t - x.s) % 4) 1 m, lt-ltb (t + 3) x.e u.0, u.1)

  -- no tick has two kinds of edge
  kinds_differ : (k : Kind) → (k ≡ actual → k ≡ pseudo → ⊥) × (k ≡ actual → k ≡ extra → ⊥) × (k ≡ pseudo → k ≡ extra → ⊥)
  kinds_differ k =
      (λ p q. let z : ◌≡◌ {A = ℕ} 0 1 = cc in omega arith, λ p q. let z : ◌≡◌ {A = ℕ} 0 1 = cc in omega arith, λ p q. let z : ◌≡◌ {A = ℕ} 0 1 = cc in omega arith)

  pub one-kind : (Actual set F t → Pseudo set F t → ⊥) × (Actual set F t → Extra set F t → ⊥) × (Pseudo set F t → Extra set F t → ⊥)
  one-kind =
      let d = kinds_differ (kind_at set F t) in
      (λ a p. d.0 (is-actual set ok F t a) (is-pseudo p), λ a x. d.1 (is-actual set ok F t a) (is-extra x), λ p x. d.2 (is-pseudo p) (is-extra x))

-- ---- a trace without a bad byte

-- no byte has P with N
pub good_sloped : (F : List ℕ) → any bad F ≡ false → Sloped F
unfolding P N
good_sloped F h = record { at = go F h }
  where
    go : (F : List ℕ) → any bad F ≡ false → (t : ℕ) → (P F t && N F t) ≡ false
    go [] h t = refl
    go (b ∷ F) h zero = or_left (odd (b / 2) && odd (b / 4)) (ltb 15 b) (or_left (bad b) (any bad F) h)
    go (b ∷ F) h (suc t) = go F (or_right (bad b) (any bad F) h) t

-- so its edges are those of document 01's sentences
pub said-edges : (set : Settings) → Allowed set → (F : List ℕ) → any bad F ≡ false → SaidEdges set F
said-edges set ok F h =
    let s = good_sloped F h in
    record {
      actual-is = λ t. actual-is set ok F t;
      is-actual = λ t. is-actual set ok F t;
      pseudo-is = λ t. pseudo-is set ok F s t;
      is-pseudo = λ t. is-pseudo set ok F s t;
      extra-is = λ t. extra-is set ok F s t;
      is-extra = λ t. is-extra set ok F s t;
    }
