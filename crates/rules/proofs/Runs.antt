-- Runs, from a lead s to the next trail or lead e: the age and the bounded look-ahead of the rules say what document 01's sentences say.
-- Between s and e the age counts from s, and each look-ahead is a comparison with e; so an edge inside a run is a matter of s and e alone.
use Prim.Native.Nat.{ℕ, zero, suc, ◌+◌, ◌-◌, ◌/◌, ◌%◌, ◌≤◌, ◌<◌}
use native.Mathlib.Omega.{arith}
use mathlib.Core.Path.{◌≡◌, refl, sym, ap, ◌∙◌}
use mathlib.Core.Logic.{◌⊎◌, inl, inr}
use mathlib.Core.Bool.{Bool, true, false, not, ◌&&◌, ◌||◌, cond, and-false, or-true}
use mathlib.Core.List.{List, [], ◌∷◌}
use lib.Dec.{ltb, eqb, eqb-suc-zero}
use lib.ListN.{length, get_or, drop, get_or-eq_default}
use lib.Seq.{get_or-drop, drop-drop}
use borrow.Author.Tests.{eqb-true, eqb-false, lt-ltb, le-ltb, not-true, not-false}
use Rattle.rules.specs.Samples.{A, P, N, odd}
use Rattle.rules.specs.Edges.{lead, falls, age, goes_on, no_trail_lem, since, age_at}
use Rattle.rules.specs.Sentences.{lead_at, high_after, trail_at, Plain, Next}
use Rattle.rules.proofs.Truth.{impossible, and_left, and_right}

-- ---- the window of the next tick

drop-suc : (t : ℕ) (v : List ℕ) → drop 1 (drop t v) ≡ drop (suc t) v
drop-suc zero v = refl
drop-suc (suc t) [] = refl
drop-suc (suc t) (x ∷ v) = drop-suc t v

pub since-suc : (F : List ℕ) (t : ℕ) → drop 1 (since F t) ≡ since F (suc t)
since-suc F t = drop-suc t (0 ∷ 0 ∷ F)

pub since-add : (F : List ℕ) (k t : ℕ) → drop k (since F t) ≡ since F (t + k)
since-add F k t = drop-drop k t (0 ∷ 0 ∷ F)

-- ---- video is high while the age is not 0

high-first : (l f : Bool) → l ≡ not (eqb (cond l 1 (cond (eqb 0 0 || f) 0 1)) 0)
high-first true f = refl
high-first false f = refl

high-later : (l f : Bool) (a : ℕ) → (l || (not (eqb a 0) && not f)) ≡ not (eqb (cond l 1 (cond (eqb a 0 || f) 0 (suc a))) 0)
high-later true f a = refl
high-later false f zero = refl
high-later false true (suc a) = rw (eqb-suc-zero a)
high-later false false (suc a) = rw (eqb-suc-zero a, eqb-suc-zero (suc a))

pub high-age : (F : List ℕ) (t : ℕ) → high_after F t ≡ not (eqb (age_at F t) 0)
unfolding high_after age_at age lead_at
high-age F zero = high-first (lead (since F zero)) (falls (since F zero))
high-age F (suc t) = rw (high-age F t) (high-later (lead (since F (suc t))) (falls (since F (suc t))) (age_at F t))

high-suc : (F : List ℕ) (t a : ℕ) → age_at F t ≡ suc a → high_after F t ≡ true
high-suc F t a e = high-age F t ∙ ap (λ (n : ℕ). not (eqb n 0)) e ∙ ap not (eqb-suc-zero a)

pub not_low : (F : List ℕ) (t : ℕ) → high_after F t ≡ true → eqb (age_at F t) 0 ≡ false
not_low F t h = not-true (eqb (age_at F t) 0) (sym (high-age F t) ∙ h)

pub low-age : (F : List ℕ) (t : ℕ) → high_after F t ≡ false → age_at F t ≡ 0
low-age F t h = eqb-true (age_at F t) 0 (not-false (eqb (age_at F t) 0) (sym (high-age F t) ∙ h))

-- high video falls at a trail
pub trail_falls : (F : List ℕ) (t : ℕ) → high_after F t ≡ true → trail_at F (suc t) ≡ falls (since F (suc t))
unfolding trail_at
trail_falls F t h = rw h

-- ---- the age counts from the lead

pub age-lead : (F : List ℕ) (t : ℕ) → lead_at F t ≡ true → age_at F t ≡ 1
unfolding age_at age lead_at
age-lead F zero h = rw h
age-lead F (suc t) h = rw h

pub age_plain : (F : List ℕ) (t : ℕ) → high_after F t ≡ true → Plain F (suc t) → age_at F (suc t) ≡ suc (age_at F t)
unfolding age_at age lead_at
age_plain F t h p = rw (p.lead, not_low F t h, sym (trail_falls F t h) ∙ p.trail)

pub high-lead : (F : List ℕ) (t : ℕ) → lead_at F t ≡ true → high_after F t ≡ true
high-lead F t h = high-suc F t 0 (age-lead F t h)

high_plain : (F : List ℕ) (t : ℕ) → high_after F t ≡ true → Plain F (suc t) → high_after F (suc t) ≡ true
high_plain F t h p = high-suc F (suc t) (age_at F t) (age_plain F t h p)

-- ---- the next trail or lead

next_tail : (F : List ℕ) (t e : ℕ) → suc t < e → Next F t e → Next F (suc t) e
next_tail F t e h n = record { later = h; between = λ i l m. n.between i (omega arith) m; ends = n.ends }

next-first : (F : List ℕ) (t e : ℕ) → suc t < e → Next F t e → Plain F (suc t)
next-first F t e h n = n.between (suc t) (omega arith) h

next-step : (F : List ℕ) (t e : ℕ) → Plain F (suc t) → Next F (suc t) e → Next F t e
next-step F t e p n = record { later = omega (arith, n.later); between = λ i l m. go i l m (eqb i (suc t)) refl; ends = n.ends }
  where
    go : (i : ℕ) → t < i → i < e → (b : Bool) → eqb i (suc t) ≡ b → Plain F i
    go i l m true q = rw (eqb-true i (suc t) q) p
    go i l m false q = n.between i (let z = eqb-false i (suc t) q in omega arith) m

-- video that is high stays so up to the next trail or lead
pub record Going (F : List ℕ) (t e : ℕ) : Type 0 where
  pub high : high_after F t ≡ true
  pub next : Next F t e

pub going_suc : (F : List ℕ) (t e : ℕ) → suc t < e → Going F t e → Going F (suc t) e
going_suc F t e h g =
    record { high = high_plain F t g.high (next-first F t e h g.next); next = next_tail F t e h g.next }

pub going_add : (F : List ℕ) (k t e : ℕ) → t + k < e → Going F t e → Going F (t + k) e
going_add F zero t e h g = let z : t + 0 ≡ t = omega arith in rw z g
going_add F (suc k) t e h g =
    let z : t + suc k ≡ suc t + k = omega arith in
    rw z (going_add F k (suc t) e (omega arith) (going_suc F t e (omega arith) g))

-- ---- each look-ahead is a comparison with e

-- at e itself: not a lead, so a trail
end_falls : (F : List ℕ) (t : ℕ) → high_after F t ≡ true → (lead_at F (suc t) || trail_at F (suc t)) ≡ true → (not (lead_at F (suc t)) && not (falls (since F (suc t)))) ≡ false
end_falls F t h n = go (lead_at F (suc t)) (trail_at F (suc t)) (falls (since F (suc t))) (trail_falls F t h) n
  where
    go : (l r f : Bool) → r ≡ f → (l || r) ≡ true → (not l && not f) ≡ false
    go true r f e n = refl
    go false r f e n = ap not (sym e ∙ n)

-- one tick on: e is the next tick, or the tick is plain and the rest is the look-ahead from there
module _ (F : List ℕ) (n t e : ℕ) (g : Going F t e) where
  goes_on-step : (suc t < e → goes_on n (since F (suc t)) ≡ ltb (suc t + n) e) → goes_on (suc n) (since F t) ≡ ltb (t + suc n) e
  unfolding goes_on lead_at
  goes_on-step ih = rw (since-suc F t) (go (eqb e (suc t)) refl)
    where
      w : List ℕ
      w = since F (suc t)

      go : (b : Bool) → eqb e (suc t) ≡ b → (not (lead w) && not (falls w) && goes_on n w) ≡ ltb (t + suc n) e
      go true q =
          let z = eqb-true e (suc t) q in
          ap (λ (x : Bool). x && goes_on n w) (end_falls F t g.high (rw z at g.next.ends)) ∙ sym (le-ltb (t + suc n) e (omega arith))
      go false q =
          let z = eqb-false e (suc t) q in
          let l : suc t < e = omega (arith, g.next.later) in
          let p = next-first F t e l g.next in
          let s : suc t + n ≡ t + suc n = omega arith in
          rw (p.lead, sym (trail_falls F t g.high) ∙ p.trail) (ih l ∙ ap (λ (k : ℕ). ltb k e) s)

  no_trail-step : (suc t < e → no_trail_lem n (since F (suc t)) ≡ (lead_at F e || ltb (suc t + n) e)) → no_trail_lem (suc n) (since F t) ≡ (lead_at F e || ltb (t + suc n) e)
  unfolding no_trail_lem lead_at
  no_trail-step ih = rw (since-suc F t) (go (eqb e (suc t)) refl)
    where
      w : List ℕ
      w = since F (suc t)

      at-end : (l r : Bool) → trail_at F (suc t) ≡ r → (l || r) ≡ true → (l || (not (falls w) && no_trail_lem n w)) ≡ (l || false)
      at-end true r q m = refl
      at-end false r q m = rw (sym (trail_falls F t g.high) ∙ q ∙ m)

      go : (b : Bool) → eqb e (suc t) ≡ b → (lead w || (not (falls w) && no_trail_lem n w)) ≡ (lead (since F e) || ltb (t + suc n) e)
      go true q =
          let z = eqb-true e (suc t) q in
          rw (z, le-ltb (t + suc n) (suc t) (omega arith)) (at-end (lead w) (trail_at F (suc t)) refl (rw z at g.next.ends))
      go false q =
          let z = eqb-false e (suc t) q in
          let l : suc t < e = omega (arith, g.next.later) in
          let p = next-first F t e l g.next in
          let s : suc t + n ≡ t + suc n = omega arith in
          rw (p.lead, sym (trail_falls F t g.high) ∙ p.trail) (ih l ∙ ap (λ (k : ℕ). lead (since F e) || ltb k e) s)

pub goes_on-is : (F : List ℕ) (n t e : ℕ) → Going F t e → goes_on n (since F t) ≡ ltb (t + n) e
unfolding goes_on
goes_on-is F zero t e g = sym (lt-ltb (t + 0) e (omega (arith, g.next.later)))
goes_on-is F (suc n) t e g = goes_on-step F n t e g (λ l. goes_on-is F n (suc t) e (going_suc F t e l g))

pub no_trail-is : (F : List ℕ) (n t e : ℕ) → Going F t e → no_trail_lem n (since F t) ≡ (lead_at F e || ltb (t + n) e)
unfolding no_trail_lem
no_trail-is F zero t e g = sym (ap (λ (x : Bool). lead_at F e || x) (lt-ltb (t + 0) e (omega (arith, g.next.later))) ∙ or-true (lead_at F e))
no_trail-is F (suc n) t e g = no_trail-step F n t e g (λ l. no_trail-is F n (suc t) e (going_suc F t e l g))

-- ---- past the end video is low, so every run ends

past-A : (F : List ℕ) (t : ℕ) → length F ≤ t → A (since F t) 2 ≡ false
unfolding A
past-A F t h =
    ap (λ (b : ℕ). eqb (b % 2) 1) (get_or-drop t (0 ∷ 0 ∷ F) 2 0 ∙ get_or-eq_default (0 ∷ 0 ∷ F) 0 {n = t + 2} (omega arith))

-- without A there is no lead, and high video falls
pub lead-A : (w : List ℕ) → A w 2 ≡ false → lead w ≡ false
unfolding lead
lead-A w h = rw h

pub falls-A : (w : List ℕ) → A w 2 ≡ false → falls w ≡ true
unfolding falls
falls-A w h = rw h

age-low : (a : ℕ) (w : List ℕ) → A w 2 ≡ false → age a w ≡ 0
unfolding age
age-low a w h = rw (lead-A w h, falls-A w h, or-true (eqb a 0))

pub low_without_A : (F : List ℕ) (t : ℕ) → A (since F t) 2 ≡ false → age_at F t ≡ 0
unfolding age_at
low_without_A F zero h = age-low 0 (since F zero) h
low_without_A F (suc t) h = age-low (age_at F t) (since F (suc t)) h

pub low-past : (F : List ℕ) (t : ℕ) → length F ≤ t → high_after F t ≡ true → ⊥
low-past F t h g = impossible (sym g ∙ high-age F t ∙ ap (λ (n : ℕ). not (eqb n 0)) (low_without_A F t (past-A F t h)))

pub record Ended (F : List ℕ) (t : ℕ) : Type 0 where
  pub e : ℕ
  pub next : Next F t e

-- the next tick ends the run, or it is plain
tick_view : (F : List ℕ) (t : ℕ) → ((lead_at F t || trail_at F t) ≡ true) ⊎ Plain F t
tick_view F t = go (lead_at F t) (trail_at F t) refl refl
  where
    go : (l r : Bool) → lead_at F t ≡ l → trail_at F t ≡ r → ((lead_at F t || trail_at F t) ≡ true) ⊎ Plain F t
    go true r p q = inl (rw p)
    go false true p q = inl (rw (p, q))
    go false false p q = inr (record { lead = p; trail = q })

next-end : (F : List ℕ) (t : ℕ) → (lead_at F (suc t) || trail_at F (suc t)) ≡ true → Next F t (suc t)
next-end F t h = record { later = omega arith; between = λ i l m. absurd (omega arith); ends = h }

ended_by : (F : List ℕ) (k t : ℕ) → length F ≤ t + k → high_after F t ≡ true → Ended F t
ended_by F zero t h g = absurd (low-past F t (omega arith) g)
ended_by F (suc k) t h g =
    elim (tick_view F (suc t)) as (λ v. Ended F t) [
      | inl n ↦ record { e = suc t; next = next-end F t n }
      | inr p ↦
          let r = ended_by F k (suc t) (omega arith) (high_plain F t g p) in
          record { e = r.e; next = next-step F t r.e p r.next }
    ]

pub ended : (F : List ℕ) (t : ℕ) → high_after F t ≡ true → Ended F t
ended F t g = ended_by F (length F) t (omega arith) g

-- ---- the lead from which the age counts

pub record Reach (F : List ℕ) (t a : ℕ) : Type 0 where
  pub inside : a ≤ t
  pub lead : lead_at F (t - a) ≡ true
  pub plain : (i : ℕ) → t < i + a → i ≤ t → Plain F i

reach-lead : (F : List ℕ) (t a : ℕ) → a ≡ 0 → lead_at F t ≡ true → Reach F t a
reach-lead F t a z h =
    let q : t - a ≡ t = omega arith in
    record { inside = omega arith; lead = rw q h; plain = λ i l m. absurd (omega arith) }

reach_plain : (F : List ℕ) (t a : ℕ) → Plain F (suc t) → Reach F t a → Reach F (suc t) (suc a)
reach_plain F t a p r =
    let q : suc t - suc a ≡ t - a = omega arith in
    record { inside = omega (arith, r.inside); lead = rw q r.lead; plain = λ i l m. go i l m (eqb i (suc t)) refl }
  where
    go : (i : ℕ) → suc t < i + suc a → i ≤ suc t → (b : Bool) → eqb i (suc t) ≡ b → Plain F i
    go i l m true q = rw (eqb-true i (suc t) q) p
    go i l m false q = let z = eqb-false i (suc t) q in r.plain i (omega arith) (omega arith)

-- the age at a tick: 1 at a lead, 0 where video is low, else one more than before, at a plain tick
pub data Aged (F : List ℕ) (t b : ℕ) : Type 0 where
  at_lead : lead_at F (suc t) ≡ true → b ≡ 1 → Aged F t b
  low : b ≡ 0 → Aged F t b
  at_plain : Plain F (suc t) → high_after F t ≡ true → b ≡ suc (age_at F t) → Aged F t b

pub aged : (F : List ℕ) (t : ℕ) → Aged F t (age_at F (suc t))
unfolding age_at age lead_at
aged F t = go (lead_at F (suc t)) (eqb (age_at F t) 0) (falls (since F (suc t))) refl refl refl
  where
    go : (l z f : Bool) → lead_at F (suc t) ≡ l → eqb (age_at F t) 0 ≡ z → falls (since F (suc t)) ≡ f → Aged F t (cond l 1 (cond (z || f) 0 (suc (age_at F t))))
    go true z f p q r = at_lead p refl
    go false true f p q r = low refl
    go false false true p q r = low refl
    go false false false p q r =
        let h : high_after F t ≡ true = high-age F t ∙ ap not q in
        at_plain (record { lead = p; trail = trail_falls F t h ∙ r }) h refl

first-lead : (F : List ℕ) (a : ℕ) → age_at F zero ≡ suc a → Reach F zero a
unfolding age_at age lead_at
first-lead F a e = go (lead_at F zero) refl e
  where
    go : (l : Bool) → lead_at F zero ≡ l → cond l 1 0 ≡ suc a → Reach F zero a
    go true p q = reach-lead F zero a (omega arith) p
    go false p q = absurd (omega arith)

pub reach : (F : List ℕ) (t a : ℕ) → age_at F t ≡ suc a → Reach F t a
reach F zero a e = first-lead F a e
reach F (suc t) zero e =
    elim (aged F t) as (λ v. Reach F (suc t) zero) [
      | at_lead p q ↦ reach-lead F (suc t) zero refl p
      | low q ↦ absurd (omega arith)
      | at_plain p h q ↦ absurd (let z = eqb-false (age_at F t) 0 (not_low F t h) in omega arith)
    ]
reach F (suc t) (suc a) e =
    elim (aged F t) as (λ v. Reach F (suc t) (suc a)) [
      | at_lead p q ↦ absurd (omega arith)
      | low q ↦ absurd (omega arith)
      | at_plain p h q ↦ reach_plain F t a p (reach F t a (omega arith))
    ]

-- ---- no tick is both a lead and a trail, if no flag byte has P with N

-- video is high only where A is
pub high-A : (F : List ℕ) (t : ℕ) → high_after F t ≡ true → A (since F t) 2 ≡ true
high-A F t h = go (A (since F t) 2) refl
  where
    go : (b : Bool) → A (since F t) 2 ≡ b → b ≡ true
    go true e = refl
    go false e = absurd (impossible (sym h ∙ high-age F t ∙ ap (λ (n : ℕ). not (eqb n 0)) (low_without_A F t e)))

-- place k+1 of a tick's window is place k of the next tick's
place-suc : (F : List ℕ) (t k : ℕ) → get_or (since F t) (suc k) 0 ≡ get_or (since F (suc t)) k 0
place-suc F t k =
    get_or-drop t (0 ∷ 0 ∷ F) (suc k) 0 ∙ ap (λ (n : ℕ). get_or (0 ∷ 0 ∷ F) n 0) (sym (add_move t k)) ∙ sym (get_or-drop (suc t) (0 ∷ 0 ∷ F) k 0)
  where
    add_move : (t k : ℕ) → suc t + k ≡ t + suc k
    add_move t k = omega arith

pub A-suc : (F : List ℕ) (t : ℕ) → A (since F (suc t)) 1 ≡ A (since F t) 2
unfolding A
A-suc F t = ap (λ (b : ℕ). eqb (b % 2) 1) (sym (place-suc F t 1))

-- place 2 of a tick's window is the tick
pub place-two : (F : List ℕ) (t : ℕ) → get_or (since F t) 2 0 ≡ get_or F t 0
place-two F t = get_or-drop t (0 ∷ 0 ∷ F) 2 0 ∙ ap (λ (n : ℕ). get_or (0 ∷ 0 ∷ F) n 0) (two t)
  where
    two : (t : ℕ) → t + 2 ≡ suc (suc t)
    two t = omega arith

apart : (a₀ a₁ a₂ p₁ p₂ n₁ n₂ more : Bool) → a₁ ≡ true → (a₂ && (not a₁ || (a₀ && a₁ && not p₁ && p₂))) ≡ true
    → (not a₂ || (not n₁ && n₂ && more)) ≡ true → (p₂ && n₂) ≡ true
apart a₀ false a₂ p₁ p₂ n₁ n₂ more e l f = absurd (impossible (sym e))
apart a₀ true false p₁ p₂ n₁ n₂ more e l f = absurd (impossible (sym l))
apart a₀ true true p₁ true n₁ true more e l f = refl
apart a₀ true true p₁ true true false more e l f = absurd (impossible (sym f))
apart a₀ true true p₁ true false false more e l f = absurd (impossible (sym f))
apart false true true p₁ false n₁ n₂ more e l f = absurd (impossible (sym l))
apart true true true true false n₁ n₂ more e l f = absurd (impossible (sym l))
apart true true true false false n₁ n₂ more e l f = absurd (impossible (sym l))

-- no flag byte has P with N
pub record Sloped (F : List ℕ) : Type 0 where
  pub at : (t : ℕ) → (P F t && N F t) ≡ false

window-apart : (w : List ℕ) → A w 1 ≡ true → lead w ≡ true → falls w ≡ true → (P w 2 && N w 2) ≡ true
unfolding lead falls
window-apart w a l f =
    apart (A w 0) (A w 1) (A w 2) (P w 1) (P w 2) (N w 1) (N w 2) (not (A w 3) || (N w 3 && not (A w 4)) || (N w 3 && N w 4) || (N w 3 && P w 4)) a l f

pub no-lead-and-trail : (F : List ℕ) → Sloped F → (t : ℕ) → lead_at F t ≡ true → trail_at F t ≡ true → ⊥
unfolding lead_at trail_at P N
no-lead-and-trail F s zero l r = impossible (sym r)
no-lead-and-trail F s (suc t) l r =
    let w = since F (suc t) in
    let h = and_left (high_after F t) (falls w) r in
    let b = window-apart w (A-suc F t ∙ high-A F t h) l (and_right (high_after F t) (falls w) r) in
    impossible (sym b ∙ ap (λ (x : ℕ). odd (x / 2) && odd (x / 4)) (place-two F (suc t)) ∙ s.at (suc t))

-- two leads are not at neighbouring ticks
apart-leads : (x a₀ a₁ a₂ p₀ p₁ p₂ : Bool) → (a₁ && (not a₀ || (x && a₀ && not p₀ && p₁))) ≡ true → (a₂ && (not a₁ || (a₀ && a₁ && not p₁ && p₂))) ≡ true → ⊥
apart-leads x a₀ false a₂ p₀ p₁ p₂ l m = impossible (sym l)
apart-leads x a₀ true false p₀ p₁ p₂ l m = impossible (sym m)
apart-leads x false true true p₀ p₁ p₂ l m = impossible (sym m)
apart-leads x true true true p₀ true p₂ l m = impossible (sym m)
apart-leads x true true true p₀ false p₂ l m = impossible (sym l ∙ and-false (x && true && not p₀))

pub no-two-leads : (F : List ℕ) (t : ℕ) → lead_at F t ≡ true → lead_at F (suc t) ≡ true → ⊥
unfolding lead_at lead A P
no-two-leads F t l m =
    let w = since F t in
    let v = since F (suc t) in
    let l' : (A v 1 && (not (A v 0) || (A w 0 && A v 0 && not (P v 0) && P v 1))) ≡ true = rw (place-suc F t 0, place-suc F t 1) at l in
    apart-leads (A w 0) (A v 0) (A v 1) (A v 2) (P v 0) (P v 1) (P v 2) l' m
