-- An edge depends on twelve flag bytes, from two ticks before it to nine after it, and on the run's age.
-- So what follows later changes no edge, and the list of edges gives at each tick the edge of that tick.
use Prim.Native.Nat.{ℕ, zero, suc, ◌+◌, ◌-◌, ◌≤◌, ◌<◌}
use native.Mathlib.Omega.{arith}
use mathlib.Core.Path.{◌≡◌, refl, sym, ap, ap₂, ◌∙◌}
use mathlib.Core.Bool.{Bool, true, false, ◌||◌, or-true}
use mathlib.Core.List.{List, [], ◌∷◌, ◌++◌}
use lib.Dec.{ltb, eqb}
use lib.ListN.{length, get_or, take, drop, drop_of_length-le, get_or-eq_default, get_or-append}
use lib.Seq.{take-append-le, take-take}
use borrow.Author.Tests.{ltb-true, ltb-false}
use Rattle.rules.specs.Settings.{Settings, Allowed}
use Rattle.rules.specs.Samples.{Trace, ◌⧺◌, M}
use Rattle.rules.specs.Edges.{no_edge, lead, falls, age, trail_within, in_run, kind, kinds_from, kinds, edge_at, since, age_at, kind_at}

-- ---- how far a rule looks

falls-five : (w : List ℕ) → falls w ≡ falls (take 5 w)
unfolding falls
falls-five [] = refl
falls-five (x₀ ∷ []) = refl
falls-five (x₀ ∷ x₁ ∷ []) = refl
falls-five (x₀ ∷ x₁ ∷ x₂ ∷ []) = refl
falls-five (x₀ ∷ x₁ ∷ x₂ ∷ x₃ ∷ []) = refl
falls-five (x₀ ∷ x₁ ∷ x₂ ∷ x₃ ∷ x₄ ∷ w) = refl

age-five : (a : ℕ) (w : List ℕ) → age a w ≡ age a (take 5 w)
unfolding age
age-five a [] = refl
age-five a (x₀ ∷ []) = refl
age-five a (x₀ ∷ x₁ ∷ []) = refl
age-five a (x₀ ∷ x₁ ∷ x₂ ∷ []) = refl
age-five a (x₀ ∷ x₁ ∷ x₂ ∷ x₃ ∷ []) = refl
age-five a (x₀ ∷ x₁ ∷ x₂ ∷ x₃ ∷ x₄ ∷ w) = refl

lead-twelve : (w : List ℕ) → lead w ≡ lead (take 12 w)
unfolding lead
lead-twelve [] = refl
lead-twelve (x₀ ∷ []) = refl
lead-twelve (x₀ ∷ x₁ ∷ []) = refl
lead-twelve (x₀ ∷ x₁ ∷ x₂ ∷ w) = refl

falls-take : (m : ℕ) → 5 ≤ m → (w : List ℕ) → falls w ≡ falls (take m w)
falls-take m h w = falls-five w ∙ ap falls (sym (take-take 5 m w h)) ∙ sym (falls-five (take m w))

trail-take : (n m : ℕ) → n + 5 ≤ m → (w : List ℕ) → trail_within n w ≡ trail_within n (take m w)
unfolding trail_within
trail-take zero m h w = refl
trail-take (suc n) zero h w = absurd (omega arith)
trail-take (suc n) (suc m) h [] = refl
trail-take (suc n) (suc m) h (x ∷ w) = ap₂ ◌||◌ (falls-take m (omega arith) w) (trail-take n m (omega arith) w)

module _ (set : Settings) where
  in_run-twelve : (a : ℕ) (w : List ℕ) → in_run set a w ≡ in_run set a (take 12 w)
  unfolding in_run
  in_run-twelve a [] = refl
  in_run-twelve a (x₀ ∷ []) = refl
  in_run-twelve a (x₀ ∷ x₁ ∷ []) = refl
  in_run-twelve a (x₀ ∷ x₁ ∷ x₂ ∷ []) = refl
  in_run-twelve a (x₀ ∷ x₁ ∷ x₂ ∷ x₃ ∷ []) = refl
  in_run-twelve a (x₀ ∷ x₁ ∷ x₂ ∷ x₃ ∷ x₄ ∷ []) = refl
  in_run-twelve a (x₀ ∷ x₁ ∷ x₂ ∷ x₃ ∷ x₄ ∷ x₅ ∷ []) = refl
  in_run-twelve a (x₀ ∷ x₁ ∷ x₂ ∷ x₃ ∷ x₄ ∷ x₅ ∷ x₆ ∷ []) = refl
  in_run-twelve a (x₀ ∷ x₁ ∷ x₂ ∷ x₃ ∷ x₄ ∷ x₅ ∷ x₆ ∷ x₇ ∷ []) = refl
  in_run-twelve a (x₀ ∷ x₁ ∷ x₂ ∷ x₃ ∷ x₄ ∷ x₅ ∷ x₆ ∷ x₇ ∷ x₈ ∷ []) = refl
  in_run-twelve a (x₀ ∷ x₁ ∷ x₂ ∷ x₃ ∷ x₄ ∷ x₅ ∷ x₆ ∷ x₇ ∷ x₈ ∷ x₉ ∷ []) = refl
  in_run-twelve a (x₀ ∷ x₁ ∷ x₂ ∷ x₃ ∷ x₄ ∷ x₅ ∷ x₆ ∷ x₇ ∷ x₈ ∷ x₉ ∷ x₁₀ ∷ []) = refl
  in_run-twelve a (x₀ ∷ x₁ ∷ x₂ ∷ x₃ ∷ x₄ ∷ x₅ ∷ x₆ ∷ x₇ ∷ x₈ ∷ x₉ ∷ x₁₀ ∷ x₁₁ ∷ w) = refl

  module _ (ok : Allowed set) where
    kind-twelve : (a : ℕ) (w : List ℕ) → kind set a w ≡ kind set a (take 12 w)
    unfolding kind
    kind-twelve a w = cc (lead-twelve w, trail-take (set.shortest - 1) 12 (omega arith) w, in_run-twelve a w)

    kind-append : (a : ℕ) (w r : List ℕ) → 12 ≤ length w → kind set a (w ++ r) ≡ kind set a w
    kind-append a w r l = kind-twelve a (w ++ r) ∙ ap (kind set a) (take-append-le 12 w r l) ∙ sym (kind-twelve a w)

    age-append : (a : ℕ) (w r : List ℕ) → 5 ≤ length w → age a (w ++ r) ≡ age a w
    age-append a w r l = age-five a (w ++ r) ∙ ap (age a) (take-append-le 5 w r l) ∙ sym (age-five a w)

    from-append : (a : ℕ) (w r : List ℕ) (t : ℕ) → t + 12 ≤ length w
        → get_or (kinds_from set a (w ++ r)) t no_edge ≡ get_or (kinds_from set a w) t no_edge
    unfolding kinds_from
    from-append a [] r t l = absurd (omega arith)
    from-append a (x ∷ w) r zero l =
        ap (λ (b : ℕ). kind set b (x ∷ w ++ r)) (age-append a (x ∷ w) r (omega arith)) ∙ kind-append (age a (x ∷ w)) (x ∷ w) r (omega arith)
    from-append a (x ∷ w) r (suc t) l =
        ap (λ (b : ℕ). get_or (kinds_from set b (w ++ r)) t no_edge) (age-append a (x ∷ w) r (omega arith))
        ∙ from-append (age a (x ∷ w)) w r t (omega arith)

    -- whether and which edge stands at t does not change by what follows, once t+10 ticks are there
    pub kinds-append : (F G : List ℕ) (t : ℕ) → t + 10 ≤ length F → get_or (kinds set (F ++ G)) t no_edge ≡ get_or (kinds set F) t no_edge
    unfolding kinds
    kinds-append F G t l = from-append 0 (0 ∷ 0 ∷ F) G t (omega arith)

    -- the same of the edge with its M and value
    pub edge-append : (T R : Trace) (t : ℕ) → t + 10 ≤ length T.flags → t + 10 ≤ length T.values → edge_at set (T ⧺ R) t ≡ edge_at set T t
    unfolding edge_at M
    edge-append T R t l l' =
        cc (kinds-append T.flags R.flags t l, get_or-append T.flags R.flags 0 (t + 1) (omega arith), get_or-append T.values R.values 0 (t + 1) (omega arith))

-- ---- the list of edges, tick by tick

-- the age at tick t of the ticks that start at v, a being that before them
ages_from : ℕ → List ℕ → ℕ → ℕ
ages_from a v zero = age a v
ages_from a v (suc t) = age (ages_from a v t) (drop (suc t) v)

ages_shift : (a x : ℕ) (v : List ℕ) (t : ℕ) → ages_from (age a (x ∷ v)) v t ≡ ages_from a (x ∷ v) (suc t)
unfolding ages_from
ages_shift a x v zero = refl
ages_shift a x v (suc t) = ap (λ (b : ℕ). age b (drop (suc t) v)) (ages_shift a x v t)

from_at : (set : Settings) (a : ℕ) (v : List ℕ) (t : ℕ) → t < length v
    → get_or (kinds_from set a v) t no_edge ≡ kind set (ages_from a v t) (drop t v)
unfolding kinds_from ages_from
from_at set a [] t h = absurd (omega arith)
from_at set a (x ∷ v) zero h = refl
from_at set a (x ∷ v) (suc t) h =
    from_at set (age a (x ∷ v)) v t (omega arith) ∙ ap (λ (b : ℕ). kind set b (drop t v)) (ages_shift a x v t)

ages_are : (F : List ℕ) (t : ℕ) → ages_from 0 (0 ∷ 0 ∷ F) t ≡ age_at F t
unfolding ages_from age_at
ages_are F zero = refl
ages_are F (suc t) = ap (λ (b : ℕ). age b (since F (suc t))) (ages_are F t)

-- past the list video is low, and there is no edge
age-nil : (a : ℕ) → age a [] ≡ 0
unfolding age
age-nil a = rw (or-true (eqb a 0))

kind-nil : (set : Settings) → kind set 0 [] ≡ no_edge
unfolding kind
kind-nil set = refl

past-nil : (F : List ℕ) (t : ℕ) → length F + 2 ≤ t → since F t ≡ []
past-nil F t h = drop_of_length-le (0 ∷ 0 ∷ F) {i = t} (omega arith)

kind_at-past : (set : Settings) (F : List ℕ) (t : ℕ) → length F + 2 ≤ t → kind_at set F t ≡ no_edge
unfolding kind_at age_at
kind_at-past set F zero h = absurd (omega arith)
kind_at-past set F (suc t) h = rw (past-nil F (suc t) h, age-nil (age_at F t)) (kind-nil set)

pub from-length : (set : Settings) (a : ℕ) (v : List ℕ) → length (kinds_from set a v) ≡ length v
unfolding kinds_from
from-length set a [] = refl
from-length set a (x ∷ v) = ap suc (from-length set (age a (x ∷ v)) v)

-- the list's entry at t is the edge at t, for every t
pub kinds-at : (set : Settings) (F : List ℕ) (t : ℕ) → get_or (kinds set F) t no_edge ≡ kind_at set F t
unfolding kinds kind_at
kinds-at set F t = go (ltb t (length F + 2)) refl
  where
    v : List ℕ
    v = 0 ∷ 0 ∷ F

    go : (b : Bool) → ltb t (length F + 2) ≡ b → get_or (kinds_from set 0 v) t no_edge ≡ kind set (age_at F t) (since F t)
    go true e = from_at set 0 v t (omega (arith, ltb-true t (length F + 2) e)) ∙ ap (λ (b : ℕ). kind set b (since F t)) (ages_are F t)
    go false e =
        get_or-eq_default (kinds_from set 0 v) no_edge {n = t} (omega (arith, ltb-false t (length F + 2) e, from-length set 0 v))
        ∙ sym (kind_at-past set F t (ltb-false t (length F + 2) e))
