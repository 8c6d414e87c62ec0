-- A tick without A: no lead and no edge stands there, it is not calm, and video is low after it. So two words without A find nothing.
use Prim.Native.Nat.{ℕ, zero, suc, ◌+◌, ◌-◌, ◌≤◌, ◌<◌}
use native.Mathlib.Omega.{arith}
use mathlib.Core.Path.{◌≡◌, sym, ap, ap₂, ◌∙◌, subst}
use mathlib.Core.Logic.{⊎_elim}
use mathlib.Core.Bool.{Bool, true, false, not, ◌&&◌, ◌||◌, cond}
use mathlib.Core.List.{List}
use lib.Bits.{bit_or}
use lib.Dec.{eqb}
use Rattle.rules.specs.Samples.{A}
use Rattle.rules.specs.Edges.{lead, falls, age, since, age_at}
use Rattle.rules.specs.Sentences.{lead_at}
use Rattle.rules.proofs.Truth.{or_left, or_right}
use Rattle.edges.specs.declared.Past.{Past}
use Rattle.edges.specs.declared.Found.{Found}
use Rattle.plane.specs.Words.{bit, Holds}
use Rattle.edges.specs.Planes.{falls_at, calm_at, chain_of, chain_at, has_edge}
use Rattle.edges.specs.Detection.{Behind, Ahead}
use Rattle.plane.proofs.Cases.{le_or_lt}
use Rattle.plane.proofs.BitLaws.{bit-or, zero_bit}
use Rattle.plane.proofs.PlaneLaws.{holds-none}
use Rattle.edges.proofs.Shapes.{A_now}
use Rattle.edges.proofs.EdgeWords.{edge_rule}

-- ---- one tick

and_low : (a r : Bool) → a ≡ false → a && r ≡ false
and_low a r e = ap (λ (b : Bool). b && r) e

or-low : (a r : Bool) → a ≡ false → not a || r ≡ true
or-low a r e = ap (λ (b : Bool). not b || r) e

age-zero : (z l f : Bool) (a : ℕ) → l ≡ false → f ≡ true → cond l 1 (cond (z || f) 0 (suc a)) ≡ 0
age-zero true l f a p q = ap (λ (b : Bool). cond b 1 0) p
age-zero false l f a p q = ap₂ (λ (b c : Bool). cond b 1 (cond c 0 (suc a))) p q

no_edge : (l z r x : Bool) → l ≡ false → z ≡ true → cond l x (not z && r) ≡ false
no_edge l z r x p q = ap₂ (λ (b c : Bool). cond b x (not c && r)) p q

module _ (F : List ℕ) (t : ℕ) (low : A F t ≡ false) where
  pub lead_low : lead_at F t ≡ false
  unfolding lead_at lead
  lead_low = and_low (A (since F t) 2) _ (A_now F t ∙ low)

  falls-low : falls_at F t ≡ true
  unfolding falls_at falls
  falls-low = or-low (A (since F t) 2) _ (A_now F t ∙ low)

  pub calm-low : calm_at F t ≡ false
  unfolding calm_at
  calm-low = ap₂ (λ (l f : Bool). not l && not f) lead_low falls-low

age-low : (F : List ℕ) (t : ℕ) → A F t ≡ false → age_at F t ≡ 0
unfolding age_at age lead_at falls_at
age-low F zero h = age-zero true (lead (since F 0)) (falls (since F 0)) 0 (lead_low F 0 h) (falls-low F 0 h)
age-low F (suc t) h =
    age-zero (eqb (age_at F t) 0) (lead (since F (suc t))) (falls (since F (suc t))) (age_at F t) (lead_low F (suc t) h) (falls-low F (suc t) h)

pub chain-low : (F : List ℕ) (t : ℕ) → A F t ≡ false → chain_at F t ≡ false
unfolding chain_at chain_of
chain-low F t h = ap chain_of (age-low F t h)

pub edge-low : (F : List ℕ) (t : ℕ) → A F t ≡ false → has_edge F t ≡ false
edge-low F t h = edge_rule F t ∙ no_edge (lead_at F t) (eqb (age_at F t) 0) _ _ (lead_low F t h) (ap (λ (x : ℕ). eqb x 0) (age-low F t h))

-- ---- two words without A

module _ (past : Past) (a : ℕ) (e : bit_or a past.a ≡ 0) (F : List ℕ) (g : ℕ) (q : Behind F g past) (ha : Holds (A F) (g + 66) a) where
  clear : (i : ℕ) → bit a i || bit past.a i ≡ false
  clear i = sym (bit-or a past.a i) ∙ ap (λ (x : ℕ). bit x i) e ∙ zero_bit i

  no-A : (j : ℕ) → j < 128 → A F (g + 2 + j) ≡ false
  no-A j h =
      ⊎_elim
      (λ (l : 64 ≤ j). let d : g + 66 + (j - 64) ≡ g + 2 + j = omega arith in
      subst (λ (k : ℕ). A F k ≡ false) d (sym (ha.at (j - 64) (omega arith)) ∙ or_left (bit a (j - 64)) (bit past.a (j - 64)) (clear (j - 64))))
      (λ (l : j < 64). sym (q.a.at j l) ∙ or_right (bit a j) (bit past.a j) (clear j))
      (le_or_lt 64 j)

  at : (b i : ℕ) → b ≤ 64 → 2 ≤ b → i < 64 → A F (g + b + i) ≡ false
  at b i h k l = let d : g + 2 + (b - 2 + i) ≡ g + b + i = omega arith in subst (λ (n : ℕ). A F n ≡ false) d (no-A (b - 2 + i) (omega arith))

  pub skipped : Ahead F g (record { lead = 0; calm = 0; chain = 0; edge = 0 })
  skipped = record {
    lead = holds-none (λ i h. lead_low F (g + 64 + i) (at 64 i (omega arith) (omega arith) h));
    calm = holds-none (λ i h. calm-low F (g + 64 + i) (at 64 i (omega arith) (omega arith) h));
    chain = holds-none (λ i h. chain-low F (g + 64 + i) (at 64 i (omega arith) (omega arith) h));
    edge = holds-none (λ i h. edge-low F (g + 57 + i) (at 57 i (omega arith) (omega arith) h));
  }

  pub skipped_as : (r : Found) → (r.lead ≡ 0) × ((r.calm ≡ 0) × ((r.chain ≡ 0) × (r.edge ≡ 0))) → Ahead F g r
  skipped_as r d =
      subst (Ahead F g) (λ j. record { lead = sym d.0 j; calm = sym d.1.0 j; chain = sym d.1.1.0 j; edge = sym d.1.1.1 j }) skipped
