-- The chain of a trace by words: the ages of the rules follow the steps of a run, so the chain's law holds, and the fill makes the word.
use Prim.Native.Nat.{ℕ, zero, suc, ◌+◌}
use native.Mathlib.Omega.{arith}
use native.Mathlib.Nat.{add-zero}
use native.Mathlib.Numerals.{add-one, add-two, add-three}
use mathlib.Core.Path.{◌≡◌, refl}
use mathlib.Core.Bool.{Bool, true, false, ◌&&◌, ◌||◌, cond}
use mathlib.Core.List.{List}
use lib.Bits.{bit_and}
use lib.Dec.{eqb}
use Rattle.rules.specs.Edges.{lead, falls, age, since, age_at}
use Rattle.rules.specs.Sentences.{lead_at}
use Rattle.plane.specs.Words.{Slid}
use Rattle.edges.specs.Planes.{falls_at, calm_at, chain_at}
use Rattle.edges.specs.Detection.{Chain}
use Rattle.plane.proofs.PlaneLaws.{holds-and, holds_eq, holds-behind, holds-back, place, newest}
use Rattle.edges.proofs.RunLaws as run
use Rattle.edges.proofs.Fill.{seed, fill, thin, filled}

-- the age at tick 0
pick-zero : (l f : Bool) → cond l 1 (cond (true || f) 0 (suc 0)) ≡ cond l 1 0
pick-zero true f = refl
pick-zero false f = refl

module _ (F : List ℕ) where
  -- the ages of a trace are those of its leads and trail shapes
  pub age-first : age_at F 0 ≡ cond (lead_at F 0) 1 0
  unfolding age_at lead_at age
  age-first = pick-zero (lead (since F 0)) (falls (since F 0))

  pub age-step : (t : ℕ) → age_at F (suc t) ≡ run.next_z (lead_at F (suc t)) (falls_at F (suc t)) (eqb (age_at F t) 0) (age_at F t)
  unfolding age_at lead_at falls_at age
  age-step t = refl

  -- t and the three ticks before are calm
  calm4 : ℕ → Bool
  calm4 zero = false
  calm4 (suc zero) = false
  calm4 (suc (suc zero)) = false
  calm4 (suc (suc (suc t))) = calm_at F (suc (suc (suc t))) && calm_at F (suc (suc t)) && calm_at F (suc t) && calm_at F t

  calm4_at : (t : ℕ) → calm_at F (t + 3) && calm_at F (t + 2) && calm_at F (t + 1) && calm_at F (t + 0) ≡ calm4 (t + 3)
  unfolding calm4
  calm4_at t = rw (add-three, add-two, add-one, add-zero)

  chain_law : (t : ℕ) → chain_at F (suc (suc (suc (suc t)))) ≡ calm4 (suc (suc (suc (suc t)))) && (lead_at F t || chain_at F t)
  unfolding chain_at calm_at calm4
  chain_law t = run.chain_law (lead_at F) (falls_at F) (age_at F) age-first age-step t

-- leads and calm ticks of b to b+127 and the chain of b to b+63 give the chain of b+64 to b+127
module _ {l l₀ k k₀ h₀ k₁ k₂ k₃ l₄ : ℕ} (s₁ : Slid k₀ k 63 k₁) (s₂ : Slid k₀ k 62 k₂) (s₃ : Slid k₀ k 61 k₃) (s₄ : Slid l₀ l 60 l₄) where
  pub chain-is : let z = bit_and (bit_and (bit_and k k₁) k₂) k₃ in
      Chain l l₀ k k₀ h₀ (fill 32 (fill 16 (fill 8 (fill 4 (seed h₀ l₄ z) z) (thin 4 z)) (thin 8 (thin 4 z))) (thin 16 (thin 8 (thin 4 z))))
  chain-is = record {
    holds = λ F b hl₀ hl hk₀ hk hh. filled {Z = calm4 F} (chain_law F) hh (holds-back 4 (omega arith) s₄ hl hl₀)
        (holds-behind 3 (b + 61) (b + 64) (omega arith)
        (holds_eq (calm4_at F)
        (holds-and (holds-and (holds-and (newest hk hk₀ 3 (omega arith)) (place hk hk₀ 2 1 (omega arith) s₁)) (place hk hk₀ 1 2 (omega arith) s₂)) (place hk hk₀ 0 3 (omega arith) s₃))));
  }
