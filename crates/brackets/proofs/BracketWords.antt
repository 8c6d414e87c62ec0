-- Two words of edges in a row, and the word that starts between them: the edges some ticks behind u, for the 64 ticks u from b+23 on.
use Prim.Native.Nat.{ℕ, ◌+◌, ◌≤◌}
use native.Mathlib.Omega.{arith}
use mathlib.Core.Path.{◌≡◌, subst}
use mathlib.Core.Bool.{Bool}
use Rattle.plane.specs.Words.{Holds, Slid}
use Rattle.plane.proofs.PlaneLaws.{holds_ahead}

-- d ticks behind u is r ticks on from the older word
pub behind : {E : ℕ → Bool} (b d r : ℕ) {e e₁ x : ℕ} → 128 + r ≡ 23 + d → r ≤ 64 → Slid e₁ e r x → Holds E (b + 128) e₁ → Holds E (b + 192) e
    → Holds (λ u. E (u + d)) (b + 23) x
behind {E} b d r {e} {e₁} {x} z l s h₁ h =
    let q : b + 128 + r ≡ b + 23 + d = omega (arith, z) in
    holds_ahead d (b + 23)
    (subst (λ (k : ℕ). Holds E k x) q
    (s.holds E (b + 128) h₁ (λ m n. let y : b + 192 ≡ b + 128 + 64 = omega arith in (subst (λ (k : ℕ). Holds E k e) y h).at m (omega arith))))
