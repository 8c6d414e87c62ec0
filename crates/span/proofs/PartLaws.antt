-- Parts of a word of ticks: its last ticks, and those above a tick.
use Prim.Native.Nat.{ℕ, suc, ◌+◌, ◌-◌, ◌/◌, ◌^◌, ◌≤◌, ◌<◌}
use native.Mathlib.Omega.{arith}
use mathlib.Core.Path.{◌≡◌, sym, ap, ◌∙◌}
use mathlib.Core.Bool.{false}
use mathlib.Core.Logic.{◌⊎◌, inl, inr}
use Rattle.rules.proofs.Truth.{same_or}
use Rattle.plane.specs.Words.{bit}
use Rattle.plane.proofs.BitLaws.{bit-shr, left, left-low, left-high}
use Rattle.span.specs.Spans.{TopPost, AbovePost}

-- the bits of the last r ticks of a word
pub top_law : (x r : ℕ) → 0 < r → r ≤ 64 → TopPost x r (left (64 - r) (x / 2 ^ (64 - r)))
top_law x r h l =
    let n = 64 - r in
    record {
      below = omega arith;
      clear = λ i m. left-low n (x / 2 ^ n) i (omega arith) (omega arith);
      same =
          λ i m k.
          let d = i - n in
          let z : n + d ≡ i = omega arith in
          ap (bit (left n (x / 2 ^ n))) (sym z) ∙ left-high n (x / 2 ^ n) d (omega arith) ∙ bit-shr x n d ∙ ap (bit x) z;
    }

-- the bits above bit i
pub above_law : (x i : ℕ) → i < 64 → AbovePost x i (left i (left 1 (x / 2 ^ i / 2 ^ 1)))
above_law x i l =
    let w = x / 2 ^ i / 2 ^ 1 in
    record {
      below = omega arith;
      clear = λ j m. cleared w j m (same_or j i);
      same =
          λ j m k.
          let d = j - i - 1 in
          let z : i + suc d ≡ j = omega arith in
          let y : 1 + d ≡ suc d = omega arith in
          ap (bit (left i (left 1 w))) (sym z) ∙ left-high i (left 1 w) (suc d) (omega arith) ∙ ap (bit (left 1 w)) (sym y) ∙ left-high 1 w d (omega arith) ∙ bit-shr (x / 2 ^ i) 1 d
          ∙ ap (bit (x / 2 ^ i)) y ∙ bit-shr x i (suc d) ∙ ap (bit x) z;
    }
  where
    cleared : (w j : ℕ) → j ≤ i → (j ≡ i) ⊎ (j ≡ i → ⊥) → bit (left i (left 1 w)) j ≡ false
    cleared w j m (inl e) =
        let z : i + 0 ≡ j = omega (arith, e) in
        ap (bit (left i (left 1 w))) (sym z) ∙ left-high i (left 1 w) 0 (omega arith) ∙ left-low 1 w 0 (omega arith) (omega arith)
    cleared w j m (inr d) = left-low i (left 1 w) j (omega arith) (omega arith)
