-- Parts that are put into a buffer one after the other.
use Prim.Native.Nat.{ℕ, ◌+◌, ◌≤◌, ◌<◌}
use native.Mathlib.Omega.{arith}
use mathlib.Core.Path.{◌≡◌, refl, sym, ap, ◌∙◌}
use mathlib.Core.List.{List, [], ◌++◌}
use lib.ListN.{length, take, drop, length-append, length-drop}
use lib.Seq.{length-take-le}
use Rattle.rules.specs.Buffers.{over-at}
use Rattle.rules.proofs.Buffers.{over-at-nil, over-at-next}

pub over-at-length : (l : List ℕ) (at : ℕ) (b : List ℕ) → at + length l ≤ length b → length (over-at l at b) ≡ length b
unfolding over-at
over-at-length l at b h =
    length-append (take at b ++ l) (drop (at + length l) b)
    ∙ omega (arith, length-append (take at b) l, length-take-le at b (omega arith), length-drop (at + length l) b)

-- the first i of n parts stand in the buffer; F i are their bytes
pub record Putting (F : ℕ → List ℕ) (n at : ℕ) (b₀ b : List ℕ) (i : ℕ) : Type 0 where
  pub most : i ≤ n
  pub size : length b ≡ length b₀
  pub is : b ≡ over-at (F i) at b₀

pub putting_start : (F : ℕ → List ℕ) (n at : ℕ) (b : List ℕ) → F 0 ≡ [] → Putting F n at b b 0
putting_start F n at b e = record { most = omega arith; size = refl; is = sym (over-at-nil at b) ∙ ap (λ (l : List ℕ). over-at l at b) (sym e) }

pub putting_next : (F : ℕ → List ℕ) (n at : ℕ) (b₀ b b' part : List ℕ) (i to : ℕ) → F (i + 1) ≡ F i ++ part → to ≡ at + length (F i) → to + length part ≤ length b₀ → i < n
    → b' ≡ over-at part to b → Putting F n at b₀ b i → Putting F n at b₀ b' (i + 1)
putting_next F n at b₀ b b' part i to more e room l p h =
    record {
      most = omega arith;
      size = ap length p ∙ over-at-length part to b (omega (arith, h.size)) ∙ h.size;
      is = over-at-next (F i) part b₀ b b' at to e (omega arith) h.is p ∙ ap (λ (r : List ℕ). over-at r at b₀) (sym more);
    }
