-- Planes of fewer than 64 ticks: those of a block of 64 bytes, of which the first are the ticks' flags and the others are 0.
use Prim.Native.Nat.{ℕ, ◌+◌, ◌-◌, ◌/◌, ◌≤◌, ◌<◌}
use native.Mathlib.Omega.{arith}
use mathlib.Core.Path.{◌≡◌, refl, sym, ap, ◌∙◌}
use mathlib.Core.Logic.{⊎_elim}
use mathlib.Core.Bool.{Bool, false}
use mathlib.Core.List.{List, ◌++◌}
use lib.ListN.{length, get_or, drop, replicate, length-replicate, get_or-replicate}
use Rattle.rules.specs.Samples.{A, P, N, M, odd}
use Rattle.std.specs.List.{slice_range}
use Rattle.std.proofs.lemmas.Grind.{common_steps, elements}
use Rattle.std.proofs.lemmas.List.{get_or-append_right, get_or-drop}
use Rattle.packing.specs.declared.Planes.{Planes}
use Rattle.plane.specs.Words.{Holds, HoldsPart}
use Rattle.packing.specs.Packing.{Packed, PackedPart}
use Rattle.plane.proofs.Cases.{le_or_lt}
use Rattle.plane.proofs.BitLaws.{bit-above}

-- the first i bytes of the block are those of f from o on, the others are 0
pub record Copied (f : List ℕ) (o : ℕ) (block : List ℕ) (i : ℕ) : Type 0 where
  pub size : length block ≡ 64
  pub at : (k : ℕ) → k < i → get_or block k 0 ≡ get_or f (o + k) 0
  pub rest : (k : ℕ) → i ≤ k → k < 64 → get_or block k 0 ≡ 0

-- the r bytes of f from o on, before as many of 64 zeros as are left
module _ (f : List ℕ) (o r : ℕ) (part : List ℕ) (room : o + r ≤ length f) (few : r ≤ 64) (is : part ≡ slice_range f o (o + r)) where
  part-length : length part ≡ r
  part-length = grind (arith, common_steps)

  zero_behind : (k : ℕ) → r ≤ k → k < 64 → get_or (part ++ drop r (replicate 64 0)) k 0 ≡ 0
  zero_behind k h l =
      get_or-append_right part (drop r (replicate 64 0)) r k 0 part-length h ∙ get_or-drop r (replicate 64 0) (k - r) 0
      ∙ get_or-replicate {A = ℕ} 64 (r + (k - r)) 0 0 (omega arith)

  pub copied_part : Copied f o (part ++ drop r (replicate 64 0)) r
  copied_part = record {
    size = grind (arith, common_steps, part-length, length-replicate {A = ℕ} 64 0);
    at = λ k h. grind (arith, common_steps, elements, part-length);
    rest = zero_behind;
  }

-- a plane, whose fact of a tick is g of the tick's byte, and no fact of a byte that is 0
module _ (f : List ℕ) (o : ℕ) (block : List ℕ) (r : ℕ) (c : Copied f o block r) (F G : ℕ → Bool) (g : ℕ → Bool) (none : g 0 ≡ false)
    (f-is : (k : ℕ) → F k ≡ g (get_or f k 0)) (g-is : (k : ℕ) → G k ≡ g (get_or block k 0)) (l : r ≤ 64) where
  part : (x : ℕ) → Holds G 0 x → HoldsPart F o r x
  part x h =
      record {
        below = h.below;
        at = λ i m. let z : 0 + i ≡ i = omega arith in h.at i (omega arith) ∙ ap G z ∙ g-is i ∙ ap g (c.at i m) ∙ sym (f-is (o + i));
        rest = λ i m. ⊎_elim (λ (q : 64 ≤ i). bit-above x 64 i h.below q)
            (λ (q : i < 64). let z : 0 + i ≡ i = omega arith in h.at i q ∙ ap G z ∙ g-is i ∙ ap g (c.rest i m q) ∙ none) (le_or_lt 64 i);
      }

pub part-packed : (f : List ℕ) (o : ℕ) (block : List ℕ) (r : ℕ) (x : Planes) → r ≤ 64 → Copied f o block r → Packed block 0 x → PackedPart f o r x
unfolding A P N M
part-packed f o block r x l c h =
    record {
      a = part f o block r c (A f) (A block) odd refl (λ k. refl) (λ k. refl) l x.a h.a;
      p = part f o block r c (P f) (P block) (λ b. odd (b / 2)) refl (λ k. refl) (λ k. refl) l x.p h.p;
      n = part f o block r c (N f) (N block) (λ b. odd (b / 4)) refl (λ k. refl) (λ k. refl) l x.n h.n;
      m = part f o block r c (M f) (M block) (λ b. odd (b / 8)) refl (λ k. refl) (λ k. refl) l x.m h.m;
    }
