-- A buffer whose first j bytes are those of F.
use Prim.Native.Nat.{ℕ, ◌+◌, ◌-◌, ◌≤◌, ◌<◌}
use native.Mathlib.Omega.{arith}
use mathlib.Core.Path.{◌≡◌, refl, sym, ap, ◌∙◌}
use mathlib.Core.Logic.{◌⊎◌, inl, inr}
use mathlib.Core.Bool.{Bool, true, false}
use mathlib.Core.List.{List}
use lib.Dec.{ltb}
use lib.ListN.{length, get_or, drop, set, length-set, length-append, length-drop, get_or-append}
use lib.Seq.{get_or-set_same, get_or-set_other, get_or-drop, get_or-append-add, ext_get_or}
use borrow.Author.Tests.{ltb-true, ltb-false}
use Rattle.rules.specs.Buffers.{over}
use Rattle.rules.proofs.Truth.{same_or}

pub record Put (F b₀ b : List ℕ) (j : ℕ) : Type 0 where
  pub size : length b ≡ length b₀
  pub new : (k : ℕ) → k < j → get_or b k 0 ≡ get_or F k 0
  pub old : (k : ℕ) → j ≤ k → get_or b k 0 ≡ get_or b₀ k 0

pub put-start : (F b : List ℕ) → Put F b b 0
put-start F b = record { size = refl; new = λ k h. absurd (omega arith); old = λ k h. refl }

pub put_next : (F b₀ b : List ℕ) (j x : ℕ) → j < length b₀ → x ≡ get_or F j 0 → Put F b₀ b j → Put F b₀ (set b j x) (j + 1)
put_next F b₀ b j x l e h =
    record {
      size = length-set b j x ∙ h.size;
      new = λ k q. go k q (same_or k j);
      old = λ k q. get_or-set_other b j k x 0 (λ z. omega arith) ∙ h.old k (omega arith);
    }
  where
    go : (k : ℕ) → k < j + 1 → (k ≡ j) ⊎ (k ≡ j → ⊥) → get_or (set b j x) k 0 ≡ get_or F k 0
    go k q (inl z) =
        ap (λ (i : ℕ). get_or (set b j x) i 0) z ∙ get_or-set_same b j x 0 (omega (arith, h.size)) ∙ e ∙ ap (λ (i : ℕ). get_or F i 0) (sym z)
    go k q (inr d) = get_or-set_other b j k x 0 d ∙ h.new k (omega arith)

pub put-end : (F b₀ b : List ℕ) (j : ℕ) → length F ≡ j → j ≤ length b₀ → Put F b₀ b j → b ≡ over F b₀
unfolding over
put-end F b₀ b j e l h =
    ext_get_or 0 b (over F b₀) (omega (arith, h.size, length-append F (drop (length F) b₀), length-drop (length F) b₀))
    (λ k q. go k (ltb k (length F)) refl)
  where
    go : (k : ℕ) (t : Bool) → ltb k (length F) ≡ t → get_or b k 0 ≡ get_or (over F b₀) k 0
    go k true z =
        let q = ltb-true k (length F) z in
        h.new k (omega (arith, q)) ∙ sym (get_or-append F (drop (length F) b₀) 0 k q)
    go k false z =
        let q = ltb-false k (length F) z in
        h.old k (omega (arith, q))
        ∙ ap (λ (i : ℕ). get_or b₀ i 0) {x = k} {y = length F + (k - length F)} (omega (arith, q))
        ∙ sym (get_or-drop (length F) b₀ (k - length F) 0)
        ∙ sym (get_or-append-add F (drop (length F) b₀) (k - length F) 0)
        ∙ ap (λ (i : ℕ). get_or (over F b₀) i 0) {x = length F + (k - length F)} {y = k} (omega (arith, q))
