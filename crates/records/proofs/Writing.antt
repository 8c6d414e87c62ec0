-- Bytes written over a buffer one after the other make up the record.
use Prim.Native.Nat.{ℕ, ◌+◌, ◌/◌, ◌%◌, ◌≤◌}
use native.Mathlib.Omega.{arith}
use mathlib.Core.Path.{◌≡◌, ap, ap₂, refl, ◌∙◌}
use mathlib.Core.List.{List, [], ◌∷◌, ◌++◌}
use lib.ListN.{length}
use lib.Ieee.{binary64, to_bits}
use Rattle.rules.specs.declared.Reply.{Reply}
use Rattle.rules.specs.Replies.{level}
use Rattle.rules.specs.Records.{bytes, range_of, flags_of, confidence, record_of, record_size}
use Rattle.rules.specs.Buffers.{over-at}
use Rattle.rules.proofs.Buffers.{over-at-next}

-- two bytes of a number
pub two_bytes : (x : ℕ) → bytes 2 (x % 65536) ≡ bytes 2 x
unfolding bytes
two_bytes x =
    let h : x % 65536 / 256 % 256 ≡ x / 256 % 256 = omega arith in
    let k : x % 65536 / 1 % 256 ≡ x / 1 % 256 = omega arith in
    ap₂ (λ (y z : ℕ). y ∷ z ∷ []) h k

-- other bytes that are the same
same-over : (l k b b' : List ℕ) (at : ℕ) → l ≡ k → b' ≡ over-at l at b → b' ≡ over-at k at b
same-over l k b b' at e p = p ∙ ap (λ (x : List ℕ). over-at x at b) e

module _ (r : Reply) (l₁ l₂ l₃ l₄ l₅ l₆ l₇ : List ℕ) where
  -- the bytes of a record's seven fields
  pub record Fields : Type 0 where
    pub range-is : l₁ ≡ bytes 2 (range_of r.f1).0
    pub code_is : l₂ ≡ bytes 2 r.word.code
    pub sure_is : l₃ ≡ bytes 2 (confidence r.word.unsure)
    pub flags-is : l₄ ≡ bytes 1 (flags_of r.marks r.reference.estimate)
    pub count_is : l₅ ≡ bytes 1 r.reference.n
    pub sum_is : l₆ ≡ bytes 2 r.reference.s
    pub bits_is : l₇ ≡ bytes 8 (to_bits binary64 (level r.reference.estimate))

  -- written one after the other
  pub written : Fields → (at : ℕ) (b : List ℕ) → at + record_size ≤ length b → (b₁ b₂ b₃ b₄ b₅ b₆ b₇ : List ℕ)
      → b₁ ≡ over-at l₁ at b → b₂ ≡ over-at l₂ (at + 2) b₁ → b₃ ≡ over-at l₃ (at + 4) b₂ → b₄ ≡ over-at l₄ (at + 6) b₃ → b₅ ≡ over-at l₅ (at + 7) b₄
      → b₆ ≡ over-at l₆ (at + 8) b₅ → b₇ ≡ over-at l₇ (at + 10) b₆ → b₇ ≡ over-at (record_of r) at b
  unfolding bytes record_of
  written g at b h b₁ b₂ b₃ b₄ b₅ b₆ b₇ p₁ p₂ p₃ p₄ p₅ p₆ p₇ =
      let k₁ = bytes 2 (range_of r.f1).0 in
      let k₂ = k₁ ++ bytes 2 r.word.code in
      let k₃ = k₂ ++ bytes 2 (confidence r.word.unsure) in
      let k₄ = k₃ ++ bytes 1 (flags_of r.marks r.reference.estimate) in
      let k₅ = k₄ ++ bytes 1 r.reference.n in
      let k₆ = k₅ ++ bytes 2 r.reference.s in
      let q₁ = same-over l₁ k₁ b b₁ at g.range-is p₁ in
      let q₂ = over-at-next k₁ _ b b₁ b₂ at (at + 2) refl (omega arith) q₁ (same-over l₂ _ b₁ b₂ (at + 2) g.code_is p₂) in
      let q₃ = over-at-next k₂ _ b b₂ b₃ at (at + 4) refl (omega arith) q₂ (same-over l₃ _ b₂ b₃ (at + 4) g.sure_is p₃) in
      let q₄ = over-at-next k₃ _ b b₃ b₄ at (at + 6) refl (omega arith) q₃ (same-over l₄ _ b₃ b₄ (at + 6) g.flags-is p₄) in
      let q₅ = over-at-next k₄ _ b b₄ b₅ at (at + 7) refl (omega arith) q₄ (same-over l₅ _ b₄ b₅ (at + 7) g.count_is p₅) in
      let q₆ = over-at-next k₅ _ b b₅ b₆ at (at + 8) refl (omega arith) q₅ (same-over l₆ _ b₅ b₆ (at + 8) g.sum_is p₆) in
      over-at-next k₆ _ b b₆ b₇ at (at + 10) refl (omega arith) q₆ (same-over l₇ _ b₆ b₇ (at + 10) g.bits_is p₇)
