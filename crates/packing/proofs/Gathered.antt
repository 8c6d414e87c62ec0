-- The four planes of 64 bytes, from what the steps of the packing ensure: for each plane the places of all 64 bits are computed and compared with
-- those that it should have, bit k of the byte of tick o+i.
use Prim.Native.Nat.{ℕ, ◌+◌, ◌*◌, ◌/◌, ◌%◌, ◌<◌}
use native.Mathlib.Omega.{arith}
use mathlib.Core.Path.{◌≡◌, refl, ap, ap₂, ◌∙◌}
use mathlib.Core.Bool.{Bool, true}
use mathlib.Core.List.{List}
use lib.Dec.{eqb}
use lib.ListN.{get_or}
use borrow.Author.Tests.{eqb-true}
use Rattle.rules.specs.Samples.{A, P, N, M}
use Rattle.plane.specs.Words.{bit, Holds}
use Rattle.packing.specs.Packing.{Reads, bytes, lows, highs, swaps, turned, nibbled, Nibbles, Low, High, Turn, Packed}
use Rattle.plane.proofs.Cases.{up_to, below}
use Rattle.plane.proofs.PlaneLaws.{holds_eq}
use Rattle.packing.proofs.FlagBits.{A-bit, P-bit, N-bit, M-bit}

-- the same source, read from k bytes further on
pub moved : (f : List ℕ) {σ : ℕ → ℕ} {x : ℕ} (o k : ℕ) → Reads (bytes f (o + k)) σ x → Reads (bytes f o) (λ i. 8 * k + σ i) x
unfolding bytes
moved f {σ} {x} o k p = record {
  below = p.below;
  at = λ i h. p.at i h
      ∙ (let d : o + k + σ i / 8 ≡ o + (8 * k + σ i) / 8 = omega arith in
      let m : σ i % 8 ≡ (8 * k + σ i) % 8 = omega arith in
      ap₂ (λ (j r : ℕ). bit (get_or f j 0) r) d m);
}

-- where each of the four words gets its bits
abbrev w₀ : ℕ → ℕ
w₀ = nibbled

abbrev w₁ : ℕ → ℕ
w₁ i = 64 + nibbled i

abbrev w₂ : ℕ → ℕ
w₂ i = 128 + nibbled i

abbrev w₃ : ℕ → ℕ
w₃ i = 192 + nibbled i

-- bit i comes from bit k of byte i
goal : ℕ → (ℕ → ℕ) → ℕ → Bool
goal k σ i = eqb (σ i) (8 * i + k)

a-places : up_to (goal 0 (turned (lows 1 0x5555555555555555 (lows 2 0x3333333333333333 w₀ w₂) (lows 2 0x3333333333333333 w₁ w₃)))) 64 ≡ true
unfolding goal turned swaps lows highs nibbled bit
a-places = refl

p-places : up_to (goal 1 (turned (highs 1 0x5555555555555555 (lows 2 0x3333333333333333 w₀ w₂) (lows 2 0x3333333333333333 w₁ w₃)))) 64 ≡ true
unfolding goal turned swaps lows highs nibbled bit
p-places = refl

n-places : up_to (goal 2 (turned (lows 1 0x5555555555555555 (highs 2 0x3333333333333333 w₀ w₂) (highs 2 0x3333333333333333 w₁ w₃)))) 64 ≡ true
unfolding goal turned swaps lows highs nibbled bit
n-places = refl

m-places : up_to (goal 3 (turned (highs 1 0x5555555555555555 (highs 2 0x3333333333333333 w₀ w₂) (highs 2 0x3333333333333333 w₁ w₃)))) 64 ≡ true
unfolding goal turned swaps lows highs nibbled bit
m-places = refl

-- then the word holds the bits k of the bytes
plane : (f : List ℕ) (o k : ℕ) (σ : ℕ → ℕ) (y : ℕ) → k < 8 → up_to (goal k σ) 64 ≡ true → Reads (bytes f o) σ y → Holds (λ t. bit (get_or f t 0) k) o y
unfolding goal bytes
plane f o k σ y l e p = record {
  below = p.below;
  at = λ i h. p.at i h ∙ ap (bytes f o) (eqb-true (σ i) (8 * i + k) (below (goal k σ) 64 e i h))
      ∙ (let d : o + (8 * i + k) / 8 ≡ o + i = omega arith in
      let m : (8 * i + k) % 8 ≡ k = omega arith in
      ap₂ (λ (j r : ℕ). bit (get_or f j 0) r) d m);
}

-- each plane from the words of the steps before the last but one
module _ {f : List ℕ} {o y₀ y₁ y₂ y₃ z₀ z₁ z₂ z₃ : ℕ} (n₀ : Nibbles f o y₀) (n₁ : Nibbles f (o + 8) y₁) (n₂ : Nibbles f (o + 16) y₂) (n₃ : Nibbles f (o + 24) y₃)
    (l₀ : Low 2 0x3333333333333333 y₀ y₂ z₀) (h₂ : High 2 0x3333333333333333 y₀ y₂ z₂)
    (l₁ : Low 2 0x3333333333333333 y₁ y₃ z₁) (h₃ : High 2 0x3333333333333333 y₁ y₃ z₃) where
  v₁ : Reads (bytes f o) w₁ y₁
  v₁ = moved f o 8 n₁.reads

  v₂ : Reads (bytes f o) w₂ y₂
  v₂ = moved f o 16 n₂.reads

  v₃ : Reads (bytes f o) w₃ y₃
  v₃ = moved f o 24 n₃.reads

  a-holds : {x r : ℕ} → Low 1 0x5555555555555555 z₀ z₁ x → Turn x r → Holds (A f) o r
  a-holds {r = r} l t =
      holds_eq (A-bit f)
      (plane f o 0 _ r (omega arith) a-places (t.reads _ _ (l.reads _ _ _ (l₀.reads _ _ _ n₀.reads v₂) (l₁.reads _ _ _ v₁ v₃))))

  p-holds : {x r : ℕ} → High 1 0x5555555555555555 z₀ z₁ x → Turn x r → Holds (P f) o r
  p-holds {r = r} l t =
      holds_eq (P-bit f)
      (plane f o 1 _ r (omega arith) p-places (t.reads _ _ (l.reads _ _ _ (l₀.reads _ _ _ n₀.reads v₂) (l₁.reads _ _ _ v₁ v₃))))

  n-holds : {x r : ℕ} → Low 1 0x5555555555555555 z₂ z₃ x → Turn x r → Holds (N f) o r
  n-holds {r = r} l t =
      holds_eq (N-bit f)
      (plane f o 2 _ r (omega arith) n-places (t.reads _ _ (l.reads _ _ _ (h₂.reads _ _ _ n₀.reads v₂) (h₃.reads _ _ _ v₁ v₃))))

  m-holds : {x r : ℕ} → High 1 0x5555555555555555 z₂ z₃ x → Turn x r → Holds (M f) o r
  m-holds {r = r} l t =
      holds_eq (M-bit f)
      (plane f o 3 _ r (omega arith) m-places (t.reads _ _ (l.reads _ _ _ (h₂.reads _ _ _ n₀.reads v₂) (h₃.reads _ _ _ v₁ v₃))))

  pub packed-is : {x₀ x₁ x₂ x₃ a p n m : ℕ} → Low 1 0x5555555555555555 z₀ z₁ x₀ → High 1 0x5555555555555555 z₀ z₁ x₁
      → Low 1 0x5555555555555555 z₂ z₃ x₂ → High 1 0x5555555555555555 z₂ z₃ x₃ → Turn x₀ a → Turn x₁ p → Turn x₂ n → Turn x₃ m
      → Packed f o (record { a = a; p = p; n = n; m = m })
  packed-is l₀ l₁ l₂ l₃ ta tp tn tm = record { a = a-holds l₀ ta; p = p-holds l₁ tp; n = n-holds l₂ tn; m = m-holds l₃ tm }
