-- The replies that are due at the end of a block are handed out one by one.
use Prim.Native.Nat.{ℕ, ◌-◌}
use mathlib.Core.Path.{◌≡◌, refl, ap, ◌∙◌}
use mathlib.Core.Bool.{false}
use mathlib.Core.List.{List}
use lib.ListN.{length, get_or}
use Rattle.rules.specs.declared.Place.{Place}
use Rattle.rules.specs.declared.Counts.{Counts}
use Rattle.places.specs.Four.{Machine}
use Rattle.places.specs.Places.{idle}
use Rattle.handing.specs.Post.{due_slot, HandedPost}
use Rattle.marking.specs.Marks.{without_place}
use Rattle.span.specs.declared.Span.{Span}
use Rattle.blocks.specs.Steps.{none_due_lem}
use Rattle.blocks.proofs.Working.{Ending, end-over}

module _ (r t : ℕ) (recent : List ℕ) (base : ℕ) (values : List ℕ) (c : Counts) where
  -- whatever block ends with the places l, ends with the places m too
  pub record Hands (b : List ℕ) (l : List Place) (at : ℕ) (b' : List ℕ) (m : List Place) (at' : ℕ) : Type 0 where
    pub same : length b' ≡ length b
    pub size : length l ≡ 4 → length m ≡ 4
    pub ends : (m₀ : Machine) (s : Span) (at₀ : ℕ) (b₀ : List ℕ) → Ending m₀ s r t recent base values at₀ b₀ b l c at → Ending m₀ s r t recent base values at₀ b₀ b' m c at'

  pub hands_none : (b : List ℕ) (l : List Place) (at : ℕ) → Hands b l at b l at
  hands_none b l at = record { same = refl; size = λ h. h; ends = λ m₀ s at₀ b₀ h. h }

  pub hands_more : (b : List ℕ) (l : List Place) (at : ℕ) (b₁ : List ℕ) (m : List Place) (at₁ : ℕ) → Hands b l at b₁ m at₁ → none_due_lem (get_or m 0 idle) t ≡ false → (at₂ : ℕ) (b₂ : List ℕ)
      → length b₂ ≡ length b₁ → HandedPost 1 (due_slot (t - 179) (get_or m 0 idle).slot) at₁ b₁ at₂ b₂ → (m' : List Place) → m' ≡ without_place 0 m → Hands b l at b₂ m' at₂
  hands_more b l at b₁ m at₁ h due at₂ b₂ size hand m' e =
      record { same = size ∙ h.same; size = λ k. ap (length {A = Place}) e; ends = λ m₀ s at₀ b₀ k. end-over m₀ s r t recent base values at₀ b₀ b₁ m c at₁ (h.ends m₀ s at₀ b₀ k) due at₂ b₂ size hand m' e }
