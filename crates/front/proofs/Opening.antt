-- Before the first tick every plane is zero, so every word is.
use Prim.Native.Nat.{ℕ, ◌+◌, ◌<◌, ◌/◌}
use native.Mathlib.Omega.{arith}
use mathlib.Core.Path.{◌≡◌, ap, ◌∙◌}
use mathlib.Core.Bool.{false}
use mathlib.Core.List.{List, [], append-nil}
use lib.ListN.{get_or, replicate}
use Rattle.rules.specs.Samples.{A, P, N, M, odd}
use Rattle.rules.specs.Edges.{since}
use Rattle.rules.specs.Sentences.{lead_at}
use Rattle.rules.proofs.Runs.{lead-A, falls-A, low_without_A, place-two}
use Rattle.rules.proofs.PastEnd.{zeros_alike}
use Rattle.edges.specs.Planes.{falls_at, calm_at, chain_of, chain_at, has_edge}
use Rattle.plane.proofs.PlaneLaws.{holds-none}
use Rattle.front.specs.Words.{padded, front_of}
use Rattle.front.proofs.Growing.{padded-none}
use Rattle.front.proofs.Advancing.{front-is}

-- ---- planes of zeros

none-at : (j : ℕ) → get_or (padded []) j 0 ≡ 0
unfolding padded
none-at j = ap (λ (l : List ℕ). get_or l j 0) (append-nil (replicate 320 0)) ∙ zeros_alike [] 320 j

no-A : (j : ℕ) → A (padded []) j ≡ false
unfolding A
no-A j = ap odd (none-at j)

no-P : (j : ℕ) → P (padded []) j ≡ false
unfolding P
no-P j = ap (λ (x : ℕ). odd (x / 2)) (none-at j)

no-N : (j : ℕ) → N (padded []) j ≡ false
unfolding N
no-N j = ap (λ (x : ℕ). odd (x / 4)) (none-at j)

no-M : (j : ℕ) → M (padded []) j ≡ false
unfolding M
no-M j = ap (λ (x : ℕ). odd (x / 8)) (none-at j)

window-A : (j : ℕ) → A (since (padded []) j) 2 ≡ false
unfolding A
window-A j = ap odd (place-two (padded []) j ∙ none-at j)

no_lead : (j : ℕ) → lead_at (padded []) j ≡ false
unfolding lead_at
no_lead j = lead-A (since (padded []) j) (window-A j)

no-calm : (j : ℕ) → calm_at (padded []) j ≡ false
unfolding calm_at falls_at
no-calm j = rw (no_lead j, falls-A (since (padded []) j) (window-A j))

no-chain : (j : ℕ) → chain_at (padded []) j ≡ false
unfolding chain_at chain_of
no-chain j = ap chain_of (low_without_A (padded []) j (window-A j))

no_edge : (j : ℕ) → j < 320 → has_edge (padded []) j ≡ false
no_edge j h = padded-none [] j h

-- ---- the words before the first tick

pub no_front : record { a = 0; a1 = 0; p = 0; p1 = 0; n = 0; n1 = 0; l = 0; l1 = 0; k = 0; k1 = 0; h = 0; h1 = 0; e = 0; e1 = 0; e2 = 0; e3 = 0; m = 0; m1 = 0; m2 = 0; m3 = 0 } ≡ front_of []
no_front =
    front-is [] (record { a = 0; a1 = 0; p = 0; p1 = 0; n = 0; n1 = 0; l = 0; l1 = 0; k = 0; k1 = 0; h = 0; h1 = 0; e = 0; e1 = 0; e2 = 0; e3 = 0; m = 0; m1 = 0; m2 = 0; m3 = 0 })
    (record {
      a = holds-none (λ i h. no-A (256 + i));
      a1 = holds-none (λ i h. no-A (192 + i));
      p = holds-none (λ i h. no-P (256 + i));
      p1 = holds-none (λ i h. no-P (192 + i));
      n = holds-none (λ i h. no-N (256 + i));
      n1 = holds-none (λ i h. no-N (192 + i));
      l = holds-none (λ i h. no_lead (254 + i));
      l1 = holds-none (λ i h. no_lead (190 + i));
      k = holds-none (λ i h. no-calm (254 + i));
      k1 = holds-none (λ i h. no-calm (190 + i));
      h = holds-none (λ i h. no-chain (254 + i));
      h1 = holds-none (λ i h. no-chain (190 + i));
      e = holds-none (λ i h. no_edge (247 + i) (omega arith));
      e1 = holds-none (λ i h. no_edge (183 + i) (omega arith));
      e2 = holds-none (λ i h. no_edge (119 + i) (omega arith));
      e3 = holds-none (λ i h. no_edge (55 + i) (omega arith));
      m = holds-none (λ i h. no-M (256 + i));
      m1 = holds-none (λ i h. no-M (192 + i));
      m2 = holds-none (λ i h. no-M (128 + i));
      m3 = holds-none (λ i h. no-M (64 + i));
    })
