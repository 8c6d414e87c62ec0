-- The planes of a trace as it grows: what is known of a tick does not change by the ticks behind it.
-- And the zeros before the trace: tick t of the sweep is tick t+320 of the padded flags, and no edge stands before.
use Prim.Native.Nat.{ℕ, zero, suc, ◌+◌, ◌-◌, ◌/◌, ◌≤◌, ◌<◌}
use native.Mathlib.Omega.{arith}
use mathlib.Core.Path.{◌≡◌, refl, sym, ap, ap₂, ◌∙◌}
use mathlib.Core.Bool.{Bool, false, not, ◌&&◌}
use mathlib.Core.List.{List, ◌∷◌, ◌++◌, append_assoc}
use lib.Dec.{eqb}
use lib.ListN.{length, get_or, drop, replicate, length-append, length-replicate, length-drop, get_or-replicate, get_or-append}
use lib.Seq.{drop-append-le, get_or-append-add}
use Rattle.rules.specs.Settings.{standard}
use Rattle.rules.specs.Samples.{Trace, A, P, N, M, odd}
use Rattle.rules.specs.Edges.{is_edge, lead, falls, age, kind, since, age_at, kind_at, stands, edge_at}
use Rattle.rules.specs.Sentences.{lead_at}
use Rattle.rules.proofs.Locality.{kinds-at, kinds-append}
use Rattle.rules.proofs.Runs.{high-age, low_without_A, place-two}
use Rattle.rules.proofs.EdgeSentences.{kind-low}
use Rattle.edges.specs.Planes.{falls_at, calm_at, chain_of, chain_at, has_edge}
use Rattle.front.specs.Words.{padded}
use Rattle.rules.proofs.Answers.{standard_allowed}

-- ---- flags behind a list of flags

module _ (w G : List ℕ) where
  pub A-append : (j : ℕ) → j < length w → A (w ++ G) j ≡ A w j
  unfolding A
  A-append j h = ap odd (get_or-append w G 0 j h)

  pub P-append : (j : ℕ) → j < length w → P (w ++ G) j ≡ P w j
  unfolding P
  P-append j h = ap (λ (x : ℕ). odd (x / 2)) (get_or-append w G 0 j h)

  pub N-append : (j : ℕ) → j < length w → N (w ++ G) j ≡ N w j
  unfolding N
  N-append j h = ap (λ (x : ℕ). odd (x / 4)) (get_or-append w G 0 j h)

  pub M-append : (j : ℕ) → j < length w → M (w ++ G) j ≡ M w j
  unfolding M
  M-append j h = ap (λ (x : ℕ). odd (x / 8)) (get_or-append w G 0 j h)

  since-append : (j : ℕ) → j ≤ length w → since (w ++ G) j ≡ since w j ++ G
  since-append j h = drop-append-le j (0 ∷ 0 ∷ w) G (omega arith)

  since-length : (j : ℕ) → length (since w j) ≡ length w + 2 - j
  since-length j = length-drop j (0 ∷ 0 ∷ w) ∙ ap (λ (n : ℕ). n - j) (two (length w))
    where
      two : (n : ℕ) → suc (suc n) ≡ n + 2
      two n = omega arith

lead-append : (v G : List ℕ) → 3 ≤ length v → lead (v ++ G) ≡ lead v
unfolding lead
lead-append v G h = rw (get_or-append v G 0 0 (omega arith), get_or-append v G 0 1 (omega arith), get_or-append v G 0 2 (omega arith))

falls-append : (v G : List ℕ) → 5 ≤ length v → falls (v ++ G) ≡ falls v
unfolding falls
falls-append v G h =
    rw (get_or-append v G 0 1 (omega arith), get_or-append v G 0 2 (omega arith), get_or-append v G 0 3 (omega arith), get_or-append v G 0 4 (omega arith))

age-append : (a : ℕ) (v G : List ℕ) → 5 ≤ length v → age a (v ++ G) ≡ age a v
unfolding age
age-append a v G h = rw (lead-append v G (omega arith), falls-append v G h)

-- ---- planes of a trace that grows

module _ (w G : List ℕ) where
  pub lead_at-append : (j : ℕ) → j < length w → lead_at (w ++ G) j ≡ lead_at w j
  unfolding lead_at
  lead_at-append j h = ap lead (since-append w G j (omega arith)) ∙ lead-append (since w j) G (omega (arith, since-length w G j))

  falls_at-append : (j : ℕ) → j + 2 < length w → falls_at (w ++ G) j ≡ falls_at w j
  unfolding falls_at
  falls_at-append j h = ap falls (since-append w G j (omega arith)) ∙ falls-append (since w j) G (omega (arith, since-length w G j))

  pub calm_at-append : (j : ℕ) → j + 2 < length w → calm_at (w ++ G) j ≡ calm_at w j
  unfolding calm_at
  calm_at-append j h = ap₂ (λ (a b : Bool). not a && not b) (lead_at-append j (omega arith)) (falls_at-append j h)

  age-since : (a j : ℕ) → j + 2 < length w → age a (since (w ++ G) j) ≡ age a (since w j)
  age-since a j h = ap (age a) (since-append w G j (omega arith)) ∙ age-append a (since w j) G (omega (arith, since-length w G j))

  age_at-append : (j : ℕ) → j + 2 < length w → age_at (w ++ G) j ≡ age_at w j
  unfolding age_at
  age_at-append zero h = age-since 0 zero h
  age_at-append (suc j) h = ap (λ (a : ℕ). age a (since (w ++ G) (suc j))) (age_at-append j (omega arith)) ∙ age-since (age_at w j) (suc j) h

  pub chain_at-append : (j : ℕ) → j + 2 < length w → chain_at (w ++ G) j ≡ chain_at w j
  unfolding chain_at
  chain_at-append j h = ap chain_of (age_at-append j h)

  pub has_edge-append : (j : ℕ) → j + 10 ≤ length w → has_edge (w ++ G) j ≡ has_edge w j
  unfolding has_edge
  has_edge-append j h =
      ap is_edge (sym (kinds-at standard (w ++ G) j) ∙ kinds-append standard standard_allowed w G j h ∙ kinds-at standard w j)

-- ---- zeros before a trace

pub padded-length : (F : List ℕ) → length (padded F) ≡ length F + 320
unfolding padded
padded-length F = omega (arith, length-append (replicate {A = ℕ} 320 0) F, length-replicate {A = ℕ} 320 0)

pub padded-append : (F G : List ℕ) → padded (F ++ G) ≡ padded F ++ G
unfolding padded
padded-append F G = sym (append_assoc (replicate 320 0) F G)

zero_move : (n : ℕ) (X : List ℕ) → 0 ∷ (replicate n 0 ++ X) ≡ replicate n 0 ++ (0 ∷ X)
zero_move zero X = refl
zero_move (suc n) X = ap {B = List ℕ} (λ z. 0 ∷ z) (zero_move n X)

zeros_drop : (n t : ℕ) (X : List ℕ) → drop (t + n) (replicate n 0 ++ X) ≡ drop t X
zeros_drop zero t X = let z : t + 0 ≡ t = omega arith in ap (λ (k : ℕ). drop k X) z
zeros_drop (suc n) t X = let z : t + suc n ≡ suc (t + n) = omega arith in ap (λ (k : ℕ). drop k (0 ∷ (replicate n 0 ++ X))) z ∙ zeros_drop n t X

-- the window of tick t+320 of the padded flags is that of tick t
padded-since : (F : List ℕ) (t : ℕ) → since (padded F) (t + 320) ≡ since F t
unfolding padded
padded-since F t =
    ap {B = List ℕ} (λ z. drop (t + 320) (0 ∷ z)) (zero_move 320 F)
    ∙ ap {B = List ℕ} (λ z. drop (t + 320) z) (zero_move 320 (0 ∷ F))
    ∙ zeros_drop 320 t (0 ∷ 0 ∷ F)

padded-zero : (F : List ℕ) (j : ℕ) → j < 320 → get_or (padded F) j 0 ≡ 0
unfolding padded
padded-zero F j h = get_or-append (replicate 320 0) F 0 j (omega (arith, length-replicate {A = ℕ} 320 0)) ∙ get_or-replicate 320 j 0 0 h

-- before the trace video is low
padded-low : (F : List ℕ) (j : ℕ) → j < 320 → age_at (padded F) j ≡ 0
unfolding A
padded-low F j h = low_without_A (padded F) j (ap odd (place-two (padded F) j ∙ padded-zero F j h))

padded-age : (F : List ℕ) (t : ℕ) → age_at (padded F) (t + 320) ≡ age_at F t
unfolding age_at
padded-age F zero = ap₂ age (padded-low F 319 (omega arith)) (padded-since F 0)
padded-age F (suc t) =
    let z : suc t + 320 ≡ suc (t + 320) = omega arith in
    ap (age_at (padded F)) z ∙ ap₂ age (padded-age F t) (ap (since (padded F)) (sym z) ∙ padded-since F (suc t))

pub padded-edge : (F : List ℕ) (t : ℕ) → has_edge (padded F) (t + 320) ≡ is_edge (kind_at standard F t)
unfolding has_edge kind_at
padded-edge F t = ap is_edge (ap₂ (kind standard) (padded-age F t) (padded-since F t))

pub padded-none : (F : List ℕ) (j : ℕ) → j < 320 → has_edge (padded F) j ≡ false
unfolding has_edge
padded-none F j h = ap is_edge (kind-low standard (padded F) j (high-age (padded F) j ∙ ap (λ (n : ℕ). not (eqb n 0)) (padded-low F j h)))

-- an edge of the trace at t is an edge of the padded flags at t+320
pub stands-padded : (T : Trace) (t : ℕ) → stands (edge_at standard T t) ≡ has_edge (padded T.flags) (t + 320)
unfolding edge_at
stands-padded T t = ap is_edge (kinds-at standard T.flags t) ∙ sym (padded-edge T.flags t)

pub padded-M : (F : List ℕ) (t : ℕ) → M (padded F) (t + 320) ≡ M F t
unfolding M padded
padded-M F t =
    let z : t + 320 ≡ length (replicate {A = ℕ} 320 0) + t = omega (arith, length-replicate {A = ℕ} 320 0) in
    ap (λ (k : ℕ). odd (get_or (replicate 320 0 ++ F) k 0 / 8)) z ∙ ap (λ (x : ℕ). odd (x / 8)) (get_or-append-add (replicate 320 0) F t 0)
