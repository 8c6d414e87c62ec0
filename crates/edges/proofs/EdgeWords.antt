-- The edges of a trace by words. The rule of an edge, written out in leads and trail shapes of the tick and the seven after it, is an equation between
-- truth values; with the laws of runs it becomes one of leads, calm ticks and the chain, and each of these is a word.
use Prim.Native.Nat.{ℕ, suc, ◌+◌, ◌-◌, ◌%◌, ◌≤◌}
use native.Mathlib.Omega.{arith}
use native.Mathlib.Nat.{add-zero}
use native.Mathlib.Numerals.{add-one, add-two, add-three, add-four, add_five, add_six, add_seven, add_eight}
use mathlib.Core.Path.{◌≡◌, refl, sym, ap, ◌∙◌, subst}
use mathlib.Core.Bool.{Bool, true, false, not, ◌&&◌, ◌||◌, cond}
use mathlib.Core.List.{List, [], ◌∷◌}
use lib.Bits.{bit_and, bit_or}
use lib.Dec.{eqb, ltb}
use lib.ListN.{drop}
use lib.Seq.{drop-drop}
use borrow.Author.Tests.{eqb-true, le-ltb}
use Rattle.rules.specs.Samples.{A, P}
use Rattle.rules.specs.Settings.{standard}
use Rattle.rules.specs.Edges.{no_edge, actual, pseudo, extra, is_edge, lead, falls, trail_within, goes_on, no_trail_lem, in_run, kind, since, age_at, kind_at}
use Rattle.rules.specs.Sentences.{lead_at}
use Rattle.rules.proofs.Truth.{impossible}
use Rattle.plane.specs.Words.{Holds, Slid}
use Rattle.edges.specs.Planes.{falls_at, calm_at, chain_of, chain_at, has_edge}
use Rattle.edges.specs.Detection.{NoTrail, Long, Edges}
use Rattle.plane.proofs.PlaneLaws.{inv, holds-and, holds-or, holds_not, holds_eq, holds-behind, place, newest}
use Rattle.edges.proofs.RunLaws as run
use Rattle.edges.proofs.RunLaws.{ends, ends_are, edge_bools, chain_small}
use Rattle.edges.proofs.ChainWords.{age-first, age-step}

-- ---- the rule, as truth values

-- whether a kind is an edge
is-edge : (l tw z ps ex : Bool)
    → is_edge (cond l (cond tw no_edge actual) (cond z no_edge (cond ps pseudo (cond ex extra no_edge)))) ≡ cond l (not tw) (not z && (ps || ex))
is-edge true true z ps ex = refl
is-edge true false z ps ex = refl
is-edge false tw true ps ex = refl
is-edge false tw false true ex = refl
is-edge false tw false false true = refl
is-edge false tw false false false = refl

-- calm, by what the tick looks at
abbrev calm_w : List ℕ → Bool
calm_w v = not (lead v) && not (falls v)

-- the rule at a tick that looks at v, where the seven ticks after look at v₁ to v₇
rule : (a : ℕ) (v v₁ v₂ v₃ v₄ v₅ v₆ v₇ : List ℕ) → drop 1 v ≡ v₁ → drop 1 v₁ ≡ v₂ → drop 1 v₂ ≡ v₃ → drop 3 v ≡ v₃ → drop 4 v ≡ v₄
    → drop 1 v₃ ≡ v₄ → drop 1 v₄ ≡ v₅ → drop 1 v₅ ≡ v₆ → drop 1 v₆ ≡ v₇
    → is_edge (kind standard a v)
    ≡ cond (lead v) (not (falls v₁ || false)) (not (eqb a 0) && (((calm_w v₁ && (calm_w v₂ && (calm_w v₃ && true))) && not (lead v₄) && falls v₄ && ltb 5 (a + 3))
    || (chain_of a && (calm_w v₁ && (calm_w v₂ && (calm_w v₃ && true)))
    && (lead v₄ || (not (falls v₄) && (lead v₅ || (not (falls v₅) && (lead v₆ || (not (falls v₆) && (lead v₇ || (not (falls v₇) && true)))))))))))
unfolding kind in_run trail_within goes_on no_trail_lem chain_of
rule a v v₁ v₂ v₃ v₄ v₅ v₆ v₇ e₁ e₂ e₃ e₃₀ e₄₀ e₄ e₅ e₆ e₇ =
    is-edge (lead v) (trail_within 1 v) (eqb a 0) (goes_on 3 v && not (lead (drop 4 v)) && falls (drop 4 v) && ltb 5 (a + 3))
    (ltb 1 a && eqb (a % 4) 1 && goes_on 3 v && no_trail_lem 4 (drop 3 v))
    ∙ cc

-- ---- no two leads in a row

lead-apart : (a₀ a₁ a₂ a₃ p₁ p₂ p₃ : Bool) → a₂ && (not a₁ || (a₀ && a₁ && not p₁ && p₂)) ≡ true → a₃ && (not a₂ || (a₁ && a₂ && not p₂ && p₃)) ≡ false
lead-apart a₀ a₁ a₂ false p₁ p₂ p₃ e = refl
lead-apart a₀ a₁ false true p₁ p₂ p₃ e = absurd (impossible (sym e))
lead-apart a₀ false true true p₁ p₂ p₃ e = refl
lead-apart a₀ true true true p₁ true p₃ e = refl
lead-apart true true true true true false p₃ e = absurd (impossible (sym e))
lead-apart true true true true false false p₃ e = absurd (impossible (sym e))
lead-apart false true true true p₁ false p₃ e = absurd (impossible (sym e))

two-leads : (v : List ℕ) → lead v ≡ true → lead (drop 1 v) ≡ false
unfolding lead A P
two-leads [] e = refl
two-leads (x ∷ v) e = lead-apart (A (x ∷ v) 0) (A v 0) (A v 1) (A v 2) (P v 0) (P v 1) (P v 2) e

-- ---- the edge at y+1, by planes

-- a plane d ticks after the tick before the edge's
ahead : {G : ℕ → Bool} {b now before x : ℕ} → Holds G (b + 64) now → Holds G b before → (d : ℕ) → d ≤ 8 → Slid before now (64 - (8 - d)) x
    → Holds (λ t. G (t + d)) (b + 56) x
ahead {G} {b} {now} {before} {x} p q d g s =
    let e : b + (64 - (8 - d) - d) ≡ b + 56 = omega arith in
    subst (λ (n : ℕ). Holds (λ t. G (t + d)) n x) e (place p q d (8 - d) (omega arith) s)

module _ (F : List ℕ) where
  one-drop : (t : ℕ) → drop 1 (since F t) ≡ since F (suc t)
  one-drop t = drop-drop 1 t (0 ∷ 0 ∷ F) ∙ ap (since F) (add-one t)

  -- the rule of the edge at x
  pub edge_rule : (x : ℕ) → has_edge F x
      ≡ cond (lead_at F x) (not (falls_at F (suc x) || false)) (not (eqb (age_at F x) 0)
      && (((calm_at F (suc x) && (calm_at F (suc (suc x)) && (calm_at F (suc (suc (suc x))) && true))) && not (lead_at F (suc (suc (suc (suc x)))))
      && falls_at F (suc (suc (suc (suc x)))) && ltb 5 (age_at F x + 3))
      || (chain_of (age_at F x) && (calm_at F (suc x) && (calm_at F (suc (suc x)) && (calm_at F (suc (suc (suc x))) && true)))
      && (lead_at F (suc (suc (suc (suc x)))) || (not (falls_at F (suc (suc (suc (suc x)))))
      && (lead_at F (suc (suc (suc (suc (suc x))))) || (not (falls_at F (suc (suc (suc (suc (suc x))))))
      && (lead_at F (suc (suc (suc (suc (suc (suc x)))))) || (not (falls_at F (suc (suc (suc (suc (suc (suc x)))))))
      && (lead_at F (suc (suc (suc (suc (suc (suc (suc x))))))) || (not (falls_at F (suc (suc (suc (suc (suc (suc (suc x)))))))) && true)))))))))))
  unfolding has_edge kind_at lead_at falls_at calm_at
  edge_rule x =
      rule (age_at F x) (since F x) (since F (suc x)) (since F (suc (suc x))) (since F (suc (suc (suc x)))) (since F (suc (suc (suc (suc x)))))
      (since F (suc (suc (suc (suc (suc x)))))) (since F (suc (suc (suc (suc (suc (suc x))))))) (since F (suc (suc (suc (suc (suc (suc (suc x))))))))
      (one-drop x) (one-drop (suc x)) (one-drop (suc (suc x)))
      (drop-drop 3 x (0 ∷ 0 ∷ F) ∙ ap (since F) (add-three x)) (drop-drop 4 x (0 ∷ 0 ∷ F) ∙ ap (since F) (add-four x))
      (one-drop (suc (suc (suc x)))) (one-drop (suc (suc (suc (suc x))))) (one-drop (suc (suc (suc (suc (suc x)))))) (one-drop (suc (suc (suc (suc (suc (suc x)))))))

  abbrev lead-one : (t : ℕ) → eqb (age_at F t) 1 ≡ lead_at F t
  lead-one = run.lead-one (lead_at F) (falls_at F) (age_at F) (age-first F) (age-step F)

  apart : (x : ℕ) → lead_at F x ≡ true → lead_at F (suc x) ≡ false
  unfolding lead_at
  apart x e = ap lead (sym (one-drop x)) ∙ two-leads (since F x) e

  lead-no-chain : (x : ℕ) → lead_at F x ≡ true → chain_of (age_at F x) ≡ false
  lead-no-chain x e = let h : age_at F x ≡ 1 = eqb-true (age_at F x) 1 (lead-one x ∙ e) in chain_small (age_at F x) (omega arith)

  lead-not-calm : (x : ℕ) → lead_at F x ≡ true → calm_at F x ≡ false
  unfolding calm_at
  lead-not-calm x e = ap (λ (b : Bool). not b && not (falls_at F x)) e

  idle-no-chain : (x : ℕ) → eqb (age_at F x) 0 ≡ true → chain_of (age_at F x) ≡ false
  idle-no-chain x e = let h : age_at F x ≡ 0 = eqb-true (age_at F x) 0 e in chain_small (age_at F x) (omega arith)

  idle-not-long : (x : ℕ) → eqb (age_at F x) 0 ≡ true → ltb 5 (age_at F x + 3) ≡ false
  idle-not-long x e = let h : age_at F x ≡ 0 = eqb-true (age_at F x) 0 e in le-ltb 5 (age_at F x + 3) (omega arith)

  -- the same by leads, calm ticks and the chain
  edge_planes : (y : ℕ)
      → (lead_at F (suc y) && calm_at F (suc (suc y)))
      || ((calm_at F (suc (suc y)) && calm_at F (suc (suc (suc y))) && calm_at F (suc (suc (suc (suc y)))))
      && ((chain_at F (suc y)
      && ends (lead_at F (suc (suc (suc (suc (suc y)))))) (calm_at F (suc (suc (suc (suc (suc y))))))
      (lead_at F (suc (suc (suc (suc (suc (suc y))))))) (calm_at F (suc (suc (suc (suc (suc (suc y)))))))
      (lead_at F (suc (suc (suc (suc (suc (suc (suc y)))))))) (calm_at F (suc (suc (suc (suc (suc (suc (suc y))))))))
      (lead_at F (suc (suc (suc (suc (suc (suc (suc (suc y))))))))) (calm_at F (suc (suc (suc (suc (suc (suc (suc (suc y))))))))))
      || ((not (calm_at F (suc (suc (suc (suc (suc y)))))) && not (lead_at F (suc (suc (suc (suc (suc y)))))))
      && ((calm_at F (suc y) && calm_at F y) && (chain_at F (suc y) || chain_at F (suc (suc y)) || chain_at F (suc (suc (suc y))) || chain_at F (suc (suc (suc (suc y)))))))))
      ≡ has_edge F (suc y)
  unfolding calm_at chain_at
  edge_planes y =
      edge_bools (lead_at F (suc y)) (lead_at F (suc (suc y))) (falls_at F (suc (suc y))) (calm_at F (suc (suc (suc y)))) (calm_at F (suc (suc (suc (suc y)))))
      (lead_at F (suc (suc (suc (suc (suc y)))))) (falls_at F (suc (suc (suc (suc (suc y))))))
      (ends (lead_at F (suc (suc (suc (suc (suc y)))))) (calm_at F (suc (suc (suc (suc (suc y))))))
      (lead_at F (suc (suc (suc (suc (suc (suc y))))))) (calm_at F (suc (suc (suc (suc (suc (suc y)))))))
      (lead_at F (suc (suc (suc (suc (suc (suc (suc y)))))))) (calm_at F (suc (suc (suc (suc (suc (suc (suc y))))))))
      (lead_at F (suc (suc (suc (suc (suc (suc (suc (suc y))))))))) (calm_at F (suc (suc (suc (suc (suc (suc (suc (suc y))))))))))
      (chain_of (age_at F (suc y))) (calm_at F (suc y)) (calm_at F y) (run.chains (age_at F) y) (eqb (age_at F (suc y)) 0) (ltb 5 (age_at F (suc y) + 3))
      (apart (suc y)) (lead-no-chain (suc y)) (lead-not-calm (suc y))
      (run.long-run (lead_at F) (falls_at F) (age_at F) (age-first F) (age-step F) y)
      (idle-no-chain (suc y)) (idle-not-long (suc y))
      ∙ cc (
        edge_rule (suc y),
        ends_are (lead_at F (suc (suc (suc (suc (suc y)))))) (falls_at F (suc (suc (suc (suc (suc y))))))
            (lead_at F (suc (suc (suc (suc (suc (suc y))))))) (falls_at F (suc (suc (suc (suc (suc (suc y)))))))
            (lead_at F (suc (suc (suc (suc (suc (suc (suc y)))))))) (falls_at F (suc (suc (suc (suc (suc (suc (suc y))))))))
            (lead_at F (suc (suc (suc (suc (suc (suc (suc (suc y))))))))) (falls_at F (suc (suc (suc (suc (suc (suc (suc (suc y))))))))),
      )

  edge_at : (y : ℕ)
      → (lead_at F (y + 1) && calm_at F (y + 2))
      || ((calm_at F (y + 2) && calm_at F (y + 3) && calm_at F (y + 4))
      && ((chain_at F (y + 1)
      && (lead_at F (y + 5) || (calm_at F (y + 5) && (lead_at F (y + 6) || (calm_at F (y + 6) && (lead_at F (y + 7) || (calm_at F (y + 7) && (lead_at F (y + 8) || calm_at F (y + 8)))))))))
      || ((not (calm_at F (y + 5)) && not (lead_at F (y + 5)))
      && ((calm_at F (y + 1) && calm_at F (y + 0)) && (chain_at F (y + 1) || chain_at F (y + 2) || chain_at F (y + 3) || chain_at F (y + 4))))))
      ≡ has_edge F (y + 1)
  edge_at y = rw (add-zero, add-one, add-two, add-three, add-four, add_five, add_six, add_seven, add_eight) (edge_planes y)

-- ---- the words, from those that start so many ticks before

module _ {l l₀ k k₀ l₁ l₂ l₃ k₁ k₂ k₃ : ℕ} (sl₁ : Slid l₀ l 63 l₁) (sk₁ : Slid k₀ k 63 k₁) (sl₂ : Slid l₀ l 62 l₂) (sk₂ : Slid k₀ k 62 k₂) (sl₃ : Slid l₀ l 61 l₃) (sk₃ : Slid k₀ k 61 k₃) where
  pub untrailed_are : NoTrail l l₀ k k₀ (bit_or l₃ (bit_and k₃ (bit_or l₂ (bit_and k₂ (bit_or l₁ (bit_and k₁ (bit_or l k)))))))
  untrailed_are = record {
    holds = λ F b hl₀ hl hk₀ hk.
        holds-or (ahead hl hl₀ 5 (omega arith) sl₃) (holds-and (ahead hk hk₀ 5 (omega arith) sk₃)
        (holds-or (ahead hl hl₀ 6 (omega arith) sl₂) (holds-and (ahead hk hk₀ 6 (omega arith) sk₂)
        (holds-or (ahead hl hl₀ 7 (omega arith) sl₁) (holds-and (ahead hk hk₀ 7 (omega arith) sk₁)
        (holds-or (newest hl hl₀ 8 (omega arith)) (newest hk hk₀ 8 (omega arith))))))));
  }

module _ {k k₀ h h₀ k₇ k₈ h₇ h₆ h₅ h₄ : ℕ} (sk₇ : Slid k₀ k 57 k₇) (sk₈ : Slid k₀ k 56 k₈) (sh₇ : Slid h₀ h 57 h₇) (sh₆ : Slid h₀ h 58 h₆) (sh₅ : Slid h₀ h 59 h₅) (sh₄ : Slid h₀ h 60 h₄) where
  pub drawn_out_are : Long k k₀ h h₀ (bit_and (bit_and k₇ k₈) (bit_or (bit_or (bit_or h₇ h₆) h₅) h₄))
  drawn_out_are = record {
    holds = λ F b hk₀ hk hh₀ hh.
        holds-and (holds-and (ahead hk hk₀ 1 (omega arith) sk₇) (ahead hk hk₀ 0 (omega arith) sk₈))
        (holds-or (holds-or (holds-or (ahead hh hh₀ 1 (omega arith) sh₇) (ahead hh hh₀ 2 (omega arith) sh₆)) (ahead hh hh₀ 3 (omega arith) sh₅)) (ahead hh hh₀ 4 (omega arith) sh₄));
  }

-- leads, calm ticks and the chain of b to b+127 give the edges of b+57 to b+120
module _ {l l₀ k k₀ h h₀ u d k₆ k₃ l₃ k₅ k₄ l₇ h₇ : ℕ} (su : NoTrail l l₀ k k₀ u) (sd : Long k k₀ h h₀ d)
    (sk₆ : Slid k₀ k 58 k₆) (sk₃ : Slid k₀ k 61 k₃) (sl₃ : Slid l₀ l 61 l₃) (sk₅ : Slid k₀ k 59 k₅) (sk₄ : Slid k₀ k 60 k₄) (sl₇ : Slid l₀ l 57 l₇) (sh₇ : Slid h₀ h 57 h₇) where
  pub edges_are : Edges l l₀ k k₀ h h₀ (bit_or (bit_and l₇ k₆) (bit_and (bit_and (bit_and k₆ k₅) k₄) (bit_or (bit_and h₇ u) (bit_and (bit_and (inv k₃) (inv l₃)) d))))
  edges_are = record {
    holds = λ F b hl₀ hl hk₀ hk hh₀ hh.
        holds-behind 1 (b + 56) (b + 57) (omega arith)
        (holds_eq (edge_at F)
        (holds-or (holds-and (ahead hl hl₀ 1 (omega arith) sl₇) (ahead hk hk₀ 2 (omega arith) sk₆))
        (holds-and (holds-and (holds-and (ahead hk hk₀ 2 (omega arith) sk₆) (ahead hk hk₀ 3 (omega arith) sk₅)) (ahead hk hk₀ 4 (omega arith) sk₄))
        (holds-or (holds-and (ahead hh hh₀ 1 (omega arith) sh₇) (su.holds F b hl₀ hl hk₀ hk))
        (holds-and (holds-and (holds_not (ahead hk hk₀ 5 (omega arith) sk₃)) (holds_not (ahead hl hl₀ 5 (omega arith) sl₃))) (sd.holds F b hk₀ hk hh₀ hh))))));
  }
