-- Ages, the chain of ticks s+4j and the edges of a run, from leads and trail shapes alone: L and F say at each tick whether it is one.
-- Four calm ticks raise a run's age by four or leave video low; of four ages in a row from 2 on one is in the chain, so that the chain tells a long run
-- from a short one. The edge at a tick is then an equation between truth values.
use Prim.Native.Nat.{ℕ, zero, suc, ◌+◌, ◌-◌, ◌%◌, ◌≤◌, ◌<◌}
use native.Mathlib.Omega.{arith}
use native.Mathlib.Nat.{add-mod_right}
use native.Mathlib.Numerals.{add-four}
use mathlib.Core.Path.{◌≡◌, refl, sym, ap, ap₂, ◌∙◌, subst}
use mathlib.Core.Bool.{Bool, true, false, not, ◌&&◌, ◌||◌, cond}
use mathlib.Core.Logic.{◌⊎◌, inl, inr, ⊎_elim}
use lib.Dec.{eqb, ltb}
use borrow.Author.Tests.{lt-ltb, le-ltb, ne_eqb, eqb-true}
use Rattle.rules.proofs.Truth.{impossible}
use Rattle.edges.specs.Planes.{chain_of}
use Rattle.plane.proofs.Cases.{le_or_lt, and_false, is_true}

-- ---- one tick

-- the age at a tick: l says lead, f trail shape, z that the age before, a, is 0
abbrev pub next_z : Bool → Bool → Bool → ℕ → ℕ
next_z l f z a = cond l 1 (cond (z || f) 0 (suc a))

-- an age grows by one at most
le_next : (l f z : Bool) (a : ℕ) → next_z l f z a ≤ suc a
le_next true f z a = omega arith
le_next false f true a = omega arith
le_next false true false a = omega arith
le_next false false false a = omega arith

-- and is 0 or 1 at a tick that is not calm
small_next : (l f z : Bool) (a : ℕ) → not l && not f ≡ false → next_z l f z a ≤ 1
small_next true f z a e = omega arith
small_next false true true a e = omega arith
small_next false true false a e = omega arith
small_next false false z a e = absurd (impossible (cc))

-- at a calm tick a run goes on, and low video stays low
calm-next : (l f z : Bool) (a : ℕ) → eqb a 0 ≡ z → not l && not f ≡ true → ((next_z l f z a ≡ suc a) × (0 < a)) ⊎ ((next_z l f z a ≡ 0) × (a ≡ 0))
calm-next true f z a h e = absurd (impossible (cc))
calm-next false true z a h e = absurd (impossible (cc))
calm-next false false true a h e = inr (refl, eqb-true a 0 h)
calm-next false false false zero h e = absurd (impossible (cc))
calm-next false false false (suc a) h e = inl (refl, omega arith)

-- an age of 1 is a lead's
one-next : (l f z : Bool) (a : ℕ) → eqb a 0 ≡ z → eqb (next_z l f z a) 1 ≡ l
one-next true f z a h = refl
one-next false f true a h = refl
one-next false true false a h = refl
one-next false false false zero h = absurd (impossible (cc))
one-next false false false (suc a) h = ne_eqb (suc (suc a)) 1 (λ e. omega arith)

-- ---- ages as numbers

-- the chain starts at age 5
pub chain_small : (a : ℕ) → a ≤ 4 → chain_of a ≡ false
unfolding chain_of
chain_small zero h = refl
chain_small (suc zero) h = refl
chain_small (suc (suc zero)) h = refl
chain_small (suc (suc (suc zero))) h = refl
chain_small (suc (suc (suc (suc zero)))) h = refl
chain_small (suc (suc (suc (suc (suc a))))) h = absurd (omega arith)

-- four ticks on, the chain goes on from a lead or from the chain
chain-four : (a : ℕ) → 0 < a → chain_of (a + 4) ≡ eqb a 1 || chain_of a
unfolding chain_of
chain-four zero h = absurd (omega arith)
chain-four (suc zero) h = refl
chain-four (suc (suc a)) h =
    ap₂ ◌&&◌ (lt-ltb 1 (suc (suc a) + 4) (omega arith)) (ap (λ (x : ℕ). eqb x 1) (add-mod_right (suc (suc a)) 4))
    ∙ sym (ap₂ ◌||◌ (ne_eqb (suc (suc a)) 1 (λ e. omega arith)) (ap (λ (x : Bool). x && eqb (suc (suc a) % 4) 1) (lt-ltb 1 (suc (suc a)) (omega arith))))

chain_more : (b : ℕ) → chain_of (suc (suc (suc (suc (suc (suc b)))))) ≡ chain_of (suc (suc b))
chain_more b =
    ap chain_of (sym (add-four (suc (suc b)))) ∙ chain-four (suc (suc b)) (omega arith)
    ∙ ap (λ (x : Bool). x || chain_of (suc (suc b))) (ne_eqb (suc (suc b)) 1 (λ e. omega arith))

abbrev four : ℕ → Bool
four a = chain_of a || chain_of (suc a) || chain_of (suc (suc a)) || chain_of (suc (suc (suc a)))

-- of four ages in a row, from 2 on, one is in the chain
any-chain : (a : ℕ) → four (suc (suc a)) ≡ true
unfolding chain_of
any-chain zero = refl
any-chain (suc zero) = refl
any-chain (suc (suc zero)) = refl
any-chain (suc (suc (suc zero))) = refl
any-chain (suc (suc (suc (suc a)))) =
    ap₂ ◌||◌ (ap₂ ◌||◌ (ap₂ ◌||◌ (chain_more a) (chain_more (suc a))) (chain_more (suc (suc a)))) (chain_more (suc (suc (suc a)))) ∙ any-chain a

-- one of the four ticks after y is in the chain
abbrev pub chains : (ℕ → ℕ) → ℕ → Bool
chains ag y = chain_of (ag (suc y)) || chain_of (ag (suc (suc y))) || chain_of (ag (suc (suc (suc y)))) || chain_of (ag (suc (suc (suc (suc y)))))

-- ---- the run

module _ (L F : ℕ → Bool) (ag : ℕ → ℕ) (first : ag 0 ≡ cond (L 0) 1 0)
    (step : (t : ℕ) → ag (suc t) ≡ next_z (L (suc t)) (F (suc t)) (eqb (ag t) 0) (ag t)) where
  -- neither lead nor trail shape
  abbrev pub calm : ℕ → Bool
  calm t = not (L t) && not (F t)

  ag_le : (t : ℕ) → ag (suc t) ≤ suc (ag t)
  ag_le t = subst (λ (x : ℕ). x ≤ suc (ag t)) (sym (step t)) (le_next (L (suc t)) (F (suc t)) (eqb (ag t) 0) (ag t))

  ag_small : (t : ℕ) → calm (suc t) ≡ false → ag (suc t) ≤ 1
  ag_small t e = subst (λ (x : ℕ). x ≤ 1) (sym (step t)) (small_next (L (suc t)) (F (suc t)) (eqb (ag t) 0) (ag t) e)

  ag_calm : (t : ℕ) → calm (suc t) ≡ true → ((ag (suc t) ≡ suc (ag t)) × (0 < ag t)) ⊎ ((ag (suc t) ≡ 0) × (ag t ≡ 0))
  ag_calm t e =
      subst (λ (x : ℕ). ((x ≡ suc (ag t)) × (0 < ag t)) ⊎ ((x ≡ 0) × (ag t ≡ 0))) (sym (step t))
      (calm-next (L (suc t)) (F (suc t)) (eqb (ag t) 0) (ag t) refl e)

  pub lead-one : (t : ℕ) → eqb (ag t) 1 ≡ L t
  lead-one zero = ap (λ (x : ℕ). eqb x 1) first ∙ pick (L 0)
    where
      pick : (l : Bool) → eqb (cond l 1 0) 1 ≡ l
      pick true = refl
      pick false = refl
  lead-one (suc t) = ap (λ (x : ℕ). eqb x 1) (step t) ∙ one-next (L (suc t)) (F (suc t)) (eqb (ag t) 0) (ag t) refl

  -- as long as a run goes on its age counts
  pub ag_run : (t : ℕ) → calm (suc t) ≡ true → 0 < ag t → ag (suc t) ≡ suc (ag t)
  ag_run t e h =
      ⊎_elim (λ (p : (ag (suc t) ≡ suc (ag t)) × (0 < ag t)). p.0) (λ (p : (ag (suc t) ≡ 0) × (ag t ≡ 0)). absurd (omega (arith, p.1))) (ag_calm t e)

  pub ag_idle : (t : ℕ) → calm (suc t) ≡ true → ag t ≡ 0 → ag (suc t) ≡ 0
  ag_idle t e h =
      ⊎_elim (λ (p : (ag (suc t) ≡ suc (ag t)) × (0 < ag t)). absurd (omega (arith, p.1))) (λ (p : (ag (suc t) ≡ 0) × (ag t ≡ 0)). p.0) (ag_calm t e)

  module _ (t : ℕ) where
    -- over four calm ticks
    run-four : calm (suc t) ≡ true → calm (suc (suc t)) ≡ true → calm (suc (suc (suc t))) ≡ true → calm (suc (suc (suc (suc t)))) ≡ true
        → (a : ℕ) → ag t ≡ a → chain_of (ag (suc (suc (suc (suc t))))) ≡ L t || chain_of (ag t)
    run-four e₁ e₂ e₃ e₄ zero h =
        let i : ag (suc (suc (suc (suc t)))) ≡ 0 = ag_idle _ e₄ (ag_idle _ e₃ (ag_idle _ e₂ (ag_idle _ e₁ h))) in
        chain_small _ (omega arith) ∙ sym (ap₂ ◌||◌ (sym (lead-one t) ∙ ap (λ (x : ℕ). eqb x 1) h) (chain_small _ (omega arith)))
    run-four e₁ e₂ e₃ e₄ (suc a) h =
        let h₁ : ag (suc t) ≡ suc (ag t) = ag_run t e₁ (omega arith) in
        let h₂ : ag (suc (suc t)) ≡ suc (ag (suc t)) = ag_run (suc t) e₂ (omega arith) in
        let h₃ : ag (suc (suc (suc t))) ≡ suc (ag (suc (suc t))) = ag_run (suc (suc t)) e₃ (omega arith) in
        let h₄ : ag (suc (suc (suc (suc t)))) ≡ suc (ag (suc (suc (suc t)))) = ag_run (suc (suc (suc t))) e₄ (omega arith) in
        let e : ag (suc (suc (suc (suc t)))) ≡ ag t + 4 = omega arith in
        ap chain_of e ∙ chain-four (ag t) (omega arith) ∙ ap (λ (x : Bool). x || chain_of (ag t)) (lead-one t)

    pub chain-step : (c₁ c₂ c₃ c₄ : Bool) → calm (suc t) ≡ c₁ → calm (suc (suc t)) ≡ c₂ → calm (suc (suc (suc t))) ≡ c₃ → calm (suc (suc (suc (suc t)))) ≡ c₄
        → chain_of (ag (suc (suc (suc (suc t))))) ≡ (c₄ && c₃ && c₂ && c₁) && (L t || chain_of (ag t))
    chain-step c₁ c₂ c₃ false e₁ e₂ e₃ e₄ = chain_small _ (omega (arith, ag_small _ e₄))
    chain-step c₁ c₂ false true e₁ e₂ e₃ e₄ = chain_small _ (omega (arith, ag_small _ e₃, ag_le (suc (suc (suc t)))))
    chain-step c₁ false true true e₁ e₂ e₃ e₄ = chain_small _ (omega (arith, ag_small _ e₂, ag_le (suc (suc t)), ag_le (suc (suc (suc t)))))
    chain-step false true true true e₁ e₂ e₃ e₄ =
        chain_small _ (omega (arith, ag_small _ e₁, ag_le (suc t), ag_le (suc (suc t)), ag_le (suc (suc (suc t)))))
    chain-step true true true true e₁ e₂ e₃ e₄ = run-four e₁ e₂ e₃ e₄ (ag t) refl

  -- the law of the chain: a tick is in it if it and the three before are calm, and a lead or a tick of the chain stands four before
  pub chain_law : (t : ℕ)
      → chain_of (ag (suc (suc (suc (suc t))))) ≡ (calm (suc (suc (suc (suc t)))) && calm (suc (suc (suc t))) && calm (suc (suc t)) && calm (suc t)) && (L t || chain_of (ag t))
  chain_law t = chain-step t _ _ _ _ refl refl refl refl

  -- ---- the edges of a run

  -- the same at tick 0 too
  small_any : (t : ℕ) → calm t ≡ false → ag t ≤ 1
  small_any zero e = subst (λ (x : ℕ). x ≤ 1) (sym first) (pick (L 0))
    where
      pick : (l : Bool) → cond l 1 0 ≤ 1
      pick true = omega arith
      pick false = omega arith
  small_any (suc t) e = ag_small t e

  -- a calm tick of a run is not its lead
  two-calm : (t : ℕ) → calm t ≡ true → 0 < ag t → 2 ≤ ag t
  two-calm zero e h = absurd (pick (L 0) (F 0) e first)
    where
      pick : (l f : Bool) → not l && not f ≡ true → ag 0 ≡ cond l 1 0 → ⊥
      pick true f d q = impossible (cc)
      pick false f d q = omega arith
  two-calm (suc t) e h =
      ⊎_elim (λ (p : (ag (suc t) ≡ suc (ag t)) × (0 < ag t)). omega (arith, p.0, p.1)) (λ (p : (ag (suc t) ≡ 0) × (ag t ≡ 0)). absurd (omega (arith, p.0))) (ag_calm t e)

  -- three calm ticks after y+1: the run at y+1 is long, its lead being at y-1 or before, exactly if y and y+1 are calm and one of four ticks is in the chain
  module _ (y : ℕ) (e₁ : calm (suc (suc y)) ≡ true) (e₂ : calm (suc (suc (suc y))) ≡ true) (e₃ : calm (suc (suc (suc (suc y)))) ≡ true) where
    is-long : 3 ≤ ag (suc y) → (calm (suc y) && calm y) && chains ag y ≡ true
    is-long h =
        let h₁ : ag (suc (suc y)) ≡ suc (ag (suc y)) = ag_run (suc y) e₁ (omega arith) in
        let h₂ : ag (suc (suc (suc y))) ≡ suc (suc (ag (suc y))) = ag_run (suc (suc y)) e₂ (omega arith) ∙ ap suc h₁ in
        let h₃ : ag (suc (suc (suc (suc y)))) ≡ suc (suc (suc (ag (suc y)))) = ag_run (suc (suc (suc y))) e₃ (omega arith) ∙ ap suc h₂ in
        let d : suc (suc (ag (suc y) - 2)) ≡ ag (suc y) = omega arith in
        ap₂ (λ (p q : Bool). (p && q) && chains ag y) (is_true (calm (suc y)) (λ e. omega (arith, small_any (suc y) e)))
        (is_true (calm y) (λ e. omega (arith, small_any y e, ag_le y)))
        ∙ cc (ap chain_of h₁, ap chain_of h₂, ap chain_of h₃, subst (λ (a : ℕ). four a ≡ true) d (any-chain (ag (suc y) - 2)))

    is-short : ag (suc y) ≤ 2 → (b c : Bool) → calm (suc y) ≡ b → calm y ≡ c → (b && c) && chains ag y ≡ false
    is-short h false c p q = refl
    is-short h true false p q = refl
    is-short h true true p q =
        ⊎_elim (λ (r : (ag (suc y) ≡ suc (ag y)) × (0 < ag y)). absurd (omega (arith, r.0, two-calm y q r.1)))
        (λ (r : (ag (suc y) ≡ 0) × (ag y ≡ 0)).
        let i₁ : ag (suc (suc y)) ≡ 0 = ag_idle (suc y) e₁ r.0 in
        let i₂ : ag (suc (suc (suc y))) ≡ 0 = ag_idle (suc (suc y)) e₂ i₁ in
        let i₃ : ag (suc (suc (suc (suc y)))) ≡ 0 = ag_idle (suc (suc (suc y))) e₃ i₂ in
        cc (ap chain_of r.0, ap chain_of i₁, ap chain_of i₂, ap chain_of i₃, chain_small 0 (omega arith)))
        (ag_calm y p)

    pub long-run : (calm (suc y) && calm y) && chains ag y ≡ ltb 5 (ag (suc y) + 3)
    long-run =
        ⊎_elim (λ (h : 3 ≤ ag (suc y)). is-long h ∙ sym (lt-ltb 5 (ag (suc y) + 3) (omega arith)))
        (λ (h : ag (suc y) < 3). is-short (omega arith) _ _ refl refl ∙ sym (le-ltb 5 (ag (suc y) + 3) (omega arith)))
        (le_or_lt 3 (ag (suc y)))

-- ---- the edge at x = y+1 by truth values. l₀ f₁ ..: lead at x, trail shape at x+1, ..; kx, ky: calm at x and y; c: x in the chain; cs: one of x .. x+3 is;
-- z: age 0; big: age 3 or more

-- from x+4 to x+7 no trail comes before a lead
abbrev pub ends : Bool → Bool → Bool → Bool → Bool → Bool → Bool → Bool → Bool
ends l₄ k₄ l₅ k₅ l₆ k₆ l₇ k₇ = l₄ || (k₄ && (l₅ || (k₅ && (l₆ || (k₆ && (l₇ || k₇))))))

end-one : (l f r : Bool) → l || ((not l && not f) && r) ≡ l || (not f && r)
end-one true f r = refl
end-one false f r = refl

end-last : (l f : Bool) → l || (not l && not f) ≡ l || (not f && true)
end-last true f = refl
end-last false true = refl
end-last false false = refl

pub ends_are : (l₄ f₄ l₅ f₅ l₆ f₆ l₇ f₇ : Bool)
    → ends l₄ (not l₄ && not f₄) l₅ (not l₅ && not f₅) l₆ (not l₆ && not f₆) l₇ (not l₇ && not f₇)
    ≡ l₄ || (not f₄ && (l₅ || (not f₅ && (l₆ || (not f₆ && (l₇ || (not f₇ && true)))))))
ends_are l₄ f₄ l₅ f₅ l₆ f₆ l₇ f₇ =
    end-one l₄ f₄ _
    ∙ ap (λ (r : Bool). l₄ || (not f₄ && r)) (end-one l₅ f₅ _
    ∙ ap (λ (r : Bool). l₅ || (not f₅ && r)) (end-one l₆ f₆ _
    ∙ ap (λ (r : Bool). l₆ || (not f₆ && r)) (end-last l₇ f₇)))

-- at a lead
lead_case : (f g t nt ky cs : Bool) → not f || (g && ((false && nt) || (t && ((false && ky) && cs)))) ≡ not (f || false)
lead_case true true true nt ky cs = refl
lead_case true true false nt ky cs = refl
lead_case true false t nt ky cs = refl
lead_case false g t nt ky cs = refl

-- where the run goes on from x+1 to x+3
going_on : (l f c nt z long : Bool) → (z ≡ true → c ≡ false) → (z ≡ true → long ≡ false)
    → (c && nt) || ((not (not l && not f) && not l) && long) ≡ not z && ((not l && f && long) || (c && true && nt))
going_on l f c nt true long h₁ h₂ =
    ap₂ (λ (p q : Bool). (p && nt) || ((not (not l && not f) && not l) && q)) (h₁ refl) (h₂ refl) ∙ and_false (not (not l && not f) && not l)
going_on true f true true false long h₁ h₂ = refl
going_on true f true false false long h₁ h₂ = ended f
  where
    ended : (f : Bool) → false || ((not (not true && not f) && not true) && long) ≡ true && ((not true && f && long) || (true && true && false))
    ended true = refl
    ended false = refl
going_on true f false nt false long h₁ h₂ = refl
going_on false true true true false true h₁ h₂ = refl
going_on false true true true false false h₁ h₂ = refl
going_on false true true false false true h₁ h₂ = refl
going_on false true true false false false h₁ h₂ = refl
going_on false true false nt false true h₁ h₂ = refl
going_on false true false nt false false h₁ h₂ = refl
going_on false false true true false long h₁ h₂ = refl
going_on false false true false false long h₁ h₂ = refl
going_on false false false nt false long h₁ h₂ = refl

-- where it does not
none : (z c nt : Bool) → false ≡ not z && (false || (c && false && nt))
none true c nt = refl
none false true nt = refl
none false false nt = refl

-- the words' formula is the rule
pub edge_bools : (l₀ l₁ f₁ k₂ k₃ l₄ f₄ nt c kx ky cs z big : Bool)
    → (l₀ ≡ true → l₁ ≡ false) → (l₀ ≡ true → c ≡ false) → (l₀ ≡ true → kx ≡ false)
    → (not l₁ && not f₁ ≡ true → k₂ ≡ true → k₃ ≡ true → (kx && ky) && cs ≡ big) → (z ≡ true → c ≡ false) → (z ≡ true → big ≡ false)
    → (l₀ && (not l₁ && not f₁)) || (((not l₁ && not f₁) && k₂ && k₃) && ((c && nt) || ((not (not l₄ && not f₄) && not l₄) && ((kx && ky) && cs))))
    ≡ cond l₀ (not (f₁ || false)) (not z && ((((not l₁ && not f₁) && (k₂ && (k₃ && true))) && not l₄ && f₄ && big) || (c && ((not l₁ && not f₁) && (k₂ && (k₃ && true))) && nt)))
edge_bools true l₁ f₁ k₂ k₃ l₄ f₄ nt c kx ky cs z big h₁ h₂ h₃ h₄ h₅ h₆ =
    cc (h₁ refl, h₂ refl, h₃ refl, lead_case f₁ (not f₁ && k₂ && k₃) (not (not l₄ && not f₄) && not l₄) nt ky cs)
edge_bools false true f₁ k₂ k₃ l₄ f₄ nt c kx ky cs z big h₁ h₂ h₃ h₄ h₅ h₆ = none z c nt
edge_bools false false true k₂ k₃ l₄ f₄ nt c kx ky cs z big h₁ h₂ h₃ h₄ h₅ h₆ = none z c nt
edge_bools false false false false k₃ l₄ f₄ nt c kx ky cs z big h₁ h₂ h₃ h₄ h₅ h₆ = none z c nt
edge_bools false false false true false l₄ f₄ nt c kx ky cs z big h₁ h₂ h₃ h₄ h₅ h₆ = none z c nt
edge_bools false false false true true l₄ f₄ nt c kx ky cs z big h₁ h₂ h₃ h₄ h₅ h₆ =
    ap (λ (q : Bool). (c && nt) || ((not (not l₄ && not f₄) && not l₄) && q)) (h₄ refl refl refl) ∙ going_on l₄ f₄ c nt z big h₅ h₆
