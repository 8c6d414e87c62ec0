-- A list of checks: one that does not hold is skipped, the first that holds is the answer, and an accepted list has none that holds.
use Prim.Native.Nat.{ℕ}
use native.Mathlib.Omega.{arith}
use mathlib.Core.Path.{◌≡◌, refl, sym, ap, ◌∙◌}
use mathlib.Core.Bool.{Bool, true, false, cond}
use mathlib.Core.List.{List, [], ◌∷◌, ◌++◌}
use Rattle.rules.specs.Lists.{All}
use Rattle.rules.specs.declared.Refusal.{Refusal}
use Rattle.rules.specs.Calls.{accepted, refused, Check, first_of}

-- skipped
pub first_skip : (c : Check) (cs : List Check) → c.holds ≡ false → first_of (c ∷ cs) ≡ first_of cs
first_skip c cs h = ap (λ (b : Bool). cond b (refused c.refusal) (first_of cs)) h

-- the answer
pub first_holds : (c : Check) (cs : List Check) → c.holds ≡ true → first_of (c ∷ cs) ≡ refused c.refusal
first_holds c cs h = ap (λ (b : Bool). cond b (refused c.refusal) (first_of cs)) h

abbrev pub NoneHolds : List Check → Type 0
NoneHolds cs = All (λ c. c.holds ≡ false) cs

pub not-accepted : (r : Refusal) → refused r ≡ accepted → ⊥
not-accepted r e = let z : ◌≡◌ {A = ℕ} 0 1 = cc in omega arith

-- an accepted list gives all its facts
pub none-holds : (cs : List Check) → first_of cs ≡ accepted → NoneHolds cs
none-holds [] e = tt
none-holds (c ∷ cs) e = go c.holds refl e (none-holds cs)
  where
    go : (b : Bool) → c.holds ≡ b → cond b (refused c.refusal) (first_of cs) ≡ accepted → (first_of cs ≡ accepted → NoneHolds cs) → (c.holds ≡ false) × NoneHolds cs
    go true h d rest = absurd (not-accepted c.refusal d)
    go false h d rest = (h, rest d)

-- and the facts accept it
pub all_skip : (cs : List Check) → NoneHolds cs → first_of cs ≡ accepted
all_skip [] h = refl
all_skip (c ∷ cs) h = first_skip c cs h.0 ∙ all_skip cs h.1

-- ---- a list behind another

pub first_past : (cs ds : List Check) → first_of cs ≡ accepted → first_of (cs ++ ds) ≡ first_of ds
first_past [] ds e = refl
first_past (c ∷ cs) ds e =
    let h = none-holds (c ∷ cs) e in
    first_skip c (cs ++ ds) h.0 ∙ first_past cs ds (all_skip cs h.1)

pub first-before : (cs ds : List Check) (r : Refusal) → first_of cs ≡ refused r → first_of (cs ++ ds) ≡ refused r
first-before [] ds r e = absurd (not-accepted r (sym e))
first-before (c ∷ cs) ds r e = go c.holds refl e (first-before cs ds r)
  where
    go : (b : Bool) → c.holds ≡ b → cond b (refused c.refusal) (first_of cs) ≡ refused r → (first_of cs ≡ refused r → first_of (cs ++ ds) ≡ refused r)
        → first_of ((c ∷ cs) ++ ds) ≡ refused r
    go true h d later = first_holds c (cs ++ ds) h ∙ d
    go false h d later = first_skip c (cs ++ ds) h ∙ later d
