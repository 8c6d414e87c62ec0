-- Lists and tests: what passes a test, and how often.
use Rattle.std.specs.Prelude.{ℕ, Bool, false, ◌||◌, cond, List, [], ◌∷◌, ◌++◌, length}

abbrev pub any {ℓ} : {X : Type ℓ} → (X → Bool) → List X → Bool
any p [] = false
any p (x ∷ l) = p x || any p l

-- those that pass
abbrev pub filter {ℓ} : {X : Type ℓ} → (X → Bool) → List X → List X
filter p [] = []
filter p (x ∷ l) = cond (p x) (x ∷ filter p l) (filter p l)

-- those that do not
abbrev pub reject {ℓ} : {X : Type ℓ} → (X → Bool) → List X → List X
reject p [] = []
reject p (x ∷ l) = cond (p x) (reject p l) (x ∷ reject p l)

-- how many pass
abbrev pub count {ℓ} : {X : Type ℓ} → (X → Bool) → List X → ℕ
count p l = length (filter p l)

-- P holds of each
abbrev pub All {ℓ} : {X : Type ℓ} → (X → Type 0) → List X → Type 0
All P [] = Unit {0}
All P (x ∷ l) = P x × All P l

-- the lists of l, end to end
abbrev pub joined {ℓ} : {X : Type ℓ} → List (List X) → List X
joined [] = []
joined (x ∷ l) = x ++ joined l
