-- Tests of all lists of so many digits: a test that is computed for each list holds of any list of digits.
use Prim.Native.Nat.{ℕ, zero, suc, ◌%◌, ◌<◌}
use native.Mathlib.Omega.{arith}
use mathlib.Core.Path.{◌≡◌}
use mathlib.Core.Bool.{Bool, true, ◌&&◌}
use mathlib.Core.List.{List, [], ◌∷◌}
use lib.ListN.{length}
use Rattle.rules.specs.Lists.{All}
use Rattle.rules.proofs.Truth.{and_left, and_right}

pub below_two : (x : ℕ) → x % 2 < 2
below_two x = omega arith

-- a test that all lists of k digits pass
unfoldable pub passes : ℕ → (List ℕ → Bool) → Bool
passes zero f = f []
passes (suc k) f = passes k (λ ds. f (0 ∷ ds)) && passes k (λ ds. f (1 ∷ ds))

-- it holds of any list of k digits
pub passed : (k : ℕ) (f : List ℕ → Bool) → passes k f ≡ true → (ds : List ℕ) → length ds ≡ k → All (λ d. d < 2) ds → f ds ≡ true
unfolding passes
passed zero f t [] e a = t
passed zero f t (d ∷ ds) e a = absurd (omega arith)
passed (suc k) f t [] e a = absurd (omega arith)
passed (suc k) f t (zero ∷ ds) e a = passed k (λ l. f (0 ∷ l)) (and_left (passes k (λ l. f (0 ∷ l))) (passes k (λ l. f (1 ∷ l))) t) ds (omega arith) a.1
passed (suc k) f t (suc zero ∷ ds) e a = passed k (λ l. f (1 ∷ l)) (and_right (passes k (λ l. f (0 ∷ l))) (passes k (λ l. f (1 ∷ l))) t) ds (omega arith) a.1
passed (suc k) f t (suc (suc d) ∷ ds) e a = absurd (omega (arith, a.0))
