-- What the functions on four words of edges in a row answer: e₃ e₂ e₁ e hold the plane E of the edges from the ticks b, b+64, b+128 and b+192 on.
-- The ticks u asked about are the 64 from b+23 on. "A bracket stands at edge u if an edge stands at u+168; else at u+167; else at u+169."
use Rattle.std.specs.Prelude.{ℕ, ◌+◌, Bool}
use Rattle.plane.specs.Words.{Holds}

-- the edges at u
pub record Due (e₂ e₃ r : ℕ) : Type 0 where
  pub holds : (E : ℕ → Bool) (b : ℕ) → Holds E b e₃ → Holds E (b + 64) e₂ → Holds E (b + 23) r

-- at u+168
pub record At168 (e e₁ r : ℕ) : Type 0 where
  pub holds : (E : ℕ → Bool) (b : ℕ) → Holds E (b + 128) e₁ → Holds E (b + 192) e → Holds (λ u. E (u + 168)) (b + 23) r

-- at u+167
pub record At167 (e e₁ r : ℕ) : Type 0 where
  pub holds : (E : ℕ → Bool) (b : ℕ) → Holds E (b + 128) e₁ → Holds E (b + 192) e → Holds (λ u. E (u + 167)) (b + 23) r
