-- A word as a row of bits, and a plane: a fact of each tick.
use Rattle.std.specs.Prelude.{ℕ, ◌+◌, ◌/◌, ◌^◌, ◌≤◌, ◌<◌, ◌≡◌, Bool, true, false}
use Rattle.rules.specs.Samples.{odd}

-- bit i of the word x
unfoldable pub bit : ℕ → ℕ → Bool
bit x i = odd (x / 2 ^ i)

-- the word x holds the plane F from tick b on: bit i is that of tick b+i
pub record Holds (F : ℕ → Bool) (b x : ℕ) : Type 0 where
  pub below : x < 2 ^ 64
  pub at : (i : ℕ) → i < 64 → bit x i ≡ F (b + i)

-- the word x holds r ticks of the plane F from tick b on, and its other bits are 0
pub record HoldsPart (F : ℕ → Bool) (b r x : ℕ) : Type 0 where
  pub below : x < 2 ^ 64
  pub at : (i : ℕ) → i < r → bit x i ≡ F (b + i)
  pub rest : (i : ℕ) → r ≤ i → bit x i ≡ false

-- the word of any plane goes on by r ticks, whose bits are the low ones of `now`
pub record Slid (before now r x : ℕ) : Type 0 where
  pub holds : (F : ℕ → Bool) (b : ℕ) → Holds F b before → ((m : ℕ) → m < r → bit now m ≡ F (b + 64 + m)) → Holds F (b + r) x

-- r is the number of the lowest set bit of x
pub record Lowest (x r : ℕ) : Type 0 where
  pub below : r < 64
  pub set : bit x r ≡ true
  pub clear : (i : ℕ) → i < r → bit x i ≡ false

-- r is x without its lowest set bit j
pub record WithoutLowest (x r : ℕ) : Type 0 where
  pub less : r < x
  pub cleared : (j : ℕ) → Lowest x j → bit r j ≡ false
  pub kept : (j i : ℕ) → Lowest x j → (i ≡ j → ⊥) → bit r i ≡ bit x i
