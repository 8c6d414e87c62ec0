-- Words of 64 ticks u, from t-242 on: those that a reply covers, and those at which a bracket removes it.
use Rattle.std.specs.Prelude.{ℕ, ◌+◌, ◌-◌, ◌/◌, ◌%◌, ◌<◌, ◌≤◌, ◌≡◌, Bool, false, ◌&&◌, List, leb, get_or}
use Rattle.rules.specs.Replies.{position, is_position}
use Rattle.plane.specs.Words.{bit}

-- a reply with F1 at q covers u
unfoldable pub covers_from : ℕ → ℕ → Bool
unfolding position
covers_from q u = is_position (position q u)

-- a bracket at u removes it, if it is a potential phantom
unfoldable pub phantom_from : Bool → ℕ → ℕ → Bool
phantom_from b q u = b && leb (q + 10) u && leb u (q + 170) && leb ((u + 2 - q) % 12) 4

-- bit n of words in a row; behind the last no bit is set
unfoldable pub row_bit : List ℕ → ℕ → Bool
unfolding bit
row_bit w n = bit (get_or w (n / 64) 0) (n % 64)

-- of words in a row that start 65 ticks before q, those of the ticks u
pub record Shown (w : List ℕ) (q t x : ℕ) : Type 0 where
  pub at : (i u n : ℕ) → i < 64 → t + i ≡ u + 242 → q + n ≡ u + 65 → bit x i ≡ row_bit w n
  pub before : (i u : ℕ) → i < 64 → t + i ≡ u + 242 → u + 65 < q → bit x i ≡ false

-- the 64 bits from bit r of a on, with b behind it
pub record Across (a b r x : ℕ) : Type 0 where
  pub near : (i : ℕ) → i + r < 64 → bit x i ≡ bit a (i + r)
  pub far : (i : ℕ) → i < 64 → 64 ≤ i + r → bit x i ≡ bit b (i + r - 64)

pub record CoverMask (q t x : ℕ) : Type 0 where
  pub at : (i u : ℕ) → i < 64 → t + i ≡ u + 242 → bit x i ≡ covers_from q u

pub record PhantomMask (q : ℕ) (b : Bool) (t x : ℕ) : Type 0 where
  pub at : (i u : ℕ) → i < 64 → t + i ≡ u + 242 → bit x i ≡ phantom_from b q u
