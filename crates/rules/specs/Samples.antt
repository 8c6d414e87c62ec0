-- Samples and units. A trace is a list of flag bytes and a list of monopulse values, one of each for a tick.
use Rattle.std.specs.Prelude.{ℕ, ◌/◌, ◌%◌, ◌^◌, Bool, ◌&&◌, ◌||◌, List, [], ◌++◌, ltb, eqb, get_or}

pub record Trace : Type 0 where
  pub flags : List ℕ
  pub values : List ℕ

-- the flags and the values that a caller lends
abbrev pub lent : List ℕ → List ℕ → Trace
lent flags values = record { flags = flags; values = values }

-- no tick at all
abbrev pub nothing : Trace
nothing = record { flags = []; values = [] }

-- a trace and the piece that comes after it
infixl 65 ◌⧺◌
abbrev pub ◌⧺◌ : Trace → Trace → Trace
T ⧺ R = record { flags = T.flags ++ R.flags; values = T.values ++ R.values }

abbrev pub odd : ℕ → Bool
odd n = eqb (n % 2) 1

-- bit k of a number
abbrev pub bit : ℕ → ℕ → Bool
bit k n = odd (n / 2 ^ k)

-- "Flag bits: 0 = A, sum video above threshold; 1 = P, rising slope; 2 = N, falling slope; 3 = M, mainbeam."
-- They are read at place k of a list of flag bytes. "Samples outside the trace count as all zero."
unfoldable pub A : List ℕ → ℕ → Bool
A w k = odd (get_or w k 0)

unfoldable pub P : List ℕ → ℕ → Bool
P w k = odd (get_or w k 0 / 2)

unfoldable pub N : List ℕ → ℕ → Bool
N w k = odd (get_or w k 0 / 4)

unfoldable pub M : List ℕ → ℕ → Bool
M w k = odd (get_or w k 0 / 8)

-- "P with N is bad, as are bits 4 to 7."
abbrev pub bad : ℕ → Bool
bad b = (odd (b / 2) && odd (b / 4)) || ltb 15 b

-- "Limits: 4,096 ticks a piece, 32,768 a sweep, four open replies."
abbrev pub piece_limit : ℕ
piece_limit = 4096

abbrev pub sweep_limit : ℕ
sweep_limit = 32768

abbrev pub decoders : ℕ
decoders = 4
