-- Where a line ends.
use Rattle.std.specs.Prelude.{Option, Some, None, ℕ, zero, suc, ◌+◌, ◌-◌, ◌*◌, ◌≤◌, ◌<◌, List, ◌≡◌, ◌⊎◌, Bool, ◌&&◌, not, cond, eqb, leb, length, get_or, take, drop}
use Rattle.rules.specs.Lists.{any}

-- no newline stands at the places from `from` to before `to`
pub record NoNewline (input : List ℕ) (from to : ℕ) : Type 0 where
  pub none : (k : ℕ) → from ≤ k → k < to → get_or input k 0 ≡ 10 → ⊥

-- one stands at a place `at` of these
pub record Newline (input : List ℕ) (from to : ℕ) : Type 0 where
  pub at : ℕ
  pub start : from ≤ at
  pub before : at < to
  pub is : get_or input at 0 ≡ 10

-- whether a newline is among the n bytes from `from` on
abbrev pub newline_in : List ℕ → ℕ → ℕ → Bool
newline_in input from n = any (λ c. eqb c 10) (take n (drop from input))

-- 32 bytes are there and none of them is a newline
abbrev pub plain32 : List ℕ → ℕ → Bool
plain32 input from = leb (from + 32) (length input) && not (newline_in input from 32)

-- the place behind as many times 32 such bytes as stand in a row, n times at most
abbrev pub passed_by : ℕ → List ℕ → ℕ → ℕ
passed_by zero input from = from
passed_by (suc n) input from = cond (plain32 input from) (passed_by n input (from + 32)) from

-- `to` is behind k times 32 bytes without a newline; k is n, or the next 32 are not all there or have one
pub record Passed (n : ℕ) (input : List ℕ) (from to : ℕ) : Type 0 where
  pub k : ℕ
  pub most : k ≤ n
  pub place : to ≡ from + 32 * k
  pub before : NoNewline input from to
  pub stops : (k ≡ n) ⊎ ((length input < to + 32) ⊎ Newline input to (to + 32))

-- a line begins at `from` and ends before `to`: with a newline, or at 259 bytes, which are no line any more
pub record LineEnd (input : List ℕ) (from to : ℕ) : Type 0 where
  pub some : from < to
  pub inside : to ≤ length input
  pub before : NoNewline input from (to - 1)
  pub ends : (get_or input (to - 1) 0 ≡ 10) ⊎ (to ≡ from + 259)

-- the input ends before the line does
pub record LinePast (input : List ℕ) (from : ℕ) : Type 0 where
  pub short : length input < from + 259
  pub before : NoNewline input from (length input)

abbrev pub EndPost : List ℕ → ℕ → Option ℕ → Type 0
EndPost input from (Some to) = LineEnd input from to
EndPost input from None = LinePast input from
