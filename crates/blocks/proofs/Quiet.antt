-- A piece that finds nothing: what the code finds test by test, and what it is.
use Prim.Native.Nat.{ℕ, ◌+◌, ◌≤◌, ◌<◌}
use mathlib.Core.Path.{◌≡◌}
use mathlib.Core.Bool.{Bool, true, false, ◌&&◌}
use mathlib.Core.List.{List}
use lib.Dec.{leb}
use lib.ListN.{length}
use borrow.Author.Tests.{leb-true, le-leb, lt-leb}
use Rattle.rules.specs.declared.Place.{Place}
use Rattle.rules.specs.Samples.{piece_limit, sweep_limit}
use Rattle.rules.proofs.Truth.{and_left, and_right, and_no, and_then}
use Rattle.flags.specs.Flags.{no_flags}
use Rattle.front.specs.declared.words.Front.{Front}
use Rattle.front.specs.Post.{blank}
use Rattle.blocks.specs.Steps.{none_due_lem, quiet}

module _ (f : Front) (first : Place) (base : ℕ) (flags : List ℕ) where
  abbrev n : ℕ
  n = length flags

  -- the tests behind those of the lengths
  abbrev finds_none : Bool
  finds_none = no_flags flags && (blank f && none_due_lem first (base + n))

  -- what the code finds, test by test
  pub quiet_too_long : 4096 < n → false ≡ quiet f first base flags
  quiet_too_long h = and_no (leb n piece_limit) (leb (base + n) sweep_limit && finds_none) (lt-leb n 4096 h)

  pub quiet_too_far : n ≤ 4096 → 32768 < base + n → false ≡ quiet f first base flags
  quiet_too_far h l = and_then (leb n piece_limit) (leb (base + n) sweep_limit && finds_none) false (le-leb n 4096 h) (and_no (leb (base + n) sweep_limit) finds_none (lt-leb (base + n) 32768 l))

  pub quiet-within : (r : Bool) → n ≤ 4096 → base + n ≤ 32768 → r ≡ finds_none → r ≡ quiet f first base flags
  quiet-within r h l e =
      and_then (leb n piece_limit) (leb (base + n) sweep_limit && finds_none) r (le-leb n 4096 h) (and_then (leb (base + n) sweep_limit) finds_none r (le-leb (base + n) 32768 l) e)

-- what a quiet piece is
pub record Quiet (f : Front) (first : Place) (base : ℕ) (flags : List ℕ) : Type 0 where
  pub limit : base + length flags ≤ sweep_limit
  pub flagless : no_flags flags ≡ true
  pub words : blank f ≡ true
  pub waits : none_due_lem first (base + length flags) ≡ true

pub quiet_is : (f : Front) (first : Place) (base : ℕ) (flags : List ℕ) → quiet f first base flags ≡ true → Quiet f first base flags
quiet_is f first base flags e =
    let n = length flags in
    let w = none_due_lem first (base + n) in
    let z = blank f && w in
    let y = no_flags flags && z in
    let x = leb (base + n) sweep_limit && y in
    let e₁ = and_right (leb n piece_limit) x e in
    let e₂ = and_right (leb (base + n) sweep_limit) y e₁ in
    let e₃ = and_right (no_flags flags) z e₂ in
    record {
      limit = leb-true (base + n) sweep_limit (and_left (leb (base + n) sweep_limit) y e₁);
      flagless = and_left (no_flags flags) z e₂;
      words = and_left (blank f) w e₃;
      waits = and_right (blank f) w e₃;
    }
