-- The flags of a tick are the low four bits of its byte.
use Prim.Native.Nat.{ℕ}
use native.Mathlib.Nat.{div-one}
use mathlib.Core.Path.{◌≡◌, refl, ap}
use mathlib.Core.List.{List}
use lib.ListN.{get_or}
use Rattle.rules.specs.Samples.{A, P, N, M, odd}
use Rattle.plane.specs.Words.{bit}

module _ (f : List ℕ) (t : ℕ) where
  pub A-bit : bit (get_or f t 0) 0 ≡ A f t
  unfolding bit A
  A-bit = ap odd (div-one (get_or f t 0))

  pub P-bit : bit (get_or f t 0) 1 ≡ P f t
  unfolding bit P
  P-bit = refl

  pub N-bit : bit (get_or f t 0) 2 ≡ N f t
  unfolding bit N
  N-bit = refl

  pub M-bit : bit (get_or f t 0) 3 ≡ M f t
  unfolding bit M
  M-bit = refl
