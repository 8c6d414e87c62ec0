-- The pieces, of `piece` ticks each but for the last: piece k begins behind k others.
use Prim.Native.Nat.{ℕ, ◌+◌, ◌-◌, ◌*◌, ◌≤◌, ◌<◌, min}
use native.Mathlib.Omega.{arith}
use native.Mathlib.Nat.{mul-le-mul_right}
use mathlib.Core.Path.{◌≡◌}
use Rattle.std.specs.Int.{div_ceil}
use Rattle.std.proofs.lemmas.Grind.{div_ceil_times}

-- where piece k begins, of a trace of n ticks; n behind the last
abbrev pub begin : ℕ → ℕ → ℕ → ℕ
begin n piece k = min n (k * piece)

module _ (n piece : ℕ) (some : 1 ≤ piece) where
  pub begin_first : begin n piece 0 ≡ 0
  begin_first = omega arith

  product_next : (k : ℕ) → (k + 1) * piece ≡ k * piece + piece
  product_next k = grind arith

  pub begin_inside : (k : ℕ) → k < div_ceil n piece → k * piece < n
  begin_inside k h =
      let m : (k + 1) * piece ≤ div_ceil n piece * piece = mul-le-mul_right piece (omega (arith, h)) in
      omega (arith, m, product_next k, (div_ceil_times n piece some).1)

  pub begin_here : (k : ℕ) → k < div_ceil n piece → begin n piece k ≡ k * piece
  begin_here k h = omega (arith, begin_inside k h)

  pub begin_next : (k end : ℕ) → k < div_ceil n piece → end ≡ k * piece + min piece (n - k * piece) → end ≡ begin n piece (k + 1)
  begin_next k end h e = omega (arith, e, begin_inside k h, product_next k)

  pub begin_last : (k : ℕ) → div_ceil n piece ≤ k → n ≤ begin n piece k
  begin_last k h =
      let m : div_ceil n piece * piece ≤ k * piece = mul-le-mul_right piece h in
      omega (arith, m, (div_ceil_times n piece some).0)
