-- Feet as signed numbers: 100 (s - 13) ft of s steps, by the sign; that they fit; and which are below -1,000 ft.
use Prim.Native.Nat.{ℕ, ◌-◌, ◌*◌, ◌≤◌, ◌<◌}
use native.Mathlib.Omega.{arith}
use mathlib.Core.Path.{◌≡◌}
use lib.Dec.{ltb}
use lib.IntN.{pos, negsuc}
use lib.Signed.{lt_z}
use mir.Syntax.{w32}
use mir.Val.{SFits}
use Rattle.std.proofs.lemmas.Int.{ints}
use Rattle.codes.specs.Altitude.{feet_at_lem, lowest}

pub feet-low : (s : ℕ) → s < 13 → feet_at_lem s ≡ negsuc (1299 - 100 * s)
feet-low s h = grind (arith, ints)

pub feet-high : (s : ℕ) → 13 ≤ s → feet_at_lem s ≡ pos (100 * (s - 13))
feet-high s h = grind (arith, ints)

pub below-lowest : (s : ℕ) → lt_z (feet_at_lem s) lowest ≡ ltb s 3
below-lowest s = grind (arith, ints)

pub feet_fit : (s : ℕ) → s < 65536 → SFits w32 (feet_at_lem s)
feet_fit s h = grind (arith, ints)
