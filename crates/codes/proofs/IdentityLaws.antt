-- The identity of a code, by the tests that the code makes in their order.
use Prim.Native.Nat.{ℕ}
use mathlib.Core.Path.{◌≡◌}
use mathlib.Core.Bool.{true, false}
use Rattle.std.specs.Prelude.{Some, None}
use Rattle.codes.specs.Pulses.{C1, A1, C2, A2, C4, A4, B1, D1, B2, D2, B4, D4, weighted, any_clear}
use Rattle.codes.specs.Identity.{twelve, identity}

module _ (code confidence : ℕ) where
  pub identity-unsure : any_clear twelve confidence ≡ true → identity code confidence ≡ None
  unfolding identity
  identity-unsure u = rw u

  pub squawk_digits : any_clear twelve confidence ≡ false → {a b c d : ℕ} → a ≡ weighted A4 A2 A1 code → b ≡ weighted B4 B2 B1 code → c ≡ weighted C4 C2 C1 code → d ≡ weighted D4 D2 D1 code
      → Some (record { a = a; b = b; c = c; d = d }) ≡ identity code confidence
  unfolding identity
  squawk_digits u e f g h = rw (u, e, f, g, h)
