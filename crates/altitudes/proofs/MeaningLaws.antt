-- What a reply says, by its mode.
use Prim.Native.Nat.{ℕ}
use mathlib.Core.Path.{◌≡◌}
use borrow.Author.Tests.{ne_eqb}
use Rattle.std.specs.Prelude.{Some, None}
use Rattle.codes.specs.declared.Meaning.TheVariants.{Altitude, Identity}
use Rattle.codes.specs.Altitude.{altitude}
use Rattle.codes.specs.Identity.{identity}
use Rattle.codes.specs.Meaning.{meaning}

module _ (mode code confidence : ℕ) where
  pub mode_3 : mode ≡ 3 → meaning mode code confidence ≡ Some (Altitude (altitude code confidence))
  unfolding meaning
  mode_3 e = rw e

  pub mode_1 : mode ≡ 1 → meaning mode code confidence ≡ Some (Identity (identity code confidence))
  unfolding meaning
  mode_1 e = rw e

  pub mode_2 : mode ≡ 2 → meaning mode code confidence ≡ Some (Identity (identity code confidence))
  unfolding meaning
  mode_2 e = rw e

  pub no_mode_lem : (mode ≡ 3 → ⊥) → (mode ≡ 1 → ⊥) → (mode ≡ 2 → ⊥) → meaning mode code confidence ≡ None
  unfolding meaning
  no_mode_lem a b c = rw (ne_eqb mode 3 a, ne_eqb mode 1 b, ne_eqb mode 2 c)
