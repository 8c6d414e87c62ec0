-- What a reply says, by the mode of its sweep.
use Rattle.std.specs.Prelude.{ℕ, ◌||◌, cond, eqb, Option, Some, None}
use Rattle.codes.specs.declared.Meaning.{Meaning}
use Rattle.codes.specs.declared.Meaning.TheVariants.{Altitude, Identity}
use Rattle.codes.specs.Altitude.{altitude}
use Rattle.codes.specs.Identity.{identity}

-- mode 3 is C, modes 1 and 2 are A and 2; another number is no mode
unfoldable pub meaning : ℕ → ℕ → ℕ → Option Meaning
unfolding altitude identity
meaning mode code confidence =
    cond (eqb mode 3) (Some (Altitude (altitude code confidence))) (cond (eqb mode 1 || eqb mode 2) (Some (Identity (identity code confidence))) None)
