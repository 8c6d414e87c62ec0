-- Whether a line is well formed, test by test.
use Prim.Native.Nat.{ℕ, ◌-◌, ◌%◌, ◌≤◌, ◌<◌}
use mathlib.Core.Path.{◌≡◌}
use mathlib.Core.Bool.{Bool, false}
use mathlib.Core.List.{List}
use lib.ListN.{length, get_or, take}
use borrow.Author.Tests.{lt-leb, le-leb, eq-eqb, ne_eqb}
use Rattle.reading.specs.Frames.{well_formed_lem}
use Rattle.characters.specs.Characters.{are_digits_lem}

module _ (l : List ℕ) where
  pub well_short : length l < 2 → false ≡ well_formed_lem l
  unfolding well_formed_lem
  well_short h = rw (lt-leb 2 (length l) h)

  module _ (two : 2 ≤ length l) where
    pub well_long : 259 < length l → false ≡ well_formed_lem l
    unfolding well_formed_lem
    well_long h = rw (le-leb 2 (length l) two, lt-leb (length l) 259 h)

    module _ (most : length l ≤ 259) where
      pub well_odd : (length l % 2 ≡ 1 → ⊥) → false ≡ well_formed_lem l
      unfolding well_formed_lem
      well_odd h = rw (le-leb 2 (length l) two, le-leb (length l) 259 most, ne_eqb (length l % 2) 1 h)

      module _ (whole : length l % 2 ≡ 1) where
        pub well_open : (get_or l (length l - 1) 0 ≡ 10 → ⊥) → false ≡ well_formed_lem l
        unfolding well_formed_lem
        well_open h =
            rw (le-leb 2 (length l) two, le-leb (length l) 259 most, eq-eqb (length l % 2) 1 whole, ne_eqb (get_or l (length l - 1) 0) 10 h)

        pub well_digits : get_or l (length l - 1) 0 ≡ 10 → (r : Bool) → r ≡ are_digits_lem (take (length l - 1) l) → r ≡ well_formed_lem l
        unfolding well_formed_lem
        well_digits h r e =
            rw (le-leb 2 (length l) two, le-leb (length l) 259 most, eq-eqb (length l % 2) 1 whole, eq-eqb (get_or l (length l - 1) 0) 10 h) e
