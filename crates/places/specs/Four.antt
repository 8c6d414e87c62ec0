-- The four places with their names, as the rules of the places speak of them, and the machine: places and counts.
use Rattle.rules.specs.declared.Place.{Place}
use Rattle.rules.specs.declared.Counts.{Counts}

-- the open replies in order of F1, then the idle ones
pub record Places : Type 0 where
  pub p0 : Place
  pub p1 : Place
  pub p2 : Place
  pub p3 : Place

pub record Machine : Type 0 where
  pub places : Places
  pub counts : Counts
