-- The four numbers of the rules that a receiver may want otherwise, and document 01's.
use Rattle.std.specs.Prelude.{ℕ, ◌≤◌}

pub record Settings : Type 0 where
  -- "A value agrees with a reference if they differ by at most 8."
  pub window : ℕ
  -- "A bracket stands at edge u if an edge stands at u+168; else at u+167; else at u+169.": 1; with 0 only 168 makes a bracket
  pub tolerance : ℕ
  -- "An actual edge is a lead with no trail at the next tick.": 2; no trail comes fewer ticks after it
  pub shortest : ℕ
  -- "If e-s > 5": a longer run gives pseudo and extra edges
  pub longest : ℕ

abbrev pub standard : Settings
standard = record { window = 8; tolerance = 1; shortest = 2; longest = 5 }

-- The range of each: the laws hold for all settings in it.
pub record Allowed (set : Settings) : Type 0 where
  pub window : set.window ≤ 64
  pub tolerance : set.tolerance ≤ 1
  pub shortest-from : 1 ≤ set.shortest
  pub shortest-to : set.shortest ≤ 3
  pub longest-from : 5 ≤ set.longest
  pub longest-to : set.longest ≤ 7
