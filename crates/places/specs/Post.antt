-- What an edge makes of a machine: by the places for every machine, and by the rules for the machine of a state.
use Rattle.std.specs.Prelude.{ℕ, ◌+◌, ◌≤◌, ◌<◌, ◌≡◌, length, Option, Some, None}
use Rattle.rules.specs.declared.Pulse.{Pulse}
use Rattle.rules.specs.declared.Counts.{Counts}
use Rattle.places.specs.Four.{Machine}
use Rattle.rules.specs.Settings.{standard}
use Rattle.rules.specs.Lists.{All}
use Rattle.rules.specs.Ranges.{Ranged}
use Rattle.rules.specs.Machine.{State, edge_step}
use Rattle.replies.specs.Sums.{wrapped}
use Rattle.places.specs.Places.{step_on, machine_of}

-- the counts are those of a sweep
pub record Small (c : Counts) : Type 0 where
  pub found : c.found < 32768
  pub opened : c.opened < 32768
  pub sidelobe : c.sidelobe < 32768
  pub garbled : c.garbled < 32768
  pub lost : c.lost < 32768
  pub phantoms : c.phantoms < 32768

abbrev pub f2_value : Option Pulse → ℕ
f2_value None = 0
f2_value (Some f) = f.value

-- The numbers of a state, an edge and its bracket are such that sums of 16 bits are those of the rules.
pub record Fits (e : Pulse) (b : Option Pulse) (s : State) : Type 0 where
  pub four : length s.live ≤ 4
  pub ranged : All Ranged s.live
  pub counts : Small s.counts
  pub value : e.value ≤ 255
  pub second : f2_value b ≤ 255

pub record EdgePost (m : Machine) (e : Pulse) (b : Option Pulse) (r : Machine) : Type 0 where
  -- for every machine
  pub total : r ≡ step_on wrapped standard e b m
  -- for the machine of a state: the machine of the state that the rules give
  pub result : (s : State) → m ≡ machine_of s → Fits e b s → r ≡ machine_of (edge_step ◌+◌ standard e b s)
