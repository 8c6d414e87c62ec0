-- A reply leaves its place: the places, the open replies and the counts without it.
use Rattle.std.specs.Prelude.{ℕ, zero, suc, ◌+◌, List, [], ◌∷◌}
use Rattle.rules.specs.declared.Reply.{Reply}
use Rattle.rules.specs.Machine.{State}

-- the list without its k-th
abbrev pub removed : ℕ → List Reply → List Reply
removed k [] = []
removed zero (r ∷ l) = l
removed (suc k) (r ∷ l) = r ∷ removed k l

-- the k-th open reply was a phantom
abbrev pub less_phantom : ℕ → State → State
less_phantom k s =
    record {
      done = s.done;
      live = removed k s.live;
      counts = record {
        found = s.counts.found;
        opened = s.counts.opened;
        sidelobe = s.counts.sidelobe;
        garbled = s.counts.garbled;
        lost = s.counts.lost;
        phantoms = s.counts.phantoms + 1;
      };
    }
