use Prim.Native.Nat.{◌-◌, ◌≤◌}
use mathlib.Core.Path.{◌≡◌}
use lib.ListN.{length}
use Rattle.marking.specs.Marks.{TwiceWord}
use Rattle.processor.specs.Arrays.{machine_in}
use Rattle.blocks.proofs.Feeding.{Feeding}
use Rattle.blocks.proofs.Working.{Working}
use Rattle.machine.proofs.Dealing.{Turning}
use Rattle.machine.proofs.Handing.{Hands}
use Rattle.machine.proofs.Turns.{open_count, turns_left}
use Rattle.machine.proofs.work.Given as goal

abbrev pub invariant-loop-todo : goal.invariant-loop-todo
invariant-loop-todo l = Working (machine_in l.initial.places l.initial.counts) l.s l.r l.t.0 l.values.recent.now l.values.base l.values.piece.now l.initial.at l.initial.out l.out l.places l.on l.risk l.counts l.at l.todo l.from × TwiceWord l.on l.both

abbrev pub decreases-loop-todo : goal.decreases-loop-todo
decreases-loop-todo l = turns_left l.from l.places l.risk

abbrev pub invariant-loop-k : goal.invariant-loop-k
invariant-loop-k l = (l.k ≤ 4) × Turning l.initial.places l.on l.i.n l.e l.k l.places

abbrev pub decreases-loop-k : goal.decreases-loop-k
decreases-loop-k l = 4 - l.k

abbrev pub invariant-loop-t : goal.invariant-loop-t
invariant-loop-t l = Hands l.r l.t.0 l.values.recent.now l.values.base l.values.piece.now l.counts l.initial.out l.initial.places l.initial.at l.out l.places l.at

abbrev pub decreases-loop-t : goal.decreases-loop-t
decreases-loop-t l = open_count l.places

abbrev pub invariant-loop-done : goal.invariant-loop-done
invariant-loop-done l = (length l.places ≡ 4) × Feeding (record { front = l.initial.front; places = l.initial.places; counts = l.initial.counts; at = l.initial.at }) l.values.recent.now l.values.base l.flags l.values.piece.now l.initial.out l.out (record { front = l.front; places = l.places; counts = l.counts; at = l.at }) l.done

abbrev pub decreases-loop-done : goal.decreases-loop-done
decreases-loop-done l = length l.flags - l.done
