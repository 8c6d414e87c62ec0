-- `sweep_by_calls` turns a sweep down, and nothing is written, or makes its calls.
use mathlib.Core.Path.{sym}
use Rattle.piecewise.proofs.Piecing.{turned_away}
use Rattle.piecewise.proofs.sweep_by_calls.Goals as goal

pub returns-in-Err : goal.returns-in-Err
returns-in-Err c =
    let a = c.args in
    turned_away a.opening (record { flags = a.flags.now; values = a.values.now }) a.piece a.out.now c.turned_down.result _ (sym c.in-Err.ensures) c.turned_down.ensures

pub accepted_sweep-requires : goal.accepted_sweep-requires
accepted_sweep-requires c = sym c.in-Ok.ensures
