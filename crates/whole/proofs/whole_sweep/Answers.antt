use mathlib.Core.Path.{sym}
use Rattle.whole.proofs.Answering.{whole-refused}
use Rattle.whole.proofs.whole_sweep.Goals as goal

pub returns-in-Err : goal.returns-in-Err
returns-in-Err c =
    let a = c.args in
    whole-refused (record { mode = a.mode; azimuth = a.azimuth }) (record { flags = a.flags.now; values = a.values.now }) a.piece a.out.now a.totals.now _ _ (sym c.in-Err.ensures) c.minus.ensures

pub swept-requires : goal.swept-requires
swept-requires c = sym c.in-Ok.ensures
