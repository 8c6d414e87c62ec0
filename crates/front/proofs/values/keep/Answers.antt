-- `keep` moves the older values to the front and puts the newest behind them: both together are the last 256.
use Rattle.front.proofs.Keeping.{kept}
use Rattle.front.proofs.values.keep.Goals as goal

pub returns : goal.returns
returns c =
    let a = c.args in
    kept a.recent.now a.values.now _ c.told-recent c.min-come.ensures _ _ c.copy_within.ensures.after c.copy_from_slice.ensures.after
