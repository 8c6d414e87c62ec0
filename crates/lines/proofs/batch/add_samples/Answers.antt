use Rattle.lines.proofs.Batching.{add_post}
use Rattle.lines.proofs.batch.add_samples.Goals as goal

pub returns : goal.returns
returns c =
    let a = c.args in
    add_post a.line.now a.n a.flags.now a.values.now c.requires.0 c.requires.1 c.read-said.result c.read-said.new.flags c.read-said.new.values c.read-said.ensures c.flags-1.given.0 c.values-1.given.0 _ c.count_in.ensures
