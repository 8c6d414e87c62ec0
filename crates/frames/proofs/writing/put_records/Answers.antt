use native.Mathlib.Omega.{arith}
use Rattle.frames.proofs.Printing.{lines_start, lines_next, lines_end, record_at, record_count}
use Rattle.frames.proofs.writing.put_records.Goals as goal

pub loop-k-init : goal.loop-k-init
loop-k-init c =
    let a = c.args in
    lines_start a.records.now a.n c.requires.0 a.at a.out.now

pub put_line-requires : goal.put_line-requires
put_line-requires c =
    let a = c.args in
    let chunks = c.as_chunks.ensures in
    let count = record_count a.records.now a.n c.requires.0 _ chunks.front chunks.front_len in
    omega (arith, c.requires.1, count, c.loop-k.invariant.size)

pub loop-k-preserved : goal.loop-k-preserved
loop-k-preserved c =
    let l = c.loop-k in
    let a = c.args in
    let whole = c.requires.0 in
    let chunks = c.as_chunks.ensures in
    let count = record_count a.records.now a.n whole _ chunks.front chunks.front_len in
    lines_next a.records.now a.n whole a.at a.out.now l.out _ _ l.k c.requires.1 (omega (arith, count)) (record_at a.records.now a.n whole _ chunks.front l.k (omega (arith, count))) c.put_line.ensures l.invariant

pub returns : goal.returns
returns c =
    let l = c.loop-k in
    let a = c.args in
    let chunks = c.as_chunks.ensures in
    let count = record_count a.records.now a.n c.requires.0 _ chunks.front chunks.front_len in
    lines_end a.records.now a.n c.requires.0 a.at a.out.now l.out l.k (omega (arith, count)) l.invariant
