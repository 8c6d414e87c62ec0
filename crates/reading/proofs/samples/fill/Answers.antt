use Prim.Native.Nat.{◌*◌, ◌≤◌}
use native.Mathlib.Omega.{arith}
use lib.ListN.{length}
use Rattle.reading.proofs.Filling.{four-count, four-digits, low-is-flag, high-is-value, filling_start, filling_next, filling_end}
use Rattle.reading.proofs.samples.fill.Goals as goal

pub loop-j-init : goal.loop-j-init
loop-j-init c =
    let a = c.args in
    filling_start a.line.now a.n a.flags.now a.values.now

pub two_bytes-two-requires : goal.two_bytes-two-requires
two_bytes-two-requires c =
    let a = c.args in
    let d = c.put_values.new.digits in
    let chunks = c.as_chunks.ensures in
    let room : 4 * a.n ≤ length d = omega (arith, c.requires.0, c.put_values.auto) in
    let count = four-count a.line.now d _ a.n c.requires.3 c.put_values.ensures _ chunks.front room chunks.front_len in
    four-digits a.line.now d _ a.n c.requires.3 c.put_values.ensures _ chunks.front room c.loop-j.j (omega (arith, count))

pub loop-j-preserved : goal.loop-j-preserved
loop-j-preserved c =
    let l = c.loop-j in
    let a = c.args in
    let pre = c.requires in
    let d = c.put_values.new.digits in
    let put = c.put_values.ensures in
    let chunks = c.as_chunks.ensures in
    let two = c.two_bytes-two.ensures in
    let room : 4 * a.n ≤ length d = omega (arith, pre.0, c.put_values.auto) in
    let count = four-count a.line.now d _ a.n pre.3 put _ chunks.front room chunks.front_len in
    filling_next a.line.now a.n pre.3.room a.flags.now a.values.now pre.1 pre.2 l.flags l.values l.j _ _ (omega (arith, count))
    (low-is-flag a.line.now d _ a.n pre.3 put _ chunks.front room l.j _ (omega (arith, count)) two)
    (high-is-value a.line.now d _ a.n pre.3 put _ chunks.front room l.j _ (omega (arith, count)) two)
    l.invariant

pub returns : goal.returns
returns c =
    let l = c.loop-j in
    let a = c.args in
    let pre = c.requires in
    let d = c.put_values.new.digits in
    let chunks = c.as_chunks.ensures in
    let room : 4 * a.n ≤ length d = omega (arith, pre.0, c.put_values.auto) in
    let count = four-count a.line.now d _ a.n pre.3 c.put_values.ensures _ chunks.front room chunks.front_len in
    filling_end a.line.now a.n pre.3.room a.flags.now a.values.now pre.1 pre.2 l.flags l.values l.j (omega (arith, count)) l.invariant
