use Rattle.lines.proofs.Batching.{going_start, going_end, going_next_line, going_short, going_stopped, going_on, going_to}
use mathlib.Core.Path.{refl}
use native.Mathlib.Omega.{arith}
use Rattle.lines.proofs.batch.take_lines.Goals as goal

pub loop-done-init : goal.loop-done-init
loop-done-init c =
    let a = c.args in
    let pre = c.requires in
    going_start a.p a.input.now a.from a.to a.at a.flags.now a.values.now a.out.now pre.1 pre.2

pub returns-in_default : goal.returns-in_default
returns-in_default c =
    let a = c.args in
    let d = c.loop-done.done in
    let inv = c.loop-done.invariant in
    going_end a.p a.input.now a.from a.to a.at a.flags.now a.values.now a.out.now c.requires.1 d.processor d.from d.at c.loop-done.out inv.start inv.scanned

pub overflow_add-b : goal.overflow_add-b
overflow_add-b c =
    let a = c.args in
    let l = c.loop-done in
    omega (arith, (going_next_line a.p a.input.now a.from a.to a.at a.flags.now a.values.now a.out.now c.requires.1 l.done.processor l.done.from l.done.at l.out l.a l.invariant c.loop-done-test.true _ c.in-Some.ensures).fits)

pub slice_bounds-take_all-end : goal.slice_bounds-take_all-end
slice_bounds-take_all-end c =
    let a = c.args in
    let l = c.loop-done in
    omega (arith, (going_next_line a.p a.input.now a.from a.to a.at a.flags.now a.values.now a.out.now c.requires.1 l.done.processor l.done.from l.done.at l.out l.a l.invariant c.loop-done-test.true _ c.in-Some.ensures).fits)

pub slice_bounds-take_all-end-in-loop-done : goal.slice_bounds-take_all-end-in-loop-done
slice_bounds-take_all-end-in-loop-done c =
    let a = c.args in
    let l = c.loop-done in
    omega (arith, (going_next_line a.p a.input.now a.from a.to a.at a.flags.now a.values.now a.out.now c.requires.1 l.done.processor l.done.from l.done.at l.out l.a l.invariant c.loop-done-test.true _ c.in-Some.ensures).value_fits)

pub take_all-requires : goal.take_all-requires
take_all-requires c =
    let a = c.args in
    let l = c.loop-done in
    going_short a.p a.input.now a.from a.to a.at a.flags.now a.values.now a.out.now c.requires.1 l.done.processor l.done.from l.done.at l.out l.a l.invariant c.loop-done-test.true _ c.in-Some.ensures c.requires.0

pub returns-in_default-take_all : goal.returns-in_default-take_all
returns-in_default-take_all c =
    let a = c.args in
    let l = c.loop-done in
    going_stopped a.p a.input.now a.from a.to a.at a.flags.now a.values.now a.out.now c.requires.1 l.done.processor l.done.from l.done.at l.out l.a l.invariant c.loop-done-test.true _ c.in-Some.ensures _ refl _ _ (omega arith) c.take_all.ensures c.in_default-take_all.is

pub loop-done-smaller : goal.loop-done-smaller
loop-done-smaller c =
    let a = c.args in
    let l = c.loop-done in
    omega (arith, c.in-Some.ensures.some, going_to a.p a.input.now a.from a.to a.at a.flags.now a.values.now a.out.now c.requires.1 l.done.processor l.done.from l.done.at l.out l.a l.invariant c.loop-done-test.true _ c.in-Some.ensures _ refl _ _ (omega arith) c.take_all.ensures _ c.in-Some-take_all.is)

pub loop-done-preserved : goal.loop-done-preserved
loop-done-preserved c =
    let a = c.args in
    let l = c.loop-done in
    going_on a.p a.input.now a.from a.to a.at a.flags.now a.values.now a.out.now c.requires.1 l.done.processor l.done.from l.done.at l.out l.a l.invariant c.loop-done-test.true _ c.in-Some.ensures _ refl _ _ (omega arith) c.take_all.ensures _ c.in-Some-take_all.is

pub returns : goal.returns
returns c =
    let a = c.args in
    let d = c.loop-done.done in
    let inv = c.loop-done.invariant in
    going_end a.p a.input.now a.from a.to a.at a.flags.now a.values.now a.out.now c.requires.1 d.processor d.from d.at c.loop-done.out inv.start inv.scanned
