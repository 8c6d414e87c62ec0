-- `take_each` makes one call after the other. The invariant: the list of the calls so far is a chain that took the pieces before the k-th.
use Prim.Native.Nat.{ℕ, ◌+◌, ◌*◌, ◌<◌}
use native.Mathlib.Omega.{arith}
use mathlib.Core.Path.{ap, sym, subst}
use lib.ListN.{length}
use Rattle.std.specs.Int.{div_ceil}
use Rattle.calls.specs.declared.Answered.{Answered}
use Rattle.takes.proofs.Taking.{all-bytes}
use Rattle.piecewise.proofs.Turns.{begin_first, begin_inside, begin_last}
use Rattle.piecewise.proofs.Piecing.{Pieces, some, alike, pieces_start, pieces_here, pieces_there, room-left, count_small, pieces_next, pieces_end}
use Rattle.piecewise.proofs.take_each.Goals as goal

pub div_ceil-k-end-requires : goal.div_ceil-k-end-requires
div_ceil-k-end-requires c =
    let a = c.args in
    omega (arith, some a.opening (record { flags = a.flags.now; values = a.values.now }) a.piece a.out.now c.requires)

pub loop-k-init : goal.loop-k-init
loop-k-init c =
    let a = c.args in
    record {
      pieces = λ ω e ok.
          subst (λ (i : ℕ). Pieces ω (record { flags = a.flags.now; values = a.values.now }) a.out.now c.open-o.result.processor 0 i a.out.now)
          (sym (begin_first (length a.flags.now) a.piece (some ω (record { flags = a.flags.now; values = a.values.now }) a.piece a.out.now ok)))
          (pieces_start ω (record { flags = a.flags.now; values = a.values.now }) a.piece a.out.now ok c.open-o.result.processor e);
    }

pub slice_bounds-take-end-in-loop-k : goal.slice_bounds-take-end-in-loop-k
slice_bounds-take-end-in-loop-k c =
    let a = c.args in
    let l = c.loop-k in
    let more : l.k < div_ceil (length a.flags.now) a.piece = omega arith in
    omega (
      arith,
      alike a.opening (record { flags = a.flags.now; values = a.values.now }) a.piece a.out.now c.requires,
      begin_inside (length a.flags.now) a.piece (some a.opening (record { flags = a.flags.now; values = a.values.now }) a.piece a.out.now c.requires) l.k more,
    )

pub slice_bounds-take-count-in-loop-k-2 : goal.slice_bounds-take-count-in-loop-k-2
slice_bounds-take-count-in-loop-k-2 c =
    let a = c.args in
    let l = c.loop-k in
    omega (arith, room-left a.opening (record { flags = a.flags.now; values = a.values.now }) a.piece a.out.now c.requires l.p l.at _ l.out (l.invariant.pieces a.opening (ap (λ (x : Answered). x.processor) c.open-o.ensures) c.requires))

pub slice_bounds-take-start-in-loop-k-2 : goal.slice_bounds-take-start-in-loop-k-2
slice_bounds-take-start-in-loop-k-2 c =
    let a = c.args in
    let l = c.loop-k in
    omega (arith, room-left a.opening (record { flags = a.flags.now; values = a.values.now }) a.piece a.out.now c.requires l.p l.at _ l.out (l.invariant.pieces a.opening (ap (λ (x : Answered). x.processor) c.open-o.ensures) c.requires))

pub overflow_mul-at : goal.overflow_mul-at
overflow_mul-at c =
    let a = c.args in
    let l = c.loop-k in
    let more : l.k < div_ceil (length a.flags.now) a.piece = omega arith in
    let here = pieces_here a.opening (record { flags = a.flags.now; values = a.values.now }) a.piece a.out.now c.requires l.p l.at l.k l.out more (l.invariant.pieces a.opening (ap (λ (x : Answered). x.processor) c.open-o.ensures) c.requires) in
    omega (arith, count_small a.opening (record { flags = a.flags.now; values = a.values.now }) a.piece a.out.now c.requires l.p l.at (l.k * a.piece) l.out here (all-bytes a.values.now (λ k. omega (arith, c.type_inv.values k))) _ (ap (λ (n : ℕ). l.k * a.piece + n) c.min.ensures) c.take-t.result _ c.take-t.ensures c.unwrap_or.result c.unwrap_or.ensures)

pub overflow_add-at : goal.overflow_add-at
overflow_add-at c =
    let a = c.args in
    let l = c.loop-k in
    let more : l.k < div_ceil (length a.flags.now) a.piece = omega arith in
    let here = pieces_here a.opening (record { flags = a.flags.now; values = a.values.now }) a.piece a.out.now c.requires l.p l.at l.k l.out more (l.invariant.pieces a.opening (ap (λ (x : Answered). x.processor) c.open-o.ensures) c.requires) in
    omega (arith, count_small a.opening (record { flags = a.flags.now; values = a.values.now }) a.piece a.out.now c.requires l.p l.at (l.k * a.piece) l.out here (all-bytes a.values.now (λ k. omega (arith, c.type_inv.values k))) _ (ap (λ (n : ℕ). l.k * a.piece + n) c.min.ensures) c.take-t.result _ c.take-t.ensures c.unwrap_or.result c.unwrap_or.ensures)

pub loop-k-preserved : goal.loop-k-preserved
loop-k-preserved c =
    let a = c.args in
    let l = c.loop-k in
    let more : l.k < div_ceil (length a.flags.now) a.piece = omega arith in
    let step = ap (λ (n : ℕ). l.k * a.piece + n) c.min.ensures in
    record {
      pieces = λ ω e ok.
          pieces_there ω (record { flags = a.flags.now; values = a.values.now }) a.piece a.out.now ok _ _ l.k _ more _ step
          (pieces_next ω (record { flags = a.flags.now; values = a.values.now }) a.piece a.out.now ok l.p l.at (l.k * a.piece) l.out
          (pieces_here ω (record { flags = a.flags.now; values = a.values.now }) a.piece a.out.now ok l.p l.at l.k l.out more (l.invariant.pieces ω e ok))
          (all-bytes a.values.now (λ k. omega (arith, c.type_inv.values k))) _ step c.take-t.result _ c.take-t.ensures c.unwrap_or.result c.unwrap_or.ensures (omega (arith, c.out-1.given)));
    }

pub shape_of-out : goal.shape_of-out
shape_of-out c =
    let a = c.args in
    (c.loop-k.invariant.pieces a.opening (ap (λ (x : Answered). x.processor) c.open-o.ensures) c.requires).size

pub returns : goal.returns
returns c =
    let a = c.args in
    let l = c.loop-k in
    let last = begin_last (length a.flags.now) a.piece (some a.opening (record { flags = a.flags.now; values = a.values.now }) a.piece a.out.now c.requires) l.k (omega arith) in
    pieces_end a.opening (record { flags = a.flags.now; values = a.values.now }) a.piece a.out.now c.requires l.p l.at _ l.out (l.invariant.pieces a.opening (ap (λ (x : Answered). x.processor) c.open-o.ensures) c.requires) last
