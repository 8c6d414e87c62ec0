use Prim.Native.Nat.{◌/◌}
use native.Mathlib.Omega.{arith}
use mathlib.Core.Path.{ap}
use Rattle.rules.specs.Records.{record_size}
use Rattle.std.specs.Prelude.{Ok}
use Rattle.processor.specs.declared.Processor.{Processor}
use Rattle.sweep.proofs.Operations.{take_done}
use Rattle.sweep.proofs.take_piece.Goals as goal

pub work-y-requires : goal.work-y-requires
work-y-requires c = omega (arith, c.requires)

pub overflow_cast-taken : goal.overflow_cast-taken
overflow_cast-taken c = omega (arith, c.requires)

pub overflow_add-taken : goal.overflow_add-taken
overflow_add-taken c = omega (arith, c.requires)

pub returns : goal.returns
returns c =
    let a = c.args in
    take_done a.p (record { flags = a.flags.now; values = a.values.now }) a.out.now c.requires (λ i. omega (arith, c.type_inv.values i)) _ c.work-y.result _ _ c.progress_of.ensures c.work-y.ensures c.keep.ensures _ (ap (λ (q : Processor). record { answer = Ok (c.work-y.result.at / record_size); processor = q }) c.moved.ensures)
