-- `has_bad` tells whether a byte is bad: one of a block, or one behind the blocks.
use Prim.Native.Nat.{◌/◌}
use mathlib.Core.Path.{ap, ◌∙◌}
use lib.ListN.{length}
use Rattle.std.specs.Simd.{first_chunks}
use Rattle.std.proofs.Common.{rules, tests}
use Rattle.std.proofs.lemmas.Iterator.{YieldsList-from_slice}
use Rattle.std.proofs.lemmas.Iterator.Search.{any_from_yields_List}
use Rattle.rules.specs.Lists.{any}
use Rattle.rules.specs.Samples.{bad}
use Rattle.flags.proofs.Blocks.{any_in_block, any_behind}
use Rattle.flags.proofs.has_bad.Goals as goal

pub returns-then-any : goal.returns-then-any
returns-then-any c =
    let f = c.args.flags.now in
    let n = length f / 64 in
    any_in_block bad n f (any_from_yields_List (any bad) _ _ _ c.any.ensures.ran (YieldsList-from_slice (first_chunks 64 n f) cc) (λ x b q k. search (rules, tests))) c.if-any.true

pub returns-else-any : goal.returns-else-any
returns-else-any c =
    let f = c.args.flags.now in
    let n = length f / 64 in
    c.bad_byte.ensures ∙ ap (any bad) c.as_chunks.ensures.back
    ∙ any_behind bad n f (any_from_yields_List (any bad) _ _ _ c.any.ensures.ran (YieldsList-from_slice (first_chunks 64 n f) cc) (λ x b q k. search (rules, tests))) c.if-any.false
