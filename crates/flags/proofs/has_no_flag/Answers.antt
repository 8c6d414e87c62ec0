-- `has_no_flag` tells whether all bytes are 0: those of each block, and those behind the blocks.
use Prim.Native.Nat.{◌/◌}
use mathlib.Core.Path.{ap, ◌∙◌}
use lib.Dec.{eqb}
use lib.ListN.{length}
use Rattle.std.specs.Simd.{first_chunks}
use Rattle.std.proofs.Common.{rules, tests}
use Rattle.std.proofs.lemmas.Iterator.{YieldsList-from_slice}
use Rattle.std.proofs.lemmas.Iterator.Search.{all_from_yields_List}
use Rattle.flags.specs.Flags.{no_flags}
use Rattle.flags.proofs.Blocks.{flag_in_block, none_behind, none_of_bytes}
use Rattle.flags.proofs.has_no_flag.Goals as goal

pub returns-then-all : goal.returns-then-all
returns-then-all c =
    let f = c.args.flags.now in
    let n = length f / 64 in
    let rest = c.as_chunks.result.1.now in
    all_from_yields_List (λ x. eqb x 0) _ _ _ c.all-then-all.ensures.ran (YieldsList-from_slice rest cc) (λ x b q k. search (rules, tests))
    ∙ none_of_bytes rest ∙ ap no_flags c.as_chunks.ensures.back
    ∙ none_behind n f (all_from_yields_List no_flags _ _ _ c.all.ensures.ran (YieldsList-from_slice (first_chunks 64 n f) cc) (λ x b q k. search (rules, tests))) c.if-all.true

pub returns-else-all : goal.returns-else-all
returns-else-all c =
    let f = c.args.flags.now in
    let n = length f / 64 in
    flag_in_block n f (all_from_yields_List no_flags _ _ _ c.all.ensures.ran (YieldsList-from_slice (first_chunks 64 n f) cc) (λ x b q k. search (rules, tests))) c.if-all.false
