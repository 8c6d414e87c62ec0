-- `is_quiet` asks in the order of `quiet`, and says no at the first test that fails.
use mathlib.Core.Path.{sym, ◌∙◌}
use mathlib.Core.Bool.{◌&&◌}
use lib.ListN.{length}
use Prim.Native.Nat.{◌+◌}
use Rattle.rules.proofs.Truth.{and_no, and_then}
use Rattle.flags.specs.Flags.{no_flags}
use Rattle.front.specs.Post.{blank}
use Rattle.blocks.specs.Steps.{none_due_lem}
use Rattle.blocks.proofs.Quiet.{quiet_too_long, quiet_too_far, quiet-within}
use Rattle.blocks.proofs.is_quiet.Goals as goal

pub returns-then-more-gt4096 : goal.returns-then-more-gt4096
returns-then-more-gt4096 c =
    let a = c.args in
    quiet_too_long a.f a.first a.base a.flags.now c.if-more-gt4096.true

pub returns-then-t-gt32768 : goal.returns-then-t-gt32768
returns-then-t-gt32768 c =
    let a = c.args in
    quiet_too_far a.f a.first a.base a.flags.now c.if-more-gt4096.false c.if-t-gt32768.true

pub returns-then-not-has_no_flag : goal.returns-then-not-has_no_flag
returns-then-not-has_no_flag c =
    let a = c.args in
    let z = blank a.f && none_due_lem a.first (a.base + length a.flags.now) in
    quiet-within a.f a.first a.base a.flags.now _ c.if-more-gt4096.false c.if-t-gt32768.false
    (and_no (no_flags a.flags.now) z (sym c.has_no_flag.ensures ∙ c.if-not-has_no_flag.true))

pub returns-then-not-is_blank : goal.returns-then-not-is_blank
returns-then-not-is_blank c =
    let a = c.args in
    let w = none_due_lem a.first (a.base + length a.flags.now) in
    quiet-within a.f a.first a.base a.flags.now _ c.if-more-gt4096.false c.if-t-gt32768.false
    (and_then (no_flags a.flags.now) (blank a.f && w) _ (sym c.has_no_flag.ensures ∙ c.if-not-has_no_flag.false)
    (and_no (blank a.f) w (sym c.is_blank.ensures ∙ c.if-not-is_blank.true)))

pub returns : goal.returns
returns c =
    let a = c.args in
    let w = none_due_lem a.first (a.base + length a.flags.now) in
    quiet-within a.f a.first a.base a.flags.now _ c.if-more-gt4096.false c.if-t-gt32768.false
    (and_then (no_flags a.flags.now) (blank a.f && w) _ (sym c.has_no_flag.ensures ∙ c.if-not-has_no_flag.false)
    (and_then (blank a.f) w _ (sym c.is_blank.ensures ∙ c.if-not-is_blank.false) c.none_due.ensures))
