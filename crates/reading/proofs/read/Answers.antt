use Rattle.reading.proofs.Reading.{formed, kind_digits, opening_digits, samples_fit, read_9, read_other, read-open_10, read-open, read_uneven, read_none, read-samples, read-close_10, read-close}
use native.Mathlib.Omega.{arith}
use mathlib.Core.Path.{sym, ◌∙◌}
use Rattle.reading.proofs.read.Goals as goal

pub returns-then-not-well_formed : goal.returns-then-not-well_formed
returns-then-not-well_formed c = read_9 _ _ _ (sym c.well_formed-2.ensures ∙ c.if-not-well_formed.true)

pub overflow_sub-m : goal.overflow_sub-m
overflow_sub-m c = omega (arith, (formed _ (sym c.well_formed-2.ensures ∙ c.if-not-well_formed.false)).two)

pub byte_at-requires : goal.byte_at-requires
byte_at-requires c = kind_digits _ c.args.flags.now c.args.values.now (sym c.well_formed-2.ensures ∙ c.if-not-well_formed.false)

pub byte_at-high-requires : goal.byte_at-high-requires
byte_at-high-requires c =
    opening_digits _ c.args.flags.now c.args.values.now (sym c.well_formed-2.ensures ∙ c.if-not-well_formed.false) 4 c.if-m-eq8.true (omega arith)

pub byte_at-low-requires : goal.byte_at-low-requires
byte_at-low-requires c =
    opening_digits _ c.args.flags.now c.args.values.now (sym c.well_formed-2.ensures ∙ c.if-not-well_formed.false) 6 c.if-m-eq8.true (omega arith)

pub byte_at-requires-in-1 : goal.byte_at-requires-in-1
byte_at-requires-in-1 c =
    opening_digits _ c.args.flags.now c.args.values.now (sym c.well_formed-2.ensures ∙ c.if-not-well_formed.false) 2 c.if-m-eq8.true (omega arith)

pub fill-requires : goal.fill-requires
fill-requires c =
    let pre = c.requires in
    samples_fit _ c.args.flags.now c.args.values.now (sym c.well_formed-2.ensures ∙ c.if-not-well_formed.false) pre.0 pre.1 c.if-m-eq2.true

pub returns-in-1 : goal.returns-in-1
returns-in-1 c =
    read-open _ _ _ (sym c.well_formed-2.ensures ∙ c.if-not-well_formed.false) (sym c.byte_at.ensures ∙ c.in-1.is) c.if-m-eq8.true _ _ _ c.byte_at-in-1.ensures c.byte_at-high.ensures c.byte_at-low.ensures

pub returns-in-2 : goal.returns-in-2
returns-in-2 c =
    read-samples _ _ _ (sym c.well_formed-2.ensures ∙ c.if-not-well_formed.false) (sym c.byte_at.ensures ∙ c.in-2.is) c.if-m-eq2.true c.if-m-ge6.true _ _ c.fill.ensures

pub returns-in-3 : goal.returns-in-3
returns-in-3 c =
    read-close _ _ _ (sym c.well_formed-2.ensures ∙ c.if-not-well_formed.false) (sym c.byte_at.ensures ∙ c.in-3.is) c.if-m-eq2-2.true

pub returns-in_default : goal.returns-in_default
returns-in_default c =
    read-open_10 _ _ _ (sym c.well_formed-2.ensures ∙ c.if-not-well_formed.false) (sym c.byte_at.ensures ∙ c.in-1.is) c.if-m-eq8.false

pub returns-in_default-2 : goal.returns-in_default-2
returns-in_default-2 c =
    read_none _ _ _ (sym c.well_formed-2.ensures ∙ c.if-not-well_formed.false) (sym c.byte_at.ensures ∙ c.in-2.is) (omega (arith, c.if-m-ge6.false)) c.if-m-eq2.true

pub returns-in_default-3 : goal.returns-in_default-3
returns-in_default-3 c =
    read_uneven _ _ _ (sym c.well_formed-2.ensures ∙ c.if-not-well_formed.false) (sym c.byte_at.ensures ∙ c.in-2.is) c.if-m-eq2.false

pub returns-in_default-4 : goal.returns-in_default-4
returns-in_default-4 c =
    read-close_10 _ _ _ (sym c.well_formed-2.ensures ∙ c.if-not-well_formed.false) (sym c.byte_at.ensures ∙ c.in-3.is) c.if-m-eq2-2.false

pub returns-in_default-5 : goal.returns-in_default-5
returns-in_default-5 c =
    read_other _ _ _ (sym c.well_formed-2.ensures ∙ c.if-not-well_formed.false) (λ e. omega (arith, c.byte_at.ensures, e)) (λ e. omega (arith, c.byte_at.ensures, e)) (λ e. omega (arith, c.byte_at.ensures, e))
