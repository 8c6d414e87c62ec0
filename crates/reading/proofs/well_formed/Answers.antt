use Rattle.reading.proofs.WellFormed.{well_short, well_long, well_odd, well_open, well_digits}
use native.Mathlib.Omega.{arith}
use Rattle.reading.proofs.well_formed.Goals as goal

pub returns-then-n-lt2 : goal.returns-then-n-lt2
returns-then-n-lt2 c = well_short c.args.line.now (omega (arith, c.if-n-lt2.true))

pub returns-then-n-gt259 : goal.returns-then-n-gt259
returns-then-n-gt259 c = well_long c.args.line.now (omega (arith, c.if-n-lt2.false)) (omega (arith, c.if-n-gt259.true))

pub returns-then-n-ne1 : goal.returns-then-n-ne1
returns-then-n-ne1 c = well_odd c.args.line.now (omega (arith, c.if-n-lt2.false)) (omega (arith, c.if-n-gt259.false)) c.if-n-ne1.true

pub bounds-line-n : goal.bounds-line-n
bounds-line-n c = omega (arith, c.if-n-lt2.false)

pub returns-then-line-n-ne10 : goal.returns-then-line-n-ne10
returns-then-line-n-ne10 c = well_open c.args.line.now (omega (arith, c.if-n-lt2.false)) (omega (arith, c.if-n-gt259.false)) c.if-n-ne1.false c.if-line-n-ne10.true

pub returns : goal.returns
returns c = well_digits c.args.line.now (omega (arith, c.if-n-lt2.false)) (omega (arith, c.if-n-gt259.false)) c.if-n-ne1.false c.if-line-n-ne10.false _ c.are_digits.ensures
