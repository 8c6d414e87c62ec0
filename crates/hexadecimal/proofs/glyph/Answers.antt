use native.Mathlib.Omega.{arith}
use Rattle.hexadecimal.proofs.Digits.{glyph-number, glyph_letter}
use Rattle.hexadecimal.proofs.glyph.Goals as goal

pub returns-then-x-lt10 : goal.returns-then-x-lt10
returns-then-x-lt10 c = glyph-number c.args.x c.if-x-lt10.true

pub returns : goal.returns
returns c = glyph_letter c.args.x (omega arith)
