use Rattle.refusals.proofs.Trying.{take_3, take_4, take_5, take_6, take_7, take_8, take_none}
use native.Mathlib.Omega.{arith}
use mathlib.Core.Path.{sym, ◌∙◌}
use Rattle.refusals.proofs.take_refusal.Goals as goal

pub returns-then-mode-eq0 : goal.returns-then-mode-eq0
returns-then-mode-eq0 c = take_3 c.args.mode c.args.taken (record { flags = c.args.flags.now; values = c.args.values.now }) c.args.room c.if-mode-eq0.true

pub returns-then-n-values : goal.returns-then-n-values
returns-then-n-values c = take_4 c.args.mode c.args.taken (record { flags = c.args.flags.now; values = c.args.values.now }) c.args.room c.if-mode-eq0.false c.if-n-values.true

pub returns-then-n-gt4096 : goal.returns-then-n-gt4096
returns-then-n-gt4096 c = take_5 c.args.mode c.args.taken (record { flags = c.args.flags.now; values = c.args.values.now }) c.args.room c.if-mode-eq0.false c.if-n-values.false c.if-n-gt4096.true

pub returns-then-taken-n-gt32768 : goal.returns-then-taken-n-gt32768
returns-then-taken-n-gt32768 c = take_6 c.args.mode c.args.taken (record { flags = c.args.flags.now; values = c.args.values.now }) c.args.room c.if-mode-eq0.false c.if-n-values.false c.if-n-gt4096.false c.if-taken-n-gt32768.true

pub returns-then-room-room_for : goal.returns-then-room-room_for
returns-then-room-room_for c = take_7 c.args.mode c.args.taken (record { flags = c.args.flags.now; values = c.args.values.now }) c.args.room c.if-mode-eq0.false c.if-n-values.false c.if-n-gt4096.false c.if-taken-n-gt32768.false (omega (arith, c.if-room-room_for.true, c.room_for.ensures))

pub returns-then-has_bad : goal.returns-then-has_bad
returns-then-has_bad c = take_8 c.args.mode c.args.taken (record { flags = c.args.flags.now; values = c.args.values.now }) c.args.room c.if-mode-eq0.false c.if-n-values.false c.if-n-gt4096.false c.if-taken-n-gt32768.false (omega (arith, c.if-room-room_for.false, c.room_for.ensures)) (sym c.has_bad.ensures ∙ c.if-has_bad.true)

pub returns : goal.returns
returns c = take_none c.args.mode c.args.taken (record { flags = c.args.flags.now; values = c.args.values.now }) c.args.room c.if-mode-eq0.false c.if-n-values.false c.if-n-gt4096.false c.if-taken-n-gt32768.false (omega (arith, c.if-room-room_for.false, c.room_for.ensures)) (sym c.has_bad.ensures ∙ c.if-has_bad.false)
