use Rattle.whole_refusals.proofs.Refusing.{handed_on, opening-refused, opening-passed, gives_4, gives_5_low, gives_5_high, gives_6, gives_7, gives_7_totals, gives_8, gives_none}
use mathlib.Core.Path.{sym, ◌∙◌}
use lib.ListN.{length}
use native.Mathlib.Omega.{arith}
use Rattle.whole_refusals.proofs.whole_refusal.Goals as goal

pub returns-in_err-open_refusal : goal.returns-in_err-open_refusal
returns-in_err-open_refusal c =
    let a = c.args in
    handed_on c.from_residual.result _ c.from_residual.ensures
    ∙ opening-refused a.opening (record { flags = a.flags.now; values = a.values.now }) a.piece (length a.out.now) (length a.totals.now) _ c.in_err-open_refusal.ensures

pub returns-then-n-values : goal.returns-then-n-values
returns-then-n-values c =
    let a = c.args in
    opening-passed a.opening (record { flags = a.flags.now; values = a.values.now }) a.piece (length a.out.now) (length a.totals.now) _ c.in_ok-open_refusal.ensures
    (gives_4 (record { flags = a.flags.now; values = a.values.now }) a.piece (length a.out.now) (length a.totals.now) c.if-n-values.true)

pub returns-then-piece-lt1 : goal.returns-then-piece-lt1
returns-then-piece-lt1 c =
    let a = c.args in
    opening-passed a.opening (record { flags = a.flags.now; values = a.values.now }) a.piece (length a.out.now) (length a.totals.now) _ c.in_ok-open_refusal.ensures
    (gives_5_low (record { flags = a.flags.now; values = a.values.now }) a.piece (length a.out.now) (length a.totals.now) c.if-n-values.false (omega arith))

pub returns-then-piece-gt4096 : goal.returns-then-piece-gt4096
returns-then-piece-gt4096 c =
    let a = c.args in
    opening-passed a.opening (record { flags = a.flags.now; values = a.values.now }) a.piece (length a.out.now) (length a.totals.now) _ c.in_ok-open_refusal.ensures
    (gives_5_high (record { flags = a.flags.now; values = a.values.now }) a.piece (length a.out.now) (length a.totals.now) c.if-n-values.false (omega arith) (omega arith))

pub returns-then-n-gt32768 : goal.returns-then-n-gt32768
returns-then-n-gt32768 c =
    let a = c.args in
    opening-passed a.opening (record { flags = a.flags.now; values = a.values.now }) a.piece (length a.out.now) (length a.totals.now) _ c.in_ok-open_refusal.ensures
    (gives_6 (record { flags = a.flags.now; values = a.values.now }) a.piece (length a.out.now) (length a.totals.now) c.if-n-values.false (omega arith) (omega arith) (omega arith))

pub returns-then-out-whole_room : goal.returns-then-out-whole_room
returns-then-out-whole_room c =
    let a = c.args in
    opening-passed a.opening (record { flags = a.flags.now; values = a.values.now }) a.piece (length a.out.now) (length a.totals.now) _ c.in_ok-open_refusal.ensures
    (gives_7 (record { flags = a.flags.now; values = a.values.now }) a.piece (length a.out.now) (length a.totals.now) c.if-n-values.false (omega arith) (omega arith) (omega arith) (omega (arith, c.whole_room.ensures, c.if-out-whole_room.true)))

pub returns-then-totals-lt-TOTALS : goal.returns-then-totals-lt-TOTALS
returns-then-totals-lt-TOTALS c =
    let a = c.args in
    opening-passed a.opening (record { flags = a.flags.now; values = a.values.now }) a.piece (length a.out.now) (length a.totals.now) _ c.in_ok-open_refusal.ensures
    (gives_7_totals (record { flags = a.flags.now; values = a.values.now }) a.piece (length a.out.now) (length a.totals.now) c.if-n-values.false (omega arith) (omega arith) (omega arith) (omega (arith, c.whole_room.ensures, c.if-out-whole_room.false)) (omega arith))

pub returns-then-has_bad : goal.returns-then-has_bad
returns-then-has_bad c =
    let a = c.args in
    opening-passed a.opening (record { flags = a.flags.now; values = a.values.now }) a.piece (length a.out.now) (length a.totals.now) _ c.in_ok-open_refusal.ensures
    (gives_8 (record { flags = a.flags.now; values = a.values.now }) a.piece (length a.out.now) (length a.totals.now) c.if-n-values.false (omega arith) (omega arith) (omega arith) (omega (arith, c.whole_room.ensures, c.if-out-whole_room.false)) (omega arith) (sym c.has_bad.ensures ∙ c.if-has_bad.true))

pub returns : goal.returns
returns c =
    let a = c.args in
    opening-passed a.opening (record { flags = a.flags.now; values = a.values.now }) a.piece (length a.out.now) (length a.totals.now) _ c.in_ok-open_refusal.ensures
    (gives_none (record { flags = a.flags.now; values = a.values.now }) a.piece (length a.out.now) (length a.totals.now) c.if-n-values.false (omega arith) (omega arith) (omega arith) (omega (arith, c.whole_room.ensures, c.if-out-whole_room.false)) (omega arith) (sym c.has_bad.ensures ∙ c.if-has_bad.false))
