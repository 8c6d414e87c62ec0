-- `handing::hand_one` meets its contract.
use Rattle.std.proofs.Common.{sym, refl, ◌∙◌, arith}
use Rattle.handing.proofs.Handing.{hand_idle, hand_open, hand_short, hand_done}
use Rattle.handing.proofs.hand_one.Goals.{then-not-ended-via-then-not-ended, then-not-ended-via-else-not-ended+then-saturating_sub-lt-RECORD}
use Rattle.handing.proofs.hand_one.Goals as goal

pub returns-in_default : goal.returns-in_default
returns-in_default c =
    let a = c.args in
    hand_idle a.u.0 a.at a.out.now a.p.slot c.in_default.is

pub returns-then-not-ended : goal.returns-then-not-ended
returns-then-not-ended c =
    let a = c.args in
    let over = sym (c.ended.ensures _ refl) in
    elim c.then-not-ended.branch [
      | then-not-ended-via-then-not-ended w ↦ hand_open a.u.0 a.at a.out.now a.p.slot _ c.in-Open.is (over ∙ w.if-not-ended.true)
      | then-not-ended-via-else-not-ended+then-saturating_sub-lt-RECORD w ↦
          hand_short a.u.0 a.at a.out.now a.p.slot _ c.in-Open.is (over ∙ w.if-not-ended.false) (omega (arith, w.saturating_sub.ensures, w.if-saturating_sub-lt-RECORD.true))
    ]

pub returns : goal.returns
returns c =
    let a = c.args in
    hand_done a.u.0 a.at a.out.now a.p.slot _ c.in-Open.is (sym (c.ended.ensures _ refl) ∙ c.if-not-ended.false)
    (omega (arith, c.saturating_sub.ensures, c.if-saturating_sub-lt-RECORD.false)) c.write_record.new.out c.write_record.ensures
