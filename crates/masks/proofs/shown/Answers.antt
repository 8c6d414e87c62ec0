use Rattle.masks.proofs.MaskLaws.{shown_none, shown_law}
use native.Mathlib.Omega.{arith}
use mathlib.Core.Path.{refl}
use Prim.Native.Nat.{◌-◌}
use Rattle.masks.proofs.shown.Goals as goal

pub returns-then-q-gt65535 : goal.returns-then-q-gt65535
returns-then-q-gt65535 c =
    let a = c.args in
    shown_none a.words.now a.q.0 a.t.0 c.requires.first (λ i u l z. omega (arith, c.requires.below))

pub returns-then-t-q : goal.returns-then-t-q
returns-then-t-q c =
    let a = c.args in
    shown_none a.words.now a.q.0 a.t.0 c.requires.first (λ i u l z. omega arith)

pub returns : goal.returns
returns c =
    let a = c.args in
    shown_law a.words.now a.q.0 a.t.0 (a.t.0 - a.q.0 - 177) _ _ _ (omega arith) refl c.nth-a.ensures c.nth-b.ensures c.across.ensures
