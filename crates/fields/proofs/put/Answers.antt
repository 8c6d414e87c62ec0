-- `fields::put` meets its contract.
use Rattle.std.proofs.Common.{◌≡◌, ℕ, List, ◌++◌, length, take, drop, sym, ap, ◌∙◌, append_assoc, arith}
use lib.Seq.{drop-drop}
use Rattle.rules.specs.Buffers.{over-at}
use Rattle.fields.proofs.put.Goals as goal

-- the bytes l between those before and those behind them
between : (l b : List ℕ) (at n : ℕ) → n ≡ length l → take at b ++ (l ++ drop n (drop at b)) ≡ over-at l at b
unfolding over-at
between l b at n e = rw e (sym (append_assoc (take at b) l _) ∙ ap (λ (x : List ℕ). take at b ++ l ++ x) (drop-drop (length l) at b))

pub returns : goal.returns
returns c =
    let a = c.args in
    rw c.copy_from_slice.ensures.after (between a.bytes.now a.out.now a.at _ (omega arith))
