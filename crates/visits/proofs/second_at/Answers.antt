-- `visits::second_at` meets its contract.
use Prim.Native.Nat.{ℕ, ◌+◌}
use mathlib.Core.Path.{ap, ◌∙◌}
use Rattle.front.specs.Post.{value_of}
use Rattle.visits.proofs.second_at.Goals as goal

pub returns : goal.returns
returns c =
    let a = c.args in
    let w = c.second_tick-w.ensures.is in
    λ j. record {
      tick = record { 0 = w j };
      main = c.second_main.ensures j;
      value = (c.at.ensures ∙ ap (λ (d : ℕ). value_of a.values.now.recent.now a.values.now.base a.values.now.piece.now (d + 1)) w) j;
    }
