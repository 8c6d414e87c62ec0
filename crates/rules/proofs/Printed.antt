-- Numbers that are printed in two bytes fit them: each total of a sweep, and each range.
-- At most one bracket stands at a tick, and each other total is a part of found.
use Prim.Native.Nat.{ℕ, zero, suc, ◌+◌, ◌≤◌, ◌<◌}
use native.Mathlib.Omega.{arith}
use mathlib.Core.Bool.{Bool, true, false, ◌&&◌, cond}
use lib.ListN.{length}
use Rattle.rules.specs.Settings.{Settings}
use Rattle.rules.specs.Lists.{All}
use Rattle.rules.specs.Samples.{Trace, sweep_limit}
use Rattle.rules.specs.Edges.{stands}
use Rattle.rules.specs.Replies.{f1}
use Rattle.rules.specs.Machine.{Given, given, is_bracket, bracket_at, brackets_below, final}
use Rattle.rules.specs.declared.Totals.{Totals}
use Rattle.rules.specs.Records.{range_of, replies, totals}
use Rattle.rules.proofs.ListLaws.{all_map}
use Rattle.rules.proofs.Outcomes.{accounted}
use Rattle.rules.proofs.Order.{rising_all, Ordered, ordered}
use Rattle.rules.proofs.Settled.{edge_timed}

-- a total as it is printed
pub record TwoBytes (x : Totals) : Type 0 where
  pub found : x.found < 65536
  pub replies : x.replies < 65536
  pub sidelobe : x.sidelobe < 65536
  pub garbled : x.garbled < 65536
  pub lost : x.lost < 65536
  pub phantoms : x.phantoms < 65536

pub brackets-most : (G : Given) (n : ℕ) → brackets_below G n ≤ n
unfolding brackets_below
brackets-most G zero = omega arith
brackets-most G (suc n) = go (stands (G.edge n) && is_bracket (bracket_at G n)) (brackets-most G n)
  where
    go : (b : Bool) → brackets_below G n ≤ n → brackets_below G n + cond b 1 0 ≤ suc n
    go true h = omega arith
    go false h = omega arith

-- the totals of a trace within the limit of a sweep
pub totals_fit : (set : Settings) (T : Trace) → length T.flags ≤ sweep_limit → TwoBytes (totals (final set T))
totals_fit set T h =
    let a = accounted set T in
    let b = brackets-most (given set T) (length T.flags) in
    let s = a.sum in
    let c = a.brackets in
    record { found = omega arith; replies = omega arith; sidelobe = omega arith; garbled = omega arith; lost = omega arith; phantoms = omega arith }

-- the replies of a trace stand in strictly rising order of F1, each F1 in the trace, at most four of them open
pub final_ordered : (set : Settings) (T : Trace) → Ordered (length T.flags) (final set T)
unfolding final
final_ordered set T = ordered (given set T) (edge_timed set T) (length T.flags)

pub ranges_fit : (set : Settings) (T : Trace) → length T.flags ≤ sweep_limit → All (λ r. (range_of r.f1).0 < 65536) (replies (final set T))
ranges_fit set T h =
    all_map (λ r. (0 ≤ f1 r) × (f1 r < length T.flags)) (λ r. (range_of r.f1).0 < 65536) (λ r k. omega (arith, k)) (replies (final set T))
    (rising_all 0 (length T.flags) (replies (final set T)) (final_ordered set T).rising)
