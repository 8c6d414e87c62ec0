-- How much is handed out: a take of n ticks at most 4 x ceil(n/206) replies, a close at most eight. So the buffers of refusal 7 suffice.
-- What a take hands out has its F1 in a span of n ticks; what is left at a close has its F1 in a span of 217.
use Prim.Native.Nat.{ℕ, ◌+◌, ◌-◌, ◌*◌, ◌/◌, ◌≤◌}
use native.Mathlib.Omega.{arith}
use mathlib.Core.Path.{◌≡◌}
use mathlib.Core.Bool.{true, false}
use mathlib.Core.List.{List, [], ◌∷◌}
use lib.Dec.{leb}
use lib.ListN.{length}
use borrow.Author.Tests.{le-leb, leb-true, leb-false, lt-ltb}
use Rattle.rules.specs.declared.Reply.{Reply}
use Rattle.rules.specs.Settings.{Settings, Allowed}
use Rattle.rules.specs.Lists.{reject, count, All}
use Rattle.rules.specs.Samples.{Trace, ◌⧺◌}
use Rattle.rules.specs.Replies.{f1}
use Rattle.rules.specs.Machine.{given, final}
use Rattle.rules.specs.Records.{replies}
use Rattle.rules.specs.Calls.{most_replies, most_left, due, fresh, rest}
use Rattle.rules.specs.Sentences.{in_span}
use Rattle.rules.proofs.ListLaws.{count-between, filter-all}
use Rattle.rules.proofs.Settled.{edge_timed}
use Rattle.rules.proofs.Spacing.{Spaced, spaced, spans}
use Rattle.rules.proofs.EachReply.{all_early}

pub spaced_replies : (set : Settings) (T : Trace) → Spaced (replies (final set T))
unfolding final
spaced_replies set T = spaced (given set T) (edge_timed set T) (length T.flags)

-- not due after n ticks, and due p ticks later
fresh-span : (n p c : ℕ) → p ≤ 206 * c → (r : Reply) → due n r ≡ false → due (n + p) r ≡ true → in_span (n - 384) (206 * c) r ≡ true
fresh-span n p c h r d e =
    let l = leb-false (f1 r + 385) n d in
    let m = leb-true (f1 r + 385) (n + p) e in
    rw (le-leb (n - 384) (f1 r) (omega arith), lt-ltb (f1 r) (n - 384 + 206 * c) (omega arith))

pub fresh-most : (set : Settings) (T P : Trace) → length (fresh set T P) ≤ most_replies (length P.flags)
unfolding fresh
fresh-most set T P =
    let n = length T.flags in
    let p = length P.flags in
    let c = (p + 205) / 206 in
    let l = replies (final set (T ⧺ P)) in
    omega (arith, count-between (due n) (due (n + p)) (in_span (n - 384) (206 * c)) (fresh-span n p c (omega arith)) l, spans l (spaced_replies set (T ⧺ P)) c (n - 384))

-- not due after n ticks, though F1 is 168 ticks or more before the end
rest-span : (n : ℕ) (r : Reply) → due n r ≡ false → leb (f1 r + 168) n ≡ true → in_span (n - 384) (206 * 2) r ≡ true
rest-span n r d e =
    let l = leb-false (f1 r + 385) n d in
    let m = leb-true (f1 r + 168) n e in
    rw (le-leb (n - 384) (f1 r) (omega arith), lt-ltb (f1 r) (n - 384 + 412) (omega arith))

early_test : (n : ℕ) (l : List Reply) → All (λ r. f1 r + 168 ≤ n) l → All (λ r. leb (f1 r + 168) n ≡ true) l
early_test n [] h = tt
early_test n (r ∷ l) h = (le-leb (f1 r + 168) n h.0, early_test n l h.1)

pub rest-most : (set : Settings) → Allowed set → (T : Trace) → length (rest set T) ≤ most_left
unfolding rest
rest-most set ok T =
    let n = length T.flags in
    let l = replies (final set T) in
    let e = filter-all (λ r. leb (f1 r + 168) n) l (early_test n l (all_early set ok T)) in
    let b = count-between (due n) (λ r. leb (f1 r + 168) n) (in_span (n - 384) (206 * 2)) (rest-span n) l in
    let b' : length (reject (due n) l) ≤ count (in_span (n - 384) (206 * 2)) l = rw e at b in
    omega (arith, b', spans l (spaced_replies set T) 2 (n - 384))
