-- "Samples outside the trace count as all zero": zeros put behind a trace change no edge, and so no reply and no total.
-- A close is then a take of 385 zeros or more: it hands out what is left.
use Prim.Native.Nat.{ℕ, zero, suc, ◌+◌, ◌-◌, ◌≤◌, ◌<◌}
use native.Mathlib.Omega.{arith}
use mathlib.Core.Path.{◌≡◌, refl, sym, ap, ◌∙◌, subst}
use mathlib.Core.Bool.{Bool, true, false}
use mathlib.Core.List.{List, [], ◌∷◌, ◌++◌}
use lib.ListN.{length, get_or, drop, replicate, length-append, length-replicate}
use lib.Seq.{get_or-drop}
use borrow.Author.Tests.{le-leb}
use Rattle.rules.specs.declared.Reply.{Reply}
use Rattle.rules.specs.Settings.{Settings, Allowed}
use Rattle.rules.specs.Lists.{filter, reject}
use Rattle.rules.specs.Samples.{Trace, ◌⧺◌, M}
use Rattle.rules.specs.Edges.{stands, lead, falls, age, trail_within, goes_on, no_trail_lem, in_run, kind, since, age_at, kind_at, edge_at}
use Rattle.rules.specs.Replies.{f1}
use Rattle.rules.specs.Machine.{given, State, retired, after, final}
use Rattle.rules.specs.Records.{replies}
use Rattle.rules.specs.Calls.{due, fresh, rest, silence}
use Rattle.rules.proofs.Truth.{impossible}
use Rattle.rules.proofs.ListLaws.{filter-all, all_map}
use Rattle.rules.proofs.Locality.{kinds-at}
use Rattle.rules.proofs.Order.{Rising, rising_all, retired-replies, ordered}
use Rattle.rules.proofs.Apart.{edge-end}
use Rattle.rules.proofs.Settled.{edge_timed, after_same}
use Rattle.rules.proofs.Skipping.{skip}
use Rattle.rules.proofs.Printed.{final_ordered}

-- ---- lists that read alike

record Alike (w v : List ℕ) : Type 0 where
  at : (k : ℕ) → get_or w k 0 ≡ get_or v k 0

alike-drop : (n : ℕ) (w v : List ℕ) → Alike w v → Alike (drop n w) (drop n v)
alike-drop n w v h = record { at = λ k. get_or-drop n w k 0 ∙ h.at (n + k) ∙ sym (get_or-drop n v k 0) }

lead-alike : (w v : List ℕ) → Alike w v → lead w ≡ lead v
unfolding lead
lead-alike w v h = rw (h.at 0, h.at 1, h.at 2)

falls-alike : (w v : List ℕ) → Alike w v → falls w ≡ falls v
unfolding falls
falls-alike w v h = rw (h.at 1, h.at 2, h.at 3, h.at 4)

age-alike : (a : ℕ) (w v : List ℕ) → Alike w v → age a w ≡ age a v
unfolding age
age-alike a w v h = rw (lead-alike w v h, falls-alike w v h)

trail_within-alike : (n : ℕ) (w v : List ℕ) → Alike w v → trail_within n w ≡ trail_within n v
unfolding trail_within
trail_within-alike zero w v h = refl
trail_within-alike (suc n) w v h = let d = alike-drop 1 w v h in rw (falls-alike (drop 1 w) (drop 1 v) d, trail_within-alike n (drop 1 w) (drop 1 v) d)

goes_on-alike : (n : ℕ) (w v : List ℕ) → Alike w v → goes_on n w ≡ goes_on n v
unfolding goes_on
goes_on-alike zero w v h = refl
goes_on-alike (suc n) w v h =
    let d = alike-drop 1 w v h in
    rw (lead-alike (drop 1 w) (drop 1 v) d, falls-alike (drop 1 w) (drop 1 v) d, goes_on-alike n (drop 1 w) (drop 1 v) d)

no_trail-alike : (n : ℕ) (w v : List ℕ) → Alike w v → no_trail_lem n w ≡ no_trail_lem n v
unfolding no_trail_lem
no_trail-alike zero w v h = refl
no_trail-alike (suc n) w v h =
    let d = alike-drop 1 w v h in
    rw (lead-alike (drop 1 w) (drop 1 v) d, falls-alike (drop 1 w) (drop 1 v) d, no_trail-alike n (drop 1 w) (drop 1 v) d)

kind-alike : (set : Settings) (a : ℕ) (w v : List ℕ) → Alike w v → kind set a w ≡ kind set a v
unfolding kind in_run
kind-alike set a w v h =
    let d = alike-drop 4 w v h in
    let t = alike-drop 3 w v h in
    cc (lead-alike w v h, trail_within-alike (set.shortest - 1) w v h, goes_on-alike 3 w v h, lead-alike (drop 4 w) (drop 4 v) d, falls-alike (drop 4 w) (drop 4 v) d, no_trail-alike 4 (drop 3 w) (drop 3 v) t)

-- ---- zeros behind a list

replicate-zero : (n k : ℕ) → get_or {A = ℕ} (replicate n 0) k 0 ≡ 0
replicate-zero zero k = refl
replicate-zero (suc n) zero = refl
replicate-zero (suc n) (suc k) = replicate-zero n k

pub zeros_alike : (w : List ℕ) (n k : ℕ) → get_or (w ++ replicate n 0) k 0 ≡ get_or w k 0
zeros_alike [] n k = replicate-zero n k
zeros_alike (x ∷ w) n zero = refl
zeros_alike (x ∷ w) n (suc k) = zeros_alike w n k

since-alike : (F : List ℕ) (n t : ℕ) → Alike (since (F ++ replicate n 0) t) (since F t)
since-alike F n t = alike-drop t (0 ∷ 0 ∷ F ++ replicate n 0) (0 ∷ 0 ∷ F) (record { at = λ k. zeros_alike (0 ∷ 0 ∷ F) n k })

age_at_zeros : (F : List ℕ) (n t : ℕ) → age_at (F ++ replicate n 0) t ≡ age_at F t
unfolding age_at
age_at_zeros F n zero = age-alike 0 (since (F ++ replicate n 0) zero) (since F zero) (since-alike F n zero)
age_at_zeros F n (suc t) =
    ap (λ (a : ℕ). age a (since (F ++ replicate n 0) (suc t))) (age_at_zeros F n t)
    ∙ age-alike (age_at F t) (since (F ++ replicate n 0) (suc t)) (since F (suc t)) (since-alike F n (suc t))

kind_at_zeros : (set : Settings) (F : List ℕ) (n t : ℕ) → kind_at set (F ++ replicate n 0) t ≡ kind_at set F t
unfolding kind_at
kind_at_zeros set F n t =
    ap (λ (a : ℕ). kind set a (since (F ++ replicate n 0) t)) (age_at_zeros F n t) ∙ kind-alike set (age_at F t) (since (F ++ replicate n 0) t) (since F t) (since-alike F n t)

-- the edges of a trace with n zeros behind it are those of the trace
pub edge-silence : (set : Settings) (T : Trace) (n t : ℕ) → edge_at set (T ⧺ silence n) t ≡ edge_at set T t
unfolding edge_at M
edge-silence set T n t =
    cc
    (kinds-at set (T.flags ++ replicate n 0) t ∙ kind_at_zeros set T.flags n t ∙ sym (kinds-at set T.flags t), zeros_alike T.flags n (t + 1), zeros_alike T.values n (t + 1))

-- ---- the machine past the end

-- the same replies and counts
pub record Same (s t : State) : Type 0 where
  pub list : replies s ≡ replies t
  pub counts : s.counts ≡ t.counts

same-retired : (u n : ℕ) (s : State) → Rising 0 n (replies s) → Same (retired u s) s
unfolding retired
same-retired u n s h = record { list = retired-replies u n s h; counts = refl }

module _ (set : Settings) (ok : Allowed set) (T : Trace) where
  silent : (t : ℕ) → length T.flags ≤ t → stands (edge_at set T t) ≡ false
  silent t h = go (stands (edge_at set T t)) refl
    where
      go : (b : Bool) → stands (edge_at set T t) ≡ b → b ≡ false
      go true e = absurd (omega (arith, edge-end set ok T t e))
      go false e = refl

  after-end : (k : ℕ) → Same (after ◌+◌ (given set T) (length T.flags + k)) (final set T)
  unfolding final
  after-end zero =
      let n = length T.flags in
      let z : n + 0 ≡ n = omega arith in
      subst (λ (m : ℕ). Same (after ◌+◌ (given set T) m) (after ◌+◌ (given set T) n)) (sym z) (record { list = refl; counts = refl })
  after-end (suc k) =
      let n = length T.flags in
      let s = after ◌+◌ (given set T) n in
      let z : n + suc k ≡ suc (n + k) = omega arith in
      let e = skip (given set T) (edge_timed set T) k n (λ t l m q. absurd (impossible (sym q ∙ silent t l))) in
      subst (λ (m : ℕ). Same (after ◌+◌ (given set T) m) s) (sym z)
      (subst (λ (x : State). Same x s) (sym e) (same-retired (n + k) n s (ordered (given set T) (edge_timed set T) n).rising))

  -- past the end the machine keeps its replies and counts
  pub past_end : (m : ℕ) → length T.flags ≤ m → Same (after ◌+◌ (given set T) m) (final set T)
  past_end m h =
      let n = length T.flags in
      let z : n + (m - n) ≡ m = omega arith in
      subst (λ (k : ℕ). Same (after ◌+◌ (given set T) k) (final set T)) z (after-end (m - n))

  -- the machine on a trace with zeros behind it is that on the trace
  pub after-silence : (n m : ℕ) → after ◌+◌ (given set (T ⧺ silence n)) m ≡ after ◌+◌ (given set T) m
  after-silence n m = after_same (given set (T ⧺ silence n)) (given set T) refl m (λ t l. edge-silence set T n t)

  silence-length : (k : ℕ) → length (T.flags ++ replicate k 0) ≡ length T.flags + k
  silence-length k = length-append T.flags (replicate k 0) ∙ ap (λ (n : ℕ). length T.flags + n) (length-replicate k 0)

  final-silence : (k : ℕ) → Same (final set (T ⧺ silence k)) (final set T)
  unfolding final
  final-silence k =
      let N = length (T.flags ++ replicate k 0) in
      subst (λ (s : State). Same s (after ◌+◌ (given set T) (length T.flags))) (sym (after-silence k N)) (past_end N (omega (arith, silence-length k)))

  all-due : (k : ℕ) → 385 ≤ k → filter (due (length T.flags + k)) (replies (final set T)) ≡ replies (final set T)
  all-due k h =
      let n = length T.flags in
      let l = replies (final set T) in
      filter-all (due (n + k)) l
      (all_map (λ r. (0 ≤ f1 r) × (f1 r < n)) (λ r. due (n + k) r ≡ true) (λ r b. le-leb (f1 r + 385) (n + k) (omega (arith, b))) l
      (rising_all 0 n l (final_ordered set T).rising))

  -- what is left at a close is what a take of 385 zeros or more hands out
  pub rest-silence : (k : ℕ) → 385 ≤ k → fresh set T (silence k) ≡ rest set T
  unfolding fresh rest
  rest-silence k h =
      let n = length T.flags in
      ap (λ (m : ℕ). reject (due n) (filter (due (n + m)) (replies (final set (T ⧺ silence k))))) (length-replicate k 0)
      ∙ ap {B = List Reply} (λ l. reject (due n) (filter (due (n + k)) l)) (final-silence k).list
      ∙ ap {B = List Reply} (λ l. reject (due n) l) (all-due k h)
