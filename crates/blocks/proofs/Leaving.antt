-- A reply that leaves its place: the places hold the list without it, and a bracket makes the same of the rest.
use Prim.Native.Nat.{ℕ, zero, suc, ◌+◌, ◌≤◌, ◌<◌}
use native.Mathlib.Omega.{arith}
use mathlib.Core.Path.{◌≡◌, refl, sym, ap, ◌∙◌, subst}
use mathlib.Core.Bool.{Bool, true, false, ◌||◌, cond}
use mathlib.Core.List.{List, [], ◌∷◌, ◌++◌, append_assoc}
use lib.Dec.{ltb}
use lib.ListN.{length, get_or}
use Rattle.std.specs.Prelude.{Some}
use Rattle.std.proofs.lemmas.Option.{none-some, same_Some}
use Rattle.rules.specs.declared.Reply.{Reply}
use Rattle.rules.specs.declared.Place.{Place}
use Rattle.rules.specs.declared.Pulse.{Pulse}
use Rattle.rules.specs.declared.Counts.{Counts}
use Rattle.std.proofs.Common.{Some}
use Rattle.rules.specs.declared.Fate.{Fate}
use Rattle.rules.specs.declared.Fate.TheVariants.{Sidelobe, Garbled, Lost, Opens}
use Rattle.rules.specs.Lists.{All, reject, filter, count}
use Rattle.rules.specs.Replies.{f1, covers, is_phantom, ended}
use Rattle.rules.specs.Machine.{State, retired, fate_by, fate, opened, live_after, tally, bracket}
use Rattle.rules.proofs.Truth.{impossible}
use Rattle.handing.specs.Post.{InOrder}
use Rattle.places.specs.Places.{test, idle, place_at, placed}
use Rattle.marking.specs.declared.Words.{Words}
use Rattle.marking.specs.Marks.{four, Marked, AllMarked, without_word_lem, without_place, behind_of, last_of, last_on}
use Rattle.marking.proofs.Marking.{without_marked}
use Rattle.blocks.specs.Leaving.{removed, less_phantom}

-- ---- the places

moved : (s : List Reply) (k : ℕ) → length s ≤ 4 → k < 4
    → record { p0 = place_at (behind_of 0 k) s; p1 = place_at (behind_of 1 k) s; p2 = place_at (behind_of 2 k) s; p3 = idle } ≡ placed (removed k s)
moved [] zero h lk = refl
moved [] (suc zero) h lk = refl
moved [] (suc (suc zero)) h lk = refl
moved [] (suc (suc (suc zero))) h lk = refl
moved [] (suc (suc (suc (suc k)))) h lk = absurd (omega arith)
moved (a ∷ []) zero h lk = refl
moved (a ∷ []) (suc zero) h lk = refl
moved (a ∷ []) (suc (suc zero)) h lk = refl
moved (a ∷ []) (suc (suc (suc zero))) h lk = refl
moved (a ∷ []) (suc (suc (suc (suc k)))) h lk = absurd (omega arith)
moved (a ∷ b ∷ []) zero h lk = refl
moved (a ∷ b ∷ []) (suc zero) h lk = refl
moved (a ∷ b ∷ []) (suc (suc zero)) h lk = refl
moved (a ∷ b ∷ []) (suc (suc (suc zero))) h lk = refl
moved (a ∷ b ∷ []) (suc (suc (suc (suc k)))) h lk = absurd (omega arith)
moved (a ∷ b ∷ c ∷ []) zero h lk = refl
moved (a ∷ b ∷ c ∷ []) (suc zero) h lk = refl
moved (a ∷ b ∷ c ∷ []) (suc (suc zero)) h lk = refl
moved (a ∷ b ∷ c ∷ []) (suc (suc (suc zero))) h lk = refl
moved (a ∷ b ∷ c ∷ []) (suc (suc (suc (suc k)))) h lk = absurd (omega arith)
moved (a ∷ b ∷ c ∷ d ∷ []) zero h lk = refl
moved (a ∷ b ∷ c ∷ d ∷ []) (suc zero) h lk = refl
moved (a ∷ b ∷ c ∷ d ∷ []) (suc (suc zero)) h lk = refl
moved (a ∷ b ∷ c ∷ d ∷ []) (suc (suc (suc zero))) h lk = refl
moved (a ∷ b ∷ c ∷ d ∷ []) (suc (suc (suc (suc k)))) h lk = absurd (omega arith)
moved (a ∷ b ∷ c ∷ d ∷ r ∷ s) k h lk = absurd (omega arith)

at_place : (l : List Place) (s : List Reply) → four l ≡ placed s → (j : ℕ) → j < 4 → get_or l j idle ≡ place_at j s
at_place l s e zero h = λ i. (e i).p0
at_place l s e (suc zero) h = λ i. (e i).p1
at_place l s e (suc (suc zero)) h = λ i. (e i).p2
at_place l s e (suc (suc (suc zero))) h = λ i. (e i).p3
at_place l s e (suc (suc (suc (suc j)))) h = absurd (omega arith)

behind-low : (j k : ℕ) → j < 3 → behind_of j k < 4
behind-low j k h = go (ltb j k)
  where
    go : (b : Bool) → cond b j (j + 1) < 4
    go true = omega arith
    go false = omega arith

pub without_there : (l : List Place) (s : List Reply) (k : ℕ) → four l ≡ placed s → length s ≤ 4 → k < 4 → four (without_place k l) ≡ placed (removed k s)
without_there l s k e h lk =
    let a = at_place l s e (behind_of 0 k) (behind-low 0 k (omega arith)) in
    let b = at_place l s e (behind_of 1 k) (behind-low 1 k (omega arith)) in
    let c = at_place l s e (behind_of 2 k) (behind-low 2 k (omega arith)) in
    (λ i. record { p0 = a i; p1 = b i; p2 = c i; p3 = idle }) ∙ moved s k h lk

-- ---- the list without one that passes the test

pub removed-short : (k : ℕ) (s : List Reply) → length (removed k s) ≤ length s
removed-short k [] = omega arith
removed-short zero (r ∷ s) = omega arith
removed-short (suc k) (r ∷ s) = omega (arith, removed-short k s)

module _ (p : Reply → Bool) where
  pub reject_there : (s : List Reply) (k : ℕ) → test p (place_at k s) ≡ true → reject p (removed k s) ≡ reject p s
  reject_there [] k h = absurd (impossible (sym h))
  reject_there (r ∷ s) zero h = sym (rw h)
  reject_there (r ∷ s) (suc k) h = ap (λ (m : List Reply). cond (p r) m (r ∷ m)) (reject_there s k h)

  count-cond : (b : Bool) (r : Reply) (m n : List Reply) → length n ≡ length m + 1 → length (cond b (r ∷ n) n) ≡ length (cond b (r ∷ m) m) + 1
  count-cond true r m n h = omega (arith, h)
  count-cond false r m n h = h

  pub count_there : (s : List Reply) (k : ℕ) → test p (place_at k s) ≡ true → count p s ≡ count p (removed k s) + 1
  count_there [] k h = absurd (impossible (sym h))
  count_there (r ∷ s) zero h =
      let z : length (cond (p r) (r ∷ filter p s) (filter p s)) ≡ length (r ∷ filter p s) = ap (λ (b : Bool). length (cond b (r ∷ filter p s) (filter p s))) h in
      omega (arith, z)
  count_there (r ∷ s) (suc k) h = count-cond (p r) r (filter p (removed k s)) (filter p s) (count_there s k h)

  -- the last that passes does
  last_by : (s : List Reply) (a b c d : Bool) → a ≡ test p (place_at 0 s) → b ≡ test p (place_at 1 s) → c ≡ test p (place_at 2 s) → d ≡ test p (place_at 3 s) → (k : ℕ) → last_of a b c d ≡ Some k
      → test p (place_at k s) ≡ true
  last_by s a b c true ea eb ec ed k h = ap (λ (n : ℕ). test p (place_at n s)) (sym (same_Some 3 k h)) ∙ sym ed
  last_by s a b true false ea eb ec ed k h = ap (λ (n : ℕ). test p (place_at n s)) (sym (same_Some 2 k h)) ∙ sym ec
  last_by s a true false false ea eb ec ed k h = ap (λ (n : ℕ). test p (place_at n s)) (sym (same_Some 1 k h)) ∙ sym eb
  last_by s true false false false ea eb ec ed k h = ap (λ (n : ℕ). test p (place_at n s)) (sym (same_Some 0 k h)) ∙ sym ea
  last_by s false false false false ea eb ec ed k h = absurd (none-some k h)

  pub last_there : (l : List Place) (s : List Reply) (k : ℕ) → four l ≡ placed s → last_on p l ≡ Some k → test p (place_at k s) ≡ true
  last_there l s k e h =
      let t : (j : ℕ) → j < 4 → test p (get_or l j idle) ≡ test p (place_at j s) = λ j lj. ap (test p) (at_place l s e j lj) in
      last_by s (test p (get_or l 0 idle)) (test p (get_or l 1 idle)) (test p (get_or l 2 idle)) (test p (get_or l 3 idle)) (t 0 (omega arith)) (t 1 (omega arith)) (t 2 (omega arith)) (t 3 (omega arith)) k h

-- ---- the list stays in order

pub removed-all : (P : Reply → Type 0) (k : ℕ) (s : List Reply) → All P s → All P (removed k s)
removed-all P k [] h = tt
removed-all P zero (r ∷ s) h = h.1
removed-all P (suc k) (r ∷ s) h = (h.0, removed-all P k s h.1)

pub removed-order : (k : ℕ) (s : List Reply) → InOrder s → InOrder (removed k s)
removed-order k [] h = tt
removed-order zero (r ∷ s) h = h.1
removed-order (suc k) (r ∷ s) h = (removed-all (λ x. f1 r ≤ f1 x) k s h.0, removed-order k s h.1)

pub removed-length : (p : Reply → Bool) (s : List Reply) (k : ℕ) → test p (place_at k s) ≡ true → length s ≡ length (removed k s) + 1
removed-length p [] k h = absurd (impossible (sym h))
removed-length p (r ∷ s) zero h = omega arith
removed-length p (r ∷ s) (suc k) h = omega (arith, removed-length p s k h)

-- ---- the bracket makes the same of the rest

more : (y : Fate) (n : ℕ) (s : State) (k : ℕ) → (y ≡ Sidelobe → ⊥) → tally ◌+◌ y n (less_phantom k s).counts ≡ tally ◌+◌ y (n + 1) s.counts
more Sidelobe n s k h = absurd (h refl)
more Garbled n s k h =
    let c = s.counts in
    let e : c.phantoms + 1 + n ≡ c.phantoms + (n + 1) = omega arith in
    λ i. record { found = c.found + 1; opened = c.opened; sidelobe = c.sidelobe; garbled = c.garbled + 1; lost = c.lost; phantoms = e i }
more Lost n s k h =
    let c = s.counts in
    let e : c.phantoms + 1 + n ≡ c.phantoms + (n + 1) = omega arith in
    λ i. record { found = c.found + 1; opened = c.opened; sidelobe = c.sidelobe; garbled = c.garbled; lost = c.lost + 1; phantoms = e i }
more Opens n s k h =
    let c = s.counts in
    let e : c.phantoms + 1 + n ≡ c.phantoms + (n + 1) = omega arith in
    λ i. record { found = c.found + 1; opened = c.opened + 1; sidelobe = c.sidelobe; garbled = c.garbled; lost = c.lost; phantoms = e i }

after_same : (y : Fate) (l m ks : List Reply) (r : Reply) → (y ≡ Sidelobe → ⊥) → live_after y l ks r ≡ live_after y m ks r
after_same Sidelobe l m ks r h = absurd (h refl)
after_same Garbled l m ks r h = refl
after_same Lost l m ks r h = refl
after_same Opens l m ks r h = refl

is_side : Fate → Bool
is_side Sidelobe = true
is_side Garbled = false
is_side Lost = false
is_side Opens = false

side_by : (a b c : Bool) → a ≡ true → is_side (fate_by a b c) ≡ false
unfolding is_side
side_by true false c h = refl
side_by true true true h = refl
side_by true true false h = refl
side_by false b c h = absurd (impossible (sym h))

no_side : (e f : Pulse) (ks : List Reply) → (e.main || f.main) ≡ true → fate e f ks ≡ Sidelobe → ⊥
unfolding fate is_side
no_side e f ks h z = impossible (sym (ap is_side z) ∙ side_by (e.main || f.main) _ _ h)

pub phantom-same : (e f : Pulse) (s : State) (k : ℕ) → test (is_phantom e.tick.0) (place_at k s.live) ≡ true → (e.main || f.main) ≡ true
    → bracket ◌+◌ e (Some f) (less_phantom k s) ≡ bracket ◌+◌ e (Some f) s
unfolding bracket
phantom-same e f s k there main =
    let p = is_phantom e.tick.0 in
    let m = removed k s.live in
    let q = reject_there p s.live k there in
    let n = count_there p s.live k there in
    let K = reject p s.live in
    let ns = no_side e f K main in
    (λ i. record { done = s.done; live = live_after (fate e f (q i)) m (q i) (opened e f (q i)); counts = tally ◌+◌ (fate e f (q i)) (count p m) (less_phantom k s).counts })
    ∙ (λ i. record {
      done = s.done;
      live = after_same (fate e f K) m s.live K (opened e f K) ns i;
      counts = (more (fate e f K) (count p m) s k ns ∙ ap (λ (j : ℕ). tally ◌+◌ (fate e f K) j s.counts) (sym n)) i;
    })

-- ---- a reply that is over

-- the first open reply is handed out
pub over_first : (u : ℕ) (d l : List Reply) (r : Reply) (c : Counts) → ended u r ≡ true
    → retired u (record { done = d ++ (r ∷ []); live = l; counts = c }) ≡ retired u (record { done = d; live = r ∷ l; counts = c })
unfolding retired
over_first u d l r c h =
    let a : (d ++ (r ∷ [])) ++ filter (ended u) l ≡ d ++ filter (ended u) (r ∷ l) = append_assoc d (r ∷ []) (filter (ended u) l) ∙ ap {B = List Reply} (λ z. d ++ z) (sym (rw h)) in
    let b : reject (ended u) l ≡ reject (ended u) (r ∷ l) = sym (rw h) in
    λ i. record { done = a i; live = b i; counts = c }

-- ---- the words of ticks

pub marked-left : (k t : ℕ) (on risk on' risk' : Words) (l m : List Place) → k < 4 → on' ≡ without_word_lem k on → risk' ≡ without_word_lem k risk → m ≡ without_place k l → AllMarked t on risk l
    → AllMarked t on' risk' m
marked-left k t on risk on' risk' l m lk eo er em h =
    record {
      cover = λ i u li z.
          subst (λ (v : Words). Marked v i (covers u) m) (sym eo)
          (subst (λ (v : List Place). Marked (without_word_lem k on) i (covers u) v) (sym em) (without_marked on i (covers u) l (h.cover i u li z) k lk));
      phantom = λ i u li z.
          subst (λ (v : Words). Marked v i (is_phantom u) m) (sym er)
          (subst (λ (v : List Place). Marked (without_word_lem k risk) i (is_phantom u) v) (sym em) (without_marked risk i (is_phantom u) l (h.phantom i u li z) k lk));
    }
