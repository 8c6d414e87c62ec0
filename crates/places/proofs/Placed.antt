-- The places that hold a list of at most four open replies: each step on the places is the rules' step on the list.
-- By cases on the list's length, where both sides compute to the same places.
use Prim.Native.Nat.{ℕ, ◌+◌, ◌≤◌}
use native.Mathlib.Omega.{arith}
use mathlib.Core.Path.{◌≡◌, refl, sym, ap, ◌∙◌}
use mathlib.Core.Bool.{Bool, true, false, cond}
use mathlib.Core.List.{List, [], ◌∷◌, ◌++◌, append-nil, append_assoc}
use lib.Dec.{leb}
use lib.ListN.{length}
use Rattle.rules.specs.declared.Reply.{Reply}
use Rattle.rules.specs.declared.Pulse.{Pulse}
use Rattle.places.specs.Four.{Places}
use Rattle.std.proofs.Common.{Option, Some, None}
use Rattle.rules.specs.declared.Fate.{Fate}
use Rattle.rules.specs.declared.Fate.TheVariants.{Sidelobe, Garbled, Lost, Opens}
use Rattle.rules.specs.declared.Slot.TheVariants.{Open}
use Rattle.rules.specs.Settings.{Settings}
use Rattle.rules.specs.Lists.{any, filter, reject, count}
use Rattle.rules.specs.Replies.{covers, inside, military, is_phantom}
use Rattle.rules.specs.Machine.{State, tally, fate, opened, live_after, bracket, deal_from, deal, edge_step}
use Rattle.rules.proofs.Truth.{or_left, or_right}
use Rattle.rules.proofs.ListLaws.{reject_short}
use Rattle.rules.proofs.Order.{bracket-short}
use Rattle.places.specs.Places.{test, always, any_in, count_in_lem, dealt, no_places_lem, pushed, sift_slot, sifted, without_by, without_in, opened_in, fate_in, places_after, bracket_on, bracket_if, step_on, placed, machine_of}

pub any-placed : (p : Reply → Bool) (l : List Reply) → length l ≤ 4 → any_in p (placed l) ≡ any p l
any-placed p [] h = refl
any-placed p (a ∷ []) h = refl
any-placed p (a ∷ b ∷ []) h = refl
any-placed p (a ∷ b ∷ c ∷ []) h = refl
any-placed p (a ∷ b ∷ c ∷ d ∷ []) h = refl
any-placed p (a ∷ b ∷ c ∷ d ∷ x ∷ l) h = absurd (omega arith)

deal-placed : (plus : ℕ → ℕ → ℕ) (set : Settings) (e : Pulse) (l : List Reply) → length l ≤ 4 → dealt plus set e (placed l) ≡ placed (deal_from plus set e [] l)
unfolding dealt
deal-placed plus set e [] h = refl
deal-placed plus set e (a ∷ []) h = refl
deal-placed plus set e (a ∷ b ∷ []) h = refl
deal-placed plus set e (a ∷ b ∷ c ∷ []) h = refl
deal-placed plus set e (a ∷ b ∷ c ∷ d ∷ []) h = refl
deal-placed plus set e (a ∷ b ∷ c ∷ d ∷ x ∷ l) h = absurd (omega arith)

push_placed : (r : Reply) (l : List Reply) → pushed r (placed l) ≡ placed (l ++ (r ∷ []))
unfolding pushed
push_placed r [] = refl
push_placed r (a ∷ []) = refl
push_placed r (a ∷ b ∷ []) = refl
push_placed r (a ∷ b ∷ c ∷ []) = refl
push_placed r (a ∷ b ∷ c ∷ d ∷ l) = refl

full_placed : (l : List Reply) → length l ≤ 4 → test always (placed l).p3 ≡ leb 4 (length l)
full_placed [] h = refl
full_placed (a ∷ []) h = refl
full_placed (a ∷ b ∷ []) h = refl
full_placed (a ∷ b ∷ c ∷ []) h = refl
full_placed (a ∷ b ∷ c ∷ d ∷ []) h = refl
full_placed (a ∷ b ∷ c ∷ d ∷ x ∷ l) h = absurd (omega arith)

-- ---- removing

-- l with r put last, unless r goes
snoc_unless : Bool → List Reply → Reply → List Reply
snoc_unless true l r = l
snoc_unless false l r = l ++ (r ∷ [])

sift_placed : (g : Bool) (r : Reply) (l : List Reply) → sift_slot g (Open r) (placed l) ≡ placed (snoc_unless g l r)
unfolding snoc_unless
sift_placed true r l = refl
sift_placed false r l = push_placed r l

sieve : (Reply → Bool) → List Reply → List Reply → List Reply
sieve p k [] = k
sieve p k (x ∷ l) = sieve p (snoc_unless (p x) k x) l

snoc_reject : (g : Bool) (k : List Reply) (x : Reply) (m : List Reply) → snoc_unless g k x ++ m ≡ k ++ cond g m (x ∷ m)
unfolding snoc_unless
snoc_reject true k x m = refl
snoc_reject false k x m = append_assoc k (x ∷ []) m

sieve_is : (p : Reply → Bool) (k l : List Reply) → sieve p k l ≡ k ++ reject p l
unfolding sieve
sieve_is p k [] = sym (append-nil k)
sieve_is p k (x ∷ l) = sieve_is p (snoc_unless (p x) k x) l ∙ snoc_reject (p x) k x (reject p l)

-- nothing goes
reject_none : (p : Reply → Bool) (l : List Reply) → any p l ≡ false → reject p l ≡ l
reject_none p [] h = refl
reject_none p (x ∷ l) h = rw (or_left (p x) (any p l) h) (ap {B = List Reply} (λ m. x ∷ m) (reject_none p l (or_right (p x) (any p l) h)))

sift_all_lem : (Reply → Bool) → Places → Places
sift_all_lem p f = sifted (test p f.p3) f.p3 (sifted (test p f.p2) f.p2 (sifted (test p f.p1) f.p1 (sifted (test p f.p0) f.p0 no_places_lem)))

sift_all : (p : Reply → Bool) (l : List Reply) → length l ≤ 4 → sift_all_lem p (placed l) ≡ placed (sieve p [] l)
unfolding sift_all_lem sieve
sift_all p [] h = refl
sift_all p (a ∷ []) h = sift_placed (p a) a []
sift_all p (a ∷ b ∷ []) h = rw (sift_placed (p a) a []) (sift_placed (p b) b _)
sift_all p (a ∷ b ∷ c ∷ []) h = rw (sift_placed (p a) a [], sift_placed (p b) b (snoc_unless (p a) [] a)) (sift_placed (p c) c _)
sift_all p (a ∷ b ∷ c ∷ d ∷ []) h =
    rw (sift_placed (p a) a [], sift_placed (p b) b (snoc_unless (p a) [] a), sift_placed (p c) c (snoc_unless (p b) (snoc_unless (p a) [] a) b)) (sift_placed (p d) d _)
sift_all p (a ∷ b ∷ c ∷ d ∷ x ∷ l) h = absurd (omega arith)

pub without_placed : (p : Reply → Bool) (l : List Reply) → length l ≤ 4 → without_in p (placed l) ≡ placed (reject p l)
unfolding without_by sift_all_lem
without_placed p l h = go (any_in p (placed l)) refl
  where
    go : (b : Bool) → any_in p (placed l) ≡ b → cond b (sift_all_lem p (placed l)) (placed l) ≡ placed (reject p l)
    go true e = sift_all p l h ∙ ap placed (sieve_is p [] l)
    go false e = ap placed (sym (reject_none p l (sym (any-placed p l h) ∙ e)))

-- ---- counting

length-cond : (b : Bool) (x : Reply) (l : List Reply) → length (cond b (x ∷ l) l) ≡ cond b 1 0 + length l
length-cond true x l = omega arith
length-cond false x l = omega arith

pub count-placed : (p : Reply → Bool) (l : List Reply) → length l ≤ 4 → count_in_lem p (placed l) ≡ count p l
count-placed p [] h = refl
count-placed p (a ∷ []) h = omega (arith, length-cond (p a) a [])
count-placed p (a ∷ b ∷ []) h = omega (arith, length-cond (p a) a (filter p (b ∷ [])), length-cond (p b) b [])
count-placed p (a ∷ b ∷ c ∷ []) h =
    omega (arith, length-cond (p a) a (filter p (b ∷ c ∷ [])), length-cond (p b) b (filter p (c ∷ [])), length-cond (p c) c [])
count-placed p (a ∷ b ∷ c ∷ d ∷ []) h =
    omega (arith, length-cond (p a) a (filter p (b ∷ c ∷ d ∷ [])), length-cond (p b) b (filter p (c ∷ d ∷ [])), length-cond (p c) c (filter p (d ∷ [])), length-cond (p d) d [])
count-placed p (a ∷ b ∷ c ∷ d ∷ x ∷ l) h = absurd (omega arith)

-- ---- brackets

module _ (e f : Pulse) (l : List Reply) (h : length l ≤ 4) where
  opened-placed : opened_in e f (placed l) ≡ opened e f l
  unfolding opened_in opened
  opened-placed = rw (any-placed (covers e.tick.0) l h, any-placed (inside e.tick.0) l h, any-placed (military e.tick.0) l h)

  fate-placed : fate_in e f (placed l) ≡ fate e f l
  unfolding fate_in fate
  fate-placed = rw (any-placed (covers e.tick.0) l h, any-placed (covers f.tick.0) l h, full_placed l h)

after-placed : (x : Fate) (l ks : List Reply) (r : Reply) → places_after x (placed l) (placed ks) r ≡ placed (live_after x l ks r)
after-placed Sidelobe l ks r = refl
after-placed Garbled l ks r = refl
after-placed Lost l ks r = refl
after-placed Opens l ks r = push_placed r ks

module _ (plus : ℕ → ℕ → ℕ) (e : Pulse) where
  bracket-placed : (b : Option Pulse) (s : State) → length s.live ≤ 4 → bracket_if plus e b (machine_of s) ≡ machine_of (bracket plus e b s)
  unfolding bracket_on bracket
  bracket-placed None s h = refl
  bracket-placed (Some f) s h =
      let u = e.tick.0 in
      let ks = reject (is_phantom u) s.live in
      let k : length ks ≤ 4 = omega (arith, reject_short (is_phantom u) s.live) in
      rw (without_placed (is_phantom u) s.live h, count-placed (is_phantom u) s.live h, fate-placed e f ks k, opened-placed e f ks k)
      (λ i. record { places = after-placed (fate e f ks) s.live ks (opened e f ks) i; counts = tally plus (fate e f ks) (count (is_phantom u) s.live) s.counts })

  -- a bracket leaves at most four open
  still_four : (b : Option Pulse) (s : State) → length s.live ≤ 4 → length (bracket plus e b s).live ≤ 4
  unfolding bracket
  still_four None s h = h
  still_four (Some f) s h = bracket-short e (Some f) s h

  -- the whole step
  pub step-placed : (set : Settings) (b : Option Pulse) (s : State) → length s.live ≤ 4 → step_on plus set e b (machine_of s) ≡ machine_of (edge_step plus set e b s)
  unfolding step_on edge_step deal
  step-placed set b s h = rw (bracket-placed b s h, deal-placed plus set e (bracket plus e b s).live (still_four b s h))
