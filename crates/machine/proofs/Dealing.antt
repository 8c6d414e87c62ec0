-- An edge that goes to one place or to all that cover it makes of the four what the rules say.
use Prim.Native.Nat.{ℕ, zero, suc, ◌+◌, ◌≤◌, ◌<◌}
use native.Mathlib.Omega.{arith}
use native.Mathlib.Numerals.{add-one}
use mathlib.Core.Logic.{◌⊎◌, inl, inr}
use mathlib.Core.Path.{◌≡◌, refl, sym, ap, ap₂, ◌∙◌, subst}
use mathlib.Core.Bool.{Bool, true, false, not, ◌&&◌, ◌||◌, cond}
use mathlib.Core.List.{List, [], ◌∷◌}
use lib.Dec.{leb, eqb}
use lib.ListN.{length, get_or, set, length-set}
use Rattle.rules.specs.declared.Reply.{Reply}
use Rattle.rules.specs.declared.Slot.{Slot}
use Rattle.rules.specs.declared.Slot.TheVariants.{Idle, Open}
use Rattle.rules.specs.declared.Place.{Place}
use Rattle.rules.specs.declared.Pulse.{Pulse}
use Rattle.rules.specs.Samples.{bit as digit}
use Rattle.rules.specs.Settings.{standard}
use Rattle.rules.specs.Replies.{Verdict, f1, position, is_position, agrees, covers, verdict, takes, bit_of, heard_at}
use Rattle.rules.proofs.Truth.{impossible}
use Rattle.replies.specs.Sums.{wrapped}
use Rattle.places.specs.Places.{test, idle, any3, position_slot, position_in, hear_slot_at, dealt}
use Rattle.places.proofs.PlaceLaws.{covers-in, deal_by}
use Rattle.plane.specs.Words.{bit}
use Rattle.marking.specs.declared.Words.{Words}
use Rattle.marking.specs.Marks.{four, Marked, AnyWord, two_of, TwiceWord, which_of}
use Rattle.agreement.specs.declared.Agreement.{Agreement}
use Rattle.agreement.specs.Voices.{covers_in, voices_by, any_of, others_of, agreement_by}
use Rattle.settling.specs.Deals.{heard_by, hearing, DealPost}
use Rattle.settling.proofs.Hearing.{covered_law}

-- place j becomes what f makes of it, if c
abbrev pub turned : Bool → ℕ → (Place → Place) → List Place → List Place
turned c j f l = cond c (set l j (f (get_or l j idle))) l

-- the first k places, of those that cover the edge by x, hear it
abbrev pub turned_to : Pulse → Agreement → ℕ → List Place → List Place
turned_to e x zero l = l
turned_to e x (suc k) l = turned (get_or x.covers k false) k (hearing e (get_or x.own k false) (get_or x.other k false)) (turned_to e x k l)

abbrev pub all_turned : Pulse → Bool → Bool → Bool → Bool → List Bool → List Place → List Place
all_turned e a b c d v l = turned_to e (record { covers = a ∷ b ∷ c ∷ d ∷ []; own = v; other = others_of v }) 4 l

pub record OnePost (l : List Place) (j : ℕ) (e : Pulse) (r : List Place) : Type 0 where
  pub at : test (covers e.tick.0) (get_or l j idle) ≡ true → r ≡ set l j (hearing e (true && test (agrees standard e.value) (get_or l j idle)) false (get_or l j idle))

pub record AllPost (l : List Place) (w : Words) (i : ℕ) (e : Pulse) (r : List Place) : Type 0 where
  pub at : Marked w i (covers e.tick.0) l → r ≡ all_turned e (bit w.a i) (bit w.b i) (bit w.c i) (bit w.d i) (voices_by e.value (covers_in w i) l) l

pub either : {A B C : Type 0} → A ⊎ B → (A → C) → (B → C) → C
either (inl a) f g = f a
either (inr b) f g = g b

-- a place stays where another changes
stays : (c : Bool) (j k : ℕ) (f : Place → Place) (l : List Place) → (j ≡ k → ⊥) → get_or (turned c j f l) k idle ≡ get_or l k idle
stays false j k f l n = refl
stays true j k f l n = go l j k n (f (get_or l j idle))
  where
    go : (l : List Place) (j k : ℕ) → (j ≡ k → ⊥) → (y : Place) → get_or (set l j y) k idle ≡ get_or l k idle
    go [] j k n y = refl
    go (x ∷ l) zero zero n y = absurd (n refl)
    go (x ∷ l) zero (suc k) n y = refl
    go (x ∷ l) (suc j) zero n y = refl
    go (x ∷ l) (suc j) (suc k) n y = go l j k (λ e. n (ap suc e)) y

-- ---- the four

-- a position that does not cover is not taken
untaken : (k w : ℕ) → is_position k ≡ false → takes k w ≡ false
untaken k w h = go (leb 1 k) (leb k 14) (eqb k 17) (not (digit (bit_of k) w)) h
  where
    go : (a b c d : Bool) → (b || c) ≡ false → ((a && b || c) && d) ≡ false
    go a true c d h = absurd (impossible h)
    go a false true d h = absurd (impossible h)
    go true false false d h = refl
    go false false false d h = refl

away : (e : Pulse) (x : Verdict) (u : ℕ) (s : Slot) → is_position (position_slot u s) ≡ false → s ≡ hear_slot_at wrapped (position_slot u s) e x s
away e x u Idle h = refl
away e x u (Open r) h =
    let k = position (f1 r) u in ap (λ (b : Bool). Open (cond b (heard_at wrapped k e x r) r)) (sym (untaken k r.word.settled h))

turn_of : (e : Pulse) (c own other : Bool) (p : Place) → c ≡ test (covers e.tick.0) p → cond c (hearing e own other p) p ≡ hearing e own other p
turn_of e true own other p h = refl
turn_of e false own other p h = λ i. record { slot = away e (verdict e.main own other) e.tick.0 p.slot (covers-in e.tick.0 p ∙ sym h) i }

turns : (e : Pulse) (a b c d : Bool) (v : List Bool) (l : List Place) → length l ≡ 4
    → four (all_turned e a b c d v l)
    ≡ record { p0 = cond a (hearing e (get_or v 0 false) (any_of v 1 2 3) (get_or l 0 idle)) (get_or l 0 idle); p1 = cond b (hearing e (get_or v 1 false) (any_of v 0 2 3) (get_or l 1 idle)) (get_or l 1 idle); p2 = cond c (hearing e (get_or v 2 false) (any_of v 0 1 3) (get_or l 2 idle)) (get_or l 2 idle); p3 = cond d (hearing e (get_or v 3 false) (any_of v 0 1 2) (get_or l 3 idle)) (get_or l 3 idle) }
turns e true true true true v (w ∷ x ∷ y ∷ z ∷ []) s = refl
turns e true true true false v (w ∷ x ∷ y ∷ z ∷ []) s = refl
turns e true true false true v (w ∷ x ∷ y ∷ z ∷ []) s = refl
turns e true true false false v (w ∷ x ∷ y ∷ z ∷ []) s = refl
turns e true false true true v (w ∷ x ∷ y ∷ z ∷ []) s = refl
turns e true false true false v (w ∷ x ∷ y ∷ z ∷ []) s = refl
turns e true false false true v (w ∷ x ∷ y ∷ z ∷ []) s = refl
turns e true false false false v (w ∷ x ∷ y ∷ z ∷ []) s = refl
turns e false true true true v (w ∷ x ∷ y ∷ z ∷ []) s = refl
turns e false true true false v (w ∷ x ∷ y ∷ z ∷ []) s = refl
turns e false true false true v (w ∷ x ∷ y ∷ z ∷ []) s = refl
turns e false true false false v (w ∷ x ∷ y ∷ z ∷ []) s = refl
turns e false false true true v (w ∷ x ∷ y ∷ z ∷ []) s = refl
turns e false false true false v (w ∷ x ∷ y ∷ z ∷ []) s = refl
turns e false false false true v (w ∷ x ∷ y ∷ z ∷ []) s = refl
turns e false false false false v (w ∷ x ∷ y ∷ z ∷ []) s = refl
turns e a b c d v [] s = absurd (omega arith)
turns e a b c d v (w ∷ []) s = absurd (omega arith)
turns e a b c d v (w ∷ x ∷ []) s = absurd (omega arith)
turns e a b c d v (w ∷ x ∷ y ∷ []) s = absurd (omega arith)
turns e a b c d v (w ∷ x ∷ y ∷ z ∷ t ∷ l) s = absurd (omega arith)

pub all-dealt : (e : Pulse) (a b c d : Bool) (l : List Place) → length l ≡ 4 → a ≡ test (covers e.tick.0) (get_or l 0 idle) → b ≡ test (covers e.tick.0) (get_or l 1 idle)
    → c ≡ test (covers e.tick.0) (get_or l 2 idle) → d ≡ test (covers e.tick.0) (get_or l 3 idle)
    → four (all_turned e a b c d (voices_by e.value (a ∷ b ∷ c ∷ d ∷ []) l) l) ≡ dealt wrapped standard e (four l)
all-dealt e a b c d l s ha hb hc hd =
    let v = voices_by e.value (a ∷ b ∷ c ∷ d ∷ []) l in
    let u = e.tick.0 in
    let p0 = get_or l 0 idle in
    let p1 = get_or l 1 idle in
    let p2 = get_or l 2 idle in
    let p3 = get_or l 3 idle in
    turns e a b c d v l s
    ∙ deal_by wrapped standard e (four l) (position_in u p0) (position_in u p1) (position_in u p2) (position_in u p3) (get_or v 0 false) (get_or v 1 false) (get_or v 2 false) (get_or v 3 false) (any_of v 1 2 3) (any_of v 0 2 3) (any_of v 0 1 3) (any_of v 0 1 2) (cond a (hearing e (get_or v 0 false) (any_of v 1 2 3) p0) p0) (cond b (hearing e (get_or v 1 false) (any_of v 0 2 3) p1) p1) (cond c (hearing e (get_or v 2 false) (any_of v 0 1 3) p2) p2) (cond d (hearing e (get_or v 3 false) (any_of v 0 1 2) p3) p3) refl refl refl refl (voice a p0 ha) (voice b p1 hb) (voice c p2 hc) (voice d p3 hd) refl refl refl refl (turn_of e a (get_or v 0 false) (any_of v 1 2 3) p0 ha) (turn_of e b (get_or v 1 false) (any_of v 0 2 3) p1 hb) (turn_of e c (get_or v 2 false) (any_of v 0 1 3) p2 hc) (turn_of e d (get_or v 3 false) (any_of v 0 1 2) p3 hd)
  where
    voice : (x : Bool) (p : Place) → x ≡ test (covers e.tick.0) p
        → (x && test (agrees standard e.value) p) ≡ (is_position (position_in e.tick.0 p) && test (agrees standard e.value) p)
    voice x p h = ap (λ (y : Bool). y && test (agrees standard e.value) p) (h ∙ sym (covers-in e.tick.0 p))

-- ---- one alone

one_turned : Pulse → ℕ → List Place → List Place
one_turned e j l = set l j (hearing e (true && test (agrees standard e.value) (get_or l j idle)) false (get_or l j idle))

one_of : (e : Pulse) (a b c d : Bool) (l : List Place) → (a || any3 b c d) ≡ true → two_of a b c d ≡ false → one_turned e (which_of b c d) l ≡ all_turned e a b c d (voices_by e.value (a ∷ b ∷ c ∷ d ∷ []) l) l
unfolding one_turned
one_of e true false false false l h k = refl
one_of e false true false false l h k = refl
one_of e false false true false l h k = refl
one_of e false false false true l h k = refl
one_of e false false false false l h k = absurd (impossible (sym h))
one_of e true true c d l h k = absurd (impossible k)
one_of e true false true d l h k = absurd (impossible k)
one_of e true false false true l h k = absurd (impossible k)
one_of e false true true d l h k = absurd (impossible k)
one_of e false true false true l h k = absurd (impossible k)
one_of e false false true true l h k = absurd (impossible k)

-- that one covers
only : (p : Place → Bool) (a b c d : Bool) (l : List Place) → (a || any3 b c d) ≡ true → two_of a b c d ≡ false → a ≡ p (get_or l 0 idle) → b ≡ p (get_or l 1 idle) → c ≡ p (get_or l 2 idle)
    → d ≡ p (get_or l 3 idle) → p (get_or l (which_of b c d) idle) ≡ true
only p true false false false l h k ha hb hc hd = sym ha
only p false true false false l h k ha hb hc hd = sym hb
only p false false true false l h k ha hb hc hd = sym hc
only p false false false true l h k ha hb hc hd = sym hd
only p false false false false l h k ha hb hc hd = absurd (impossible (sym h))
only p true true c d l h k ha hb hc hd = absurd (impossible k)
only p true false true d l h k ha hb hc hd = absurd (impossible k)
only p true false false true l h k ha hb hc hd = absurd (impossible k)
only p false true true d l h k ha hb hc hd = absurd (impossible k)
only p false true false true l h k ha hb hc hd = absurd (impossible k)
only p false false true true l h k ha hb hc hd = absurd (impossible k)

none_of : (e : Pulse) (a b c d : Bool) (l : List Place) → (a || any3 b c d) ≡ false → l ≡ all_turned e a b c d (voices_by e.value (a ∷ b ∷ c ∷ d ∷ []) l) l
none_of e false false false false l h = refl
none_of e true b c d l h = absurd (impossible h)
none_of e false true c d l h = absurd (impossible h)
none_of e false false true d l h = absurd (impossible h)
none_of e false false false true l h = absurd (impossible h)

-- ---- the functions

pub one_law : (l m : List Place) (j : ℕ) (e : Pulse) (own : Bool) (y : Place) → own ≡ (true && test (agrees standard e.value) (get_or l j idle))
    → y ≡ heard_by e own false (get_or l j idle) → m ≡ set l j y → OnePost l j e m
one_law l m j e own y ho h s =
    record { at = λ k. s ∙ ap (set l j) (h ∙ covered_law e own false (get_or l j idle) k ∙ ap (λ (b : Bool). hearing e b false (get_or l j idle)) ho) }

module _ (l : List Place) (w : Words) (i : ℕ) (e : Pulse) (s : length l ≡ 4) where
  dealt_by : Marked w i (covers e.tick.0) l
      → four (all_turned e (bit w.a i) (bit w.b i) (bit w.c i) (bit w.d i) (voices_by e.value (covers_in w i) l) l) ≡ dealt wrapped standard e (four l)
  dealt_by k = all-dealt e (bit w.a i) (bit w.b i) (bit w.c i) (bit w.d i) l s k.a k.b k.c k.d

  pub deal-all_law : (r : List Place) → AllPost l w i e r → DealPost l w i e r
  deal-all_law r h = record { at = λ k. ap four (h.at k) ∙ dealt_by k }

  pub deal-one_law : (r : List Place) (t x j : ℕ) (p q : Bool) → TwiceWord w t → p ≡ bit t i → p ≡ false → AnyWord w x → q ≡ bit x i → q ≡ true → j ≡ which_of (bit w.b i) (bit w.c i) (bit w.d i)
      → OnePost l j e r → DealPost l w i e r
  unfolding one_turned
  deal-one_law r t x j p q tw ep np aw eq yq ej h =
      let two = sym (tw.at i) ∙ sym ep ∙ np in
      let any = sym (aw.at i) ∙ sym eq ∙ yq in
      record {
        at = λ k.
            let there = only (test (covers e.tick.0)) (bit w.a i) (bit w.b i) (bit w.c i) (bit w.d i) l any two k.a k.b k.c k.d in
            ap four (h.at (ap (λ (n : ℕ). test (covers e.tick.0) (get_or l n idle)) ej ∙ there) ∙ ap (λ (n : ℕ). one_turned e n l) ej ∙ one_of e (bit w.a i) (bit w.b i) (bit w.c i) (bit w.d i) l any two)
            ∙ dealt_by k;
      }

  pub deal-none_law : (x : ℕ) (q : Bool) → AnyWord w x → q ≡ bit x i → q ≡ false → DealPost l w i e l
  deal-none_law x q aw eq nq =
      record { at = λ k. ap four (none_of e (bit w.a i) (bit w.b i) (bit w.c i) (bit w.d i) l (sym (aw.at i) ∙ sym eq ∙ nq)) ∙ dealt_by k }

-- the edge e has gone to the places l, which are now m
pub record Dealt (l : List Place) (w : Words) (i : ℕ) (e : Pulse) (m : List Place) : Type 0 where
  pub size : length m ≡ length l
  pub deal : DealPost l w i e m

-- ---- place by place

-- a place that is still to come is as it was
not_yet : (e : Pulse) (x : Agreement) (l : List Place) (k j : ℕ) → k ≤ j → get_or (turned_to e x k l) j idle ≡ get_or l j idle
not_yet e x l zero j h = refl
not_yet e x l (suc k) j h =
    stays (get_or x.covers k false) k j (hearing e (get_or x.own k false) (get_or x.other k false)) (turned_to e x k l) (λ z. omega arith)
    ∙ not_yet e x l k j (omega arith)

marked-at : (w : Words) (i : ℕ) (p : Reply → Bool) (l : List Place) → Marked w i p l → (k : ℕ) → k < 4 → get_or (covers_in w i) k false ≡ test p (get_or l k idle)
marked-at w i p l m zero h = m.a
marked-at w i p l m (suc zero) h = m.b
marked-at w i p l m (suc (suc zero)) h = m.c
marked-at w i p l m (suc (suc (suc zero))) h = m.d
marked-at w i p l m (suc (suc (suc (suc k)))) h = absurd (omega arith)

-- the edge e has gone to the first k of the places l, which are now m
pub record Turning (l : List Place) (w : Words) (i : ℕ) (e : Pulse) (k : ℕ) (m : List Place) : Type 0 where
  pub size : length m ≡ length l
  pub is : Marked w i (covers e.tick.0) l → m ≡ turned_to e (agreement_by e.value (covers_in w i) l) k l

pub turning_none : (l : List Place) (w : Words) (i : ℕ) (e : Pulse) → Turning l w i e 0 l
turning_none l w i e = record { size = refl; is = λ h. refl }

-- place k hears it if it covers it, by x
module _ (l : List Place) (w : Words) (i : ℕ) (e : Pulse) (x : Agreement) (ex : x ≡ agreement_by e.value (covers_in w i) l) (k : ℕ) (m : List Place) (t : Turning l w i e k m) where
  abbrev hears : Agreement → Place → Place
  hears y = hearing e (get_or y.own k false) (get_or y.other k false)

  one_more : (r : List Place) → Turning l w i e (suc k) r → Turning l w i e (k + 1) r
  one_more r = subst (λ (n : ℕ). Turning l w i e n r) (sym (add-one k))

  pub turning_heard : k < 4 → get_or x.covers k false ≡ true → (y : Place) → y ≡ heard_by e (get_or x.own k false) (get_or x.other k false) (get_or m k idle)
      → Turning l w i e (k + 1) (set m k y)
  turning_heard low c y h =
      one_more (set m k y)
      (record {
        size = length-set m k y ∙ t.size;
        is = λ z.
            let a = agreement_by e.value (covers_in w i) l in
            let u = turned_to e a k l in
            let ca : get_or a.covers k false ≡ true = ap (λ (b : Agreement). get_or b.covers k false) (sym ex) ∙ c in
            let same : get_or m k idle ≡ get_or l k idle = ap (λ (q : List Place). get_or q k idle) (t.is z) ∙ not_yet e a l k k (omega arith) in
            let there : test (covers e.tick.0) (get_or m k idle) ≡ true =
            ap (test (covers e.tick.0)) same ∙ sym (marked-at w i (covers e.tick.0) l z k low) ∙ ca in
            let became : y ≡ hears a (get_or u k idle) =
            h ∙ covered_law e (get_or x.own k false) (get_or x.other k false) (get_or m k idle) there ∙ ap (λ (b : Agreement). hears b (get_or m k idle)) ex
            ∙ ap (λ (q : List Place). hears a (get_or q k idle)) (t.is z) in
            ap₂ (λ (q : List Place) (p : Place). set q k p) (t.is z) became ∙ sym (ap (λ (b : Bool). turned b k (hears a) u) ca);
      })

  pub turning_passed : get_or x.covers k false ≡ false → Turning l w i e (k + 1) m
  turning_passed c =
      one_more m
      (record {
        size = t.size;
        is = λ z.
            let a = agreement_by e.value (covers_in w i) l in
            let ca : get_or a.covers k false ≡ false = ap (λ (b : Agreement). get_or b.covers k false) (sym ex) ∙ c in
            t.is z ∙ sym (ap (λ (b : Bool). turned b k (hears a) (turned_to e a k l)) ca);
      })

-- it has gone to all four
pub deals_four : (l m : List Place) (w : Words) (i : ℕ) (e : Pulse) → length l ≡ 4 → (k : ℕ) → k ≡ 4 → Turning l w i e k m → Dealt l w i e m
deals_four l m w i e s k h t =
    record { size = t.size; deal = deal-all_law l w i e s m (record { at = λ z. t.is z ∙ ap (λ (n : ℕ). turned_to e (agreement_by e.value (covers_in w i) l) n l) h }) }

-- it goes to one place
pub deals_one : (l : List Place) (w : Words) (i : ℕ) (e : Pulse) → length l ≡ 4 → (t x j : ℕ) (p q own : Bool) (y : Place) → TwiceWord w t → p ≡ bit t i → p ≡ false → AnyWord w x → q ≡ bit x i
    → q ≡ true → j ≡ which_of (bit w.b i) (bit w.c i) (bit w.d i) → own ≡ (true && test (agrees standard e.value) (get_or l j idle))
    → y ≡ heard_by e own false (get_or l j idle) → Dealt l w i e (set l j y)
deals_one l w i e s t x j p q own y tw ep hp aw eq hq ej eo ey =
    record { size = length-set l j y; deal = deal-one_law l w i e s (set l j y) t x j p q tw ep hp aw eq hq ej (one_law l (set l j y) j e own y eo ey refl) }

-- it goes to none
pub deals_none : (l : List Place) (w : Words) (i : ℕ) (e : Pulse) → length l ≡ 4 → (x : ℕ) (q : Bool) → AnyWord w x → q ≡ bit x i → q ≡ false → Dealt l w i e l
deals_none l w i e s x q aw eq hq = record { size = refl; deal = deal-none_law l w i e s x q aw eq hq }
