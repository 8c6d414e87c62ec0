-- What an edge makes of a reply that covers it: the laws behind `taken_in`, `hear` and `heard`.
use Rattle.std.proofs.Common.{◌≡◌, ℕ, zero, suc, ◌+◌, ◌-◌, ◌*◌, ◌/◌, ◌%◌, ◌^◌, ◌<◌, ◌≤◌, Bool, true, false, cond, ◌&&◌, eqb, leb, [], ◌∷◌, get_or, sym, refl, ap, ◌∙◌, arith, eqb-true, leb-true}
use lib.Ieee.{Float, nan}
use Rattle.rules.specs.declared.Estimate.{Estimate}
use Rattle.rules.specs.declared.Estimate.TheVariants.{Lone, Average}
use Rattle.rules.specs.declared.Word.{Word}
use Rattle.rules.specs.declared.Reference.{Reference}
use Rattle.rules.specs.declared.Reply.{Reply}
use Rattle.rules.specs.declared.Pulse.{Pulse}
use Rattle.rules.specs.declared.Slot.{Slot}
use Rattle.rules.specs.declared.Slot.TheVariants.{Idle, Open}
use Rattle.rules.specs.declared.Place.{Place}
use Rattle.places.specs.Places.{test, test_slot, position_slot, hear_at}
use Rattle.rules.specs.Replies.{Verdict, f1, position, is_position, covers, level, verdict, takes, settle, average, heard_at, bit_of}
use Rattle.rules.proofs.Truth.{impossible, and_left}
use Rattle.replies.specs.Sums.{wrapped, word_plus}
use Rattle.replies.proofs.ReplyLaws.{settle_law}
use Rattle.masks.specs.Masks.{covers_from}
use Rattle.settling.specs.Hearing.{position_number, place_of, position_of_bit, goes_to, fresh_in, kind_of, estimate_of_lem, hear_by}
use Rattle.settling.specs.Deals.{goes_to_slot, heard_by, hearing}
use Rattle.settling.proofs.FreshBits.{place-position, position-place, fresh-digit, fresh-bit}

-- ---- the position that covers a tick

covers-from : (q u : ℕ) → covers_from q u ≡ is_position (position q u)
unfolding covers_from
covers-from q u = refl

covers-parts : (q u : ℕ) → covers_from q u ≡ true → (leb q (u + 1) && leb ((u + 1 - q) % 12) 2) ≡ true
unfolding covers_from position
covers-parts q u h = go (leb q (u + 1) && leb ((u + 1 - q) % 12) 2) h
  where
    go : (b : Bool) → is_position (cond b ((u + 1 - q) / 12) 15) ≡ true → b ≡ true
    go true e = refl
    go false e = e

covers-position : (q u : ℕ) → covers_from q u ≡ true → position q u ≡ (u + 1 - q) / 12
unfolding position
covers-position q u h = rw (covers-parts q u h)

far_off : (k : ℕ) → is_position k ≡ true → k ≤ 17
far_off k h = go (leb k 14) refl (eqb k 17) refl
  where
    go : (a : Bool) → leb k 14 ≡ a → (b : Bool) → eqb k 17 ≡ b → k ≤ 17
    go true e b f = omega (arith, leb-true k 14 e)
    go false e true f = omega (arith, eqb-true k 17 f)
    go false e false f = absurd (impossible (sym h ∙ rw (e, f)))

near_by : (q u : ℕ) → covers_from q u ≡ true → (q ≤ u + 1) × ((u + 1 - q) / 12 ≤ 17)
unfolding covers_from
near_by q u h = (
  leb-true q (u + 1) (and_left (leb q (u + 1)) (leb ((u + 1 - q) % 12) 2) (covers-parts q u h)),
  far_off ((u + 1 - q) / 12) (ap is_position (sym (covers-position q u h)) ∙ h),
)

low_bits : (x y : ℕ) → x / 12 ≤ 17 → y ≡ x + 2 ^ 32 → y % 256 ≡ x
low_bits x y h e =
    let l : x < 256 = omega arith in
    omega (arith, l, e)

-- an edge goes to the position that covers it
covers-goes : (q u : ℕ) → covers_from q u ≡ true → goes_to q u ≡ position q u
unfolding goes_to
covers-goes q u h =
    let n = near_by q u h in
    let z : position_number q u ≡ (u + 1 - q) / 12 = ap (λ (x : ℕ). x / 12) (low_bits (u + 1 - q) (u + 1 + 2 ^ 32 - q) n.1 (omega (arith, n.0))) in
    ap (λ (k : ℕ). position_of_bit (place_of k)) (z ∙ sym (covers-position q u h)) ∙ place-position (position q u) (sym (covers-from q u) ∙ h)

-- ---- digits

-- two tests at once, or in turn
in_turn : (t s : Bool) (x y : Reference) → cond (t && s) x y ≡ cond t (cond s x y) y
in_turn true s x y = refl
in_turn false s x y = refl

-- a position that is settled as sure has a digit of 1
sure_digit : (t s : Bool) (g h : ℕ) → g ≡ cond t 1 0 → h ≡ cond s g 0 → eqb h 1 ≡ (t && s)
sure_digit true true g h eg eh = ap (λ (z : ℕ). eqb z 1) (eh ∙ eg)
sure_digit true false g h eg eh = ap (λ (z : ℕ). eqb z 1) eh
sure_digit false true g h eg eh = ap (λ (z : ℕ). eqb z 1) (eh ∙ eg)
sure_digit false false g h eg eh = ap (λ (z : ℕ). eqb z 1) eh

-- ---- the reference

estimate_back : (e : Estimate) → estimate_of_lem (kind_of e) (level e) ≡ e
estimate_back (Lone x) = refl
estimate_back (Average x) = refl

-- with x and y for the two levels, k for the kind, t for the place of the level, a for the estimate that is chosen
pub taken_law : (f : Reference) (h v : ℕ) → h < 2 → (g : Reference) → g ≡ average wrapped f v → (x y : Float) → x ≡ level f.estimate → y ≡ level g.estimate → (i j k : ℕ)
    → i ≡ kind_of g.estimate → j ≡ kind_of f.estimate → k ≡ cond (eqb h 1) i j → (t : ℕ) → t ≡ h → (a : Estimate) → a ≡ estimate_of_lem k (get_or (x ∷ y ∷ []) t nan) → (n s : ℕ) → n ≡ cond (eqb h 1) g.n f.n
    → s ≡ cond (eqb h 1) g.s f.s → record { estimate = a; n = n; s = s } ≡ cond (eqb h 1) (average wrapped f v) f
taken_law f zero v l g eg x y ex ey i j k ei ej ek t et a ea n s en es =
    λ z. record { estimate = (ea ∙ (λ u. estimate_of_lem ((ek ∙ ej) u) (get_or (ex u ∷ y ∷ []) (et u) nan)) ∙ estimate_back f.estimate) z; n = en z; s = es z }
taken_law f (suc zero) v l g eg x y ex ey i j k ei ej ek t et a ea n s en es =
    (λ z. record { estimate = (ea ∙ (λ u. estimate_of_lem ((ek ∙ ei) u) (get_or (x ∷ ey u ∷ []) (et u) nan)) ∙ estimate_back g.estimate) z; n = en z; s = es z }) ∙ eg
taken_law f (suc (suc h)) v l g eg x y ex ey i j k ei ej ek t et a ea n s en es = absurd (omega (arith, l))

-- ---- the reply

-- word and reference, by whether the position is settled
both : (t : Bool) (k : ℕ) (e : Pulse) (x : Verdict) (r : Reply)
    → record { f1 = r.f1; marks = r.marks; word = cond t (settle wrapped k x r.word) r.word; reference = cond t (cond x.confidence (average wrapped r.reference e.value) r.reference) r.reference }
    ≡ cond t (heard_at wrapped k e x r) r
unfolding average
both true k e x r = refl
both false k e x r = refl

-- the numbers of a word are of 16 bits
pub record Fitting (w : Word) : Type 0 where
  pub settled : w.settled < 65536
  pub code : w.code < 65536
  pub unsure : w.unsure < 65536

covers-both : (r : Reply) (u : ℕ) → covers_from (f1 r) u ≡ covers u r
unfolding covers_from covers
covers-both r u = refl

-- with k for the position, g for the digit that says whether the edge settles it, b for the reference after
pub heard_law : (r : Reply) (e : Pulse) (own other : Bool) → Fitting r.word → (k : ℕ) → k ≡ position_number (f1 r) e.tick.0 → (p : ℕ) → p ≡ place_of k → (g : ℕ)
    → g ≡ fresh_in r.word.settled p → (code sure : Bool) → code ≡ (verdict e.main own other).code → sure ≡ (verdict e.main own other).confidence → (c n h : ℕ)
    → c ≡ cond code ((g * 2 ^ p) % 2 ^ 16) 0 → n ≡ cond sure 0 ((g * 2 ^ p) % 2 ^ 16) → h ≡ cond sure g 0 → (a : Word) → a ≡ word_plus r.word ((g * 2 ^ p) % 2 ^ 16) c n
    → (b : Reference) → b ≡ cond (eqb h 1) (average wrapped r.reference e.value) r.reference
    → record { f1 = r.f1; marks = r.marks; word = a; reference = b } ≡ hear_by (goes_to (f1 r) e.tick.0) e (verdict e.main own other) r
unfolding goes_to
heard_law r e own other fit k ek p ep g eg code sure ec es c n h ed en eh a ea b eb =
    let P = place_of (position_number (f1 r) e.tick.0) in
    let K = position_of_bit P in
    let T = takes K r.word.settled in
    let W = verdict e.main own other in
    let back = position-place P (omega arith) in
    let at : p ≡ place_of K = ep ∙ ap place_of ek ∙ sym back.place in
    let there : g ≡ fresh_in r.word.settled (place_of K) = eg ∙ ap (fresh_in r.word.settled) at in
    let digit : g ≡ cond T 1 0 = there ∙ fresh-digit r.word.settled K back.is in
    let bit : (g * 2 ^ p) % 2 ^ 16 ≡ cond T (2 ^ bit_of K) 0 = (λ i. (there i * 2 ^ at i) % 2 ^ 16) ∙ fresh-bit r.word.settled K back.is in
    let word : a ≡ cond T (settle wrapped K W r.word) r.word =
    ea ∙ settle_law T K (record { code = code; confidence = sure }) _ c n r.word fit.settled fit.code fit.unsure bit ed en
    ∙ (λ i. cond T (settle wrapped K (record { code = ec i; confidence = es i }) r.word) r.word) in
    let reference : b ≡ cond T (cond W.confidence (average wrapped r.reference e.value) r.reference) r.reference =
    eb ∙ ap (λ (y : Bool). cond y (average wrapped r.reference e.value) r.reference) (sure_digit T sure g h digit eh)
    ∙ in_turn T sure (average wrapped r.reference e.value) r.reference
    ∙ ap (λ (y : Bool). cond T (cond y (average wrapped r.reference e.value) r.reference) r.reference) es in
    (λ i. record { f1 = r.f1; marks = r.marks; word = word i; reference = reference i }) ∙ both T K e W r

-- ---- the place

-- what a place that covers the edge makes of it
pub covered_law : (e : Pulse) (own other : Bool) (p : Place) → test (covers e.tick.0) p ≡ true → heard_by e own other p ≡ hearing e own other p
covered_law e own other p h = ap (λ (k : ℕ). hear_at wrapped k e (verdict e.main own other) p) (go p.slot h)
  where
    go : (s : Slot) → test_slot (covers e.tick.0) s ≡ true → goes_to_slot e.tick.0 s ≡ position_slot e.tick.0 s
    go Idle t = absurd (impossible (sym t))
    go (Open r) t = covers-goes (f1 r) e.tick.0 (covers-both r e.tick.0 ∙ t)
