-- Altitudes and their codes, both ways: the steps of a written code are those that were written, and the digits of a code that has steps are the written ones.
use Prim.Native.Nat.{ℕ, zero, suc, ◌+◌, ◌-◌, ◌*◌, ◌/◌, ◌%◌, ◌^◌, ◌≤◌, ◌<◌}
use native.Mathlib.Omega.{arith}
use native.Mathlib.Nat.{div-eq_of_lt, le_of_lt}
use mathlib.Core.Path.{◌≡◌, refl, sym, ap, ◌∙◌}
use mathlib.Core.Bool.{Bool, true, false, cond, ◌||◌}
use mathlib.Core.List.{List, [], ◌∷◌, ◌++◌}
use lib.Dec.{ltb, eqb}
use lib.IntN.{ℤ, pos, negsuc}
use lib.ListN.{get_or, take}
use borrow.Author.Tests.{ltb-false, eqb-true, eqb-false, le-ltb, ne_eqb}
use Rattle.std.specs.Prelude.{Some, None, Ok, Err}
use Rattle.std.proofs.lemmas.Int.{ints}
use Rattle.std.proofs.lemmas.Bool.Decides.{nat_tests}
use Rattle.codes.specs.declared.Unread.TheVariants.{Unsure, NoAltitude}
use Rattle.rules.specs.Samples.{bit}
use Rattle.rules.proofs.Truth.{or_left, or_right, or-second}
use Rattle.codes.specs.Pulses.{C1, C2, C4, D1, digit, digits_at, any_clear, word_of}
use Rattle.codes.specs.Gray.{gray, gray_from, gray_of}
use Rattle.codes.specs.Altitude.{eight, three as three-pulses, eleven, five_hundreds_lem, group, groups, hundreds, turned, steps_by, steps, feet_at_lem, has_none, altitude}
use Rattle.codes.specs.Writing.{has_code, three_digits, group_of, written, steps_to, code_of}
use Rattle.codes.proofs.DigitTests.{below_two, passes, passed}
use Rattle.codes.proofs.GrayLaws.{read-written, written_read}
use Rattle.altitudes.proofs.AltitudeLaws.{five-hundreds-below, none_is, is-feet}
use Rattle.encoder.specs.RoundTrip.{altitude_at, eleven_of, CodeOf, differing, RoundTrip}
use Rattle.encoder.proofs.WritingLaws.{turned-least}
use Rattle.encoder.proofs.DigitLaws.{Digits, digits-back, d1_clear}

-- ---- altitudes and steps

altitude-feet : (k : ℕ) → altitude_at k ≡ feet_at_lem (k + 3)
altitude-feet k = omega (arith, ints)

has_code-feet : (s : ℕ) → 3 ≤ s → s ≤ 1280 → has_code (feet_at_lem s) ≡ true
has_code-feet s l m = grind (arith, ints)

steps_to-feet : (s : ℕ) → 3 ≤ s → steps_to (feet_at_lem s) ≡ s
steps_to-feet s l = grind (arith, ints)

pub code_of-feet : (s : ℕ) → 3 ≤ s → s ≤ 1280 → code_of (feet_at_lem s) ≡ Some (written s)
unfolding code_of
code_of-feet s l m = rw (has_code-feet s l m, steps_to-feet s l)

-- ---- h, forth and back

back-turned : (n h : ℕ) → 1 ≤ h → h ≤ 5 → turned n (turned n h) ≡ h
back-turned n h l m = grind (arith, nat_tests)

-- a number from 1 to 5
data Five : ℕ → Type 0 where
  one : Five 1
  two : Five 2
  three : Five 3
  four : Five 4
  five : Five 5

is_five : (h : ℕ) → 1 ≤ h → h ≤ 5 → Five h
is_five zero l m = absurd (omega arith)
is_five (suc zero) l m = one
is_five (suc (suc zero)) l m = two
is_five (suc (suc (suc zero))) l m = three
is_five (suc (suc (suc (suc zero)))) l m = four
is_five (suc (suc (suc (suc (suc zero))))) l m = five
is_five (suc (suc (suc (suc (suc (suc h)))))) l m = absurd (omega arith)

-- the group that counts h
group_at : ℕ → ℕ
group_at h = get_or groups (h - 1) 0

group-counts : {h : ℕ} → Five h → hundreds (group_at h) ≡ h
unfolding group_at
group-counts one = refl
group-counts two = refl
group-counts three = refl
group-counts four = refl
group-counts five = refl

group-number : {h : ℕ} → Five h → 4 * (group_at h / 4 % 2) + 2 * (group_at h / 2 % 2) + group_at h % 2 ≡ group_at h
unfolding group_at
group-number one = refl
group-number two = refl
group-number three = refl
group-number four = refl
group-number five = refl

-- ---- a written code is read

written-digits : ℕ → ℕ → List ℕ
written-digits n h = gray_of 8 n ++ group_of h

are-digits : (n h : ℕ) → Digits 11 (written-digits n h)
unfolding written-digits
are-digits n h = record { count = refl; each = search below_two }

module _ (n h : ℕ) (small : n < 256) (f : Five h) where
  word : ℕ
  word = word_of eleven (written-digits n h)

  same_digits : digits_at eleven word ≡ written-digits n h
  unfolding word
  same_digits = digits-back (written-digits n h) (are-digits n h)

  n-back : five_hundreds_lem word ≡ n
  unfolding five_hundreds_lem written-digits
  n-back =
      ap (λ (l : List ℕ). gray (take 8 l)) same_digits ∙ ap (λ (m : ℕ). gray_from m (gray_of 8 n)) (sym (div-eq_of_lt small)) ∙ read-written 8 n

  group-back : group word ≡ group_at h
  unfolding written-digits group_at
  group-back = ap (λ (l : List ℕ). 4 * get_or l 8 0 + 2 * get_or l 9 0 + get_or l 10 0) same_digits ∙ group-number f

  h_back : hundreds (group word) ≡ h
  h_back = ap hundreds group-back ∙ group-counts f

  steps_back : steps word ≡ steps_by n h
  unfolding steps
  steps_back = λ i. steps_by (n-back i) (h_back i)

-- ---- s steps, from -1,000 ft to 126,700 ft

module _ (s : ℕ) (l : 3 ≤ s) (m : s ≤ 1280) where
  n : ℕ
  n = (s - 1) / 5

  h₀ : ℕ
  h₀ = (s - 1) % 5 + 1

  small : n < 256
  unfolding n
  small = omega arith

  first-five : (1 ≤ h₀) × (h₀ ≤ 5)
  unfolding h₀
  first-five = (omega arith, omega arith)

  counted : Five (turned n h₀)
  counted = let r = turned-least n h₀ first-five.0 first-five.1 in is_five (turned n h₀) r.0 r.1

  steps-written : steps (written s) ≡ s
  unfolding written written-digits word n h₀
  steps-written =
      let sum : 5 * n + h₀ ≡ s = omega arith in
      steps_back n (turned n h₀) small counted ∙ ap (λ (h : ℕ). 5 * n + h) (back-turned n h₀ first-five.0 first-five.1) ∙ sum

  group-written : hundreds (group (written s)) ≡ 0 → ⊥
  unfolding written written-digits word n h₀
  group-written e =
      let r = turned-least n h₀ first-five.0 first-five.1 in omega (arith, h_back n (turned n h₀) small counted, e, r.0)

  d1_written : bit D1 (written s) ≡ false
  unfolding written written-digits n h₀
  d1_written = d1_clear (written-digits n (turned n h₀)) (are-digits n (turned n h₀))

  eleven-written : eleven_of (written s) ≡ written s
  unfolding written written-digits n h₀
  eleven-written = ap (word_of eleven) (digits-back (written-digits n (turned n h₀)) (are-digits n (turned n h₀)))

  has_written : has_none (written s) ≡ false
  has_written =
      none_is (written s)
      ∙ (rw (ne_eqb (hundreds (group (written s))) 0 group-written, d1_written, le-ltb (steps (written s)) 3 (omega (arith, steps-written))))

  pub read-feet : (confidence : ℕ) → any_clear eleven confidence ≡ false → altitude (written s) confidence ≡ Ok (feet_at_lem s)
  read-feet confidence u = is-feet (written s) confidence u has_written ∙ ap (λ (t : ℕ). Ok (feet_at_lem t)) steps-written

-- ---- a code that reads as feet is the written one

-- h, by which of the five groups it is
abbrev which : Bool → Bool → Bool → Bool → Bool → ℕ
which a b c d e = cond a 1 (cond b 2 (cond c 3 (cond d 4 (cond e 5 0))))

group-place : (g : ℕ) → (hundreds g ≡ 0 → ⊥) → (group_at (hundreds g) ≡ g) × Five (hundreds g)
unfolding group_at
group-place g k = go (eqb g 1) (eqb g 3) (eqb g 2) (eqb g 6) (eqb g 4) refl refl refl refl refl k
  where
    go : (a b c d e : Bool) → eqb g 1 ≡ a → eqb g 3 ≡ b → eqb g 2 ≡ c → eqb g 6 ≡ d → eqb g 4 ≡ e → (which a b c d e ≡ 0 → ⊥)
        → (group_at (which a b c d e) ≡ g) × Five (which a b c d e)
    go true b c d e p q r s t k = (sym (eqb-true g 1 p), one)
    go false true c d e p q r s t k = (sym (eqb-true g 3 q), two)
    go false false true d e p q r s t k = (sym (eqb-true g 2 r), three)
    go false false false true e p q r s t k = (sym (eqb-true g 6 s), four)
    go false false false false true p q r s t k = (sym (eqb-true g 4 t), five)
    go false false false false false p q r s t k = absurd (k refl)

-- three digits make a number that has these digits
module _ (x y z : ℕ) (a : x < 2) (b : y < 2) (c : z < 2) where
  number_digits : three_digits (4 * x + 2 * y + z) ≡ x ∷ y ∷ z ∷ []
  number_digits =
      let p : (4 * x + 2 * y + z) / 4 % 2 ≡ x = omega arith in
      let q : (4 * x + 2 * y + z) / 2 % 2 ≡ y = omega arith in
      let r : (4 * x + 2 * y + z) % 2 ≡ z = omega arith in
      λ i. p i ∷ q i ∷ r i ∷ []

-- n and h of a code, written, are its eleven digits
module _ (w : ℕ) (k : hundreds (group w) ≡ 0 → ⊥) where
  eight-written : gray_of 8 (five_hundreds_lem w) ≡ digits_at eight w
  unfolding five_hundreds_lem
  eight-written = written_read (digits_at eight w) 0 (search below_two)

  three-written : group_of (hundreds (group w)) ≡ digits_at three-pulses w
  unfolding group_at
  three-written =
      ap three_digits (group-place (group w) k).0
      ∙ number_digits (digit w C1) (digit w C2) (digit w C4) (below_two (w / 2 ^ C1)) (below_two (w / 2 ^ C2)) (below_two (w / 2 ^ C4))

  both-written : word_of eleven (written-digits (five_hundreds_lem w) (hundreds (group w))) ≡ eleven_of w
  unfolding written-digits
  both-written = λ i. word_of eleven (eight-written i ++ three-written i)

  h_five : Five (hundreds (group w))
  h_five = (group-place (group w) k).1

five-range : {h : ℕ} → Five h → (1 ≤ h) × (h ≤ 5)
five-range one = (omega arith, omega arith)
five-range two = (omega arith, omega arith)
five-range three = (omega arith, omega arith)
five-range four = (omega arith, omega arith)
five-range five = (omega arith, omega arith)

-- the steps of n and h, written, are the word of n and h
written-steps : (n h : ℕ) → Five h → written (steps_by n h) ≡ word_of eleven (written-digits n h)
unfolding written written-digits
written-steps n h f =
    let r = five-range f in
    let t = turned-least n h r.0 r.1 in
    let p : (steps_by n h - 1) / 5 ≡ n = omega (arith, t.0, t.1) in
    let q : (steps_by n h - 1) % 5 + 1 ≡ turned n h = omega (arith, t.0, t.1) in
    (λ i. word_of eleven (gray_of 8 (p i) ++ group_of (turned (p i) (q i)))) ∙ ap (λ (g : ℕ). word_of eleven (gray_of 8 n ++ group_of g)) (back-turned n h r.0 r.1)

-- ---- what a code that reads as feet says

record Reads (w : ℕ) (z : ℤ) : Type 0 where
  has : has_none w ≡ false
  is : z ≡ feet_at_lem (steps w)

reads-feet : (w confidence : ℕ) (z : ℤ) → altitude w confidence ≡ Ok z → Reads w z
unfolding altitude
reads-feet w confidence z e = go (any_clear eleven confidence) (has_none w) refl e
  where
    go : (u b : Bool) → has_none w ≡ b → cond u (Err Unsure) (cond b (Err NoAltitude) (Ok (feet_at_lem (steps w)))) ≡ Ok z → Reads w z
    go true b p q = absurd cc
    go false true p q = absurd cc
    go false false p q = record { has = p; is = cc }

module _ (w : ℕ) (e : has_none w ≡ false) where
  tests : (eqb (hundreds (group w)) 0 || (bit D1 w || ltb (steps w) 3)) ≡ false
  tests = sym (none_is w) ∙ e

  some-group : hundreds (group w) ≡ 0 → ⊥
  some-group = eqb-false (hundreds (group w)) 0 (or_left (eqb (hundreds (group w)) 0) (bit D1 w || ltb (steps w) 3) tests)

  least : 3 ≤ steps w
  least =
      ltb-false (steps w) 3
      (or_right (bit D1 w) (ltb (steps w) 3) (or_right (eqb (hundreds (group w)) 0) (bit D1 w || ltb (steps w) 3) tests))

  most : steps w ≤ 1280
  unfolding steps
  most =
      let r = five-range (h_five w some-group) in
      let t = turned-least (five_hundreds_lem w) (hundreds (group w)) r.0 r.1 in
      omega (arith, five-hundreds-below w, t.1)

  rewritten : written (steps w) ≡ eleven_of w
  unfolding steps
  rewritten = written-steps (five_hundreds_lem w) (hundreds (group w)) (h_five w some-group) ∙ both-written w some-group

-- ---- the theorem

wrote-altitude : (k : ℕ) → k ≤ 1277 → code_of (altitude_at k) ≡ Some (written (k + 3))
wrote-altitude k l = ap code_of (altitude-feet k) ∙ code_of-feet (k + 3) (omega arith) (omega arith)

back_law : (k : ℕ) → k ≤ 1277 → (w : ℕ) × CodeOf k w
back_law k l =
    let p : 3 ≤ k + 3 = omega arith in
    let q : k + 3 ≤ 1280 = omega arith in (
      written (k + 3),
      record {
        wrote = wrote-altitude k l;
        others-clear = eleven-written (k + 3) p q;
        reads = λ confidence u. read-feet (k + 3) p q confidence u ∙ ap Ok (sym (altitude-feet k));
      },
    )

once_law : (w confidence : ℕ) (z : ℤ) → altitude w confidence ≡ Ok z → code_of z ≡ Some (eleven_of w)
once_law w confidence z e =
    let r = reads-feet w confidence z e in
    ap code_of r.is ∙ code_of-feet (steps w) (least w r.has) (most w r.has) ∙ ap Some (rewritten w r.has)

-- a number that has a code is an altitude
altitude_of : (z : ℤ) → has_code z ≡ true → (steps_to z - 3 ≤ 1277) × (z ≡ altitude_at (steps_to z - 3))
altitude_of (pos a) h = (grind (arith, ints, nat_tests), grind (arith, ints, nat_tests))
altitude_of (negsuc a) h = (grind (arith, ints, nat_tests), grind (arith, ints, nat_tests))

no_other_law : (z : ℤ) → ((k : ℕ) → k ≤ 1277 → z ≡ altitude_at k → ⊥) → code_of z ≡ None
unfolding code_of
no_other_law z f = go (has_code z) refl
  where
    go : (b : Bool) → has_code z ≡ b → cond b (Some (written (steps_to z))) None ≡ None
    go true h = let a = altitude_of z h in absurd (f (steps_to z - 3) a.0 a.1)
    go false h = refl

-- ---- neighbours, by a test of each list of eleven digits

apart_test : List ℕ → Bool
apart_test ds =
    let v = word_of eleven ds in
    eqb (hundreds (group v)) 0 || (ltb 1279 (steps v) || eqb (differing v (written (steps v + 1))) 1)

all_apart : passes 11 apart_test ≡ true
unfolding passes apart_test steps five_hundreds_lem written
all_apart = refl

module _ (s : ℕ) (l : 3 ≤ s) (m : s < 1280) where
  tested : (eqb (hundreds (group (written s))) 0 || (ltb 1279 (steps (written s)) || eqb (differing (written s) (written (steps (written s) + 1))) 1)) ≡ true
  unfolding apart_test written written-digits n h₀
  tested =
      let ds = written-digits (n s l (le_of_lt m)) (turned (n s l (le_of_lt m)) (h₀ s l (le_of_lt m))) in
      let d = are-digits (n s l (le_of_lt m)) (turned (n s l (le_of_lt m)) (h₀ s l (le_of_lt m))) in
      passed 11 apart_test all_apart ds d.count d.each

  apart : differing (written s) (written (s + 1)) ≡ 1
  apart =
      let e = steps-written s l (le_of_lt m) in
      let group-there : eqb (hundreds (group (written s))) 0 ≡ false = ne_eqb (hundreds (group (written s))) 0 (group-written s l (le_of_lt m)) in
      let not_last : ltb 1279 (steps (written s)) ≡ false = le-ltb 1279 (steps (written s)) (omega (arith, e)) in
      let one_apart : eqb (differing (written s) (written (steps (written s) + 1))) 1 ≡ true = or-second _ _ not_last (or-second _ _ group-there tested) in
      ap (λ (t : ℕ). differing (written s) (written (t + 1))) (sym e) ∙ eqb-true (differing (written s) (written (steps (written s) + 1))) 1 one_apart

codes_same : {v w : ℕ} → Some v ≡ Some w → v ≡ w
codes_same e = cc

neighbours_law : (k v w : ℕ) → k < 1277 → code_of (altitude_at k) ≡ Some v → code_of (altitude_at (k + 1)) ≡ Some w → differing v w ≡ 1
neighbours_law k v w l p q =
    let same-v : v ≡ written (k + 3) = codes_same (sym p ∙ wrote-altitude k (omega arith)) in
    let same_w : w ≡ written (k + 1 + 3) = codes_same (sym q ∙ wrote-altitude (k + 1) (omega arith)) in
    let next : k + 1 + 3 ≡ k + 3 + 1 = omega arith in
    (λ i. differing (same-v i) (same_w i)) ∙ ap (λ (t : ℕ). differing (written (k + 3)) (written t)) next ∙ apart (k + 3) (omega arith) (omega arith)

pub round_trip : RoundTrip
round_trip = record { back = back_law; no_other = no_other_law; once = once_law; neighbours = neighbours_law }
