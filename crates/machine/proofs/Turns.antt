-- Why the visits of a block end: each takes an edge, or a reply leaves its place, or a word of phantoms goes.
use Prim.Native.Nat.{ℕ, zero, suc, ◌+◌, ◌*◌, ◌-◌, ◌≤◌, ◌<◌}
use native.Mathlib.Omega.{arith}
use mathlib.Core.Path.{◌≡◌, refl, sym, ap, ◌∙◌, subst}
use mathlib.Core.Bool.{Bool, true, false, cond}
use mathlib.Core.List.{List, [], ◌∷◌}
use lib.Dec.{eqb}
use lib.ListN.{get_or}
use borrow.Author.Tests.{eqb-true}
use Rattle.std.specs.Prelude.{Some}
use Rattle.std.proofs.lemmas.Option.{none-some, same_Some}
use Rattle.rules.specs.declared.Reply.{Reply}
use Rattle.rules.specs.declared.Slot.{Slot}
use Rattle.rules.specs.declared.Slot.TheVariants.{Idle, Open}
use Rattle.rules.specs.declared.Place.{Place}
use Rattle.rules.proofs.Truth.{impossible}
use Rattle.places.specs.Places.{test, test_slot, always, idle}
use Rattle.plane.specs.Words.{bit}
use Rattle.plane.proofs.BitLaws.{zero_bit}
use Rattle.marking.specs.declared.Words.{Words}
use Rattle.marking.proofs.Marking.{last_low}
use Rattle.marking.specs.Marks.{without_word_lem, without_place, last_of, last_in}

abbrev one : Bool → ℕ
one b = cond b 1 0

abbrev other : Bool → ℕ
other b = cond b 0 1

-- ---- how many places have a reply

abbrev pub is_open : List Place → ℕ → Bool
is_open l j = test always (get_or l j idle)

abbrev pub open_count : List Place → ℕ
open_count l = cond (is_open l 0) 1 0 + (cond (is_open l 1) 1 0 + (cond (is_open l 2) 1 0 + cond (is_open l 3) 1 0))

most-one : (b : Bool) → cond b 1 0 ≤ 1
most-one true = omega arith
most-one false = omega arith

pub open-most : (l : List Place) → open_count l ≤ 4
open-most l = omega (arith, most-one (is_open l 0), most-one (is_open l 1), most-one (is_open l 2), most-one (is_open l 3))

-- a place that passes a test has a reply
passes : (p : Reply → Bool) (s : Slot) → test_slot p s ≡ true → test_slot always s ≡ true
passes p Idle h = h
passes p (Open r) h = refl

pub open-first : (p : Reply → Bool) (l : List Place) → test p (get_or l 0 idle) ≡ true → open_count (without_place 0 l) < open_count l
open-first p l h =
    let e : one (is_open l 0) ≡ one true = ap one (passes p (get_or l 0 idle).slot h) in
    omega (arith, e)

pub open-left : (k : ℕ) (l : List Place) → k < 4 → open_count (without_place k l) ≤ open_count l
open-left zero l h = omega arith
open-left (suc zero) l h = omega arith
open-left (suc (suc zero)) l h = omega arith
open-left (suc (suc (suc zero))) l h = omega arith
open-left (suc (suc (suc (suc k)))) l h = absurd (omega arith)

-- ---- how many words have a bit

abbrev pub bits_in : ℕ → ℕ
bits_in x = cond (eqb x 0) 0 1

abbrev pub word_count : Words → ℕ
word_count w = bits_in w.a + (bits_in w.b + (bits_in w.c + bits_in w.d))

bits_most : (b : Bool) → cond b 0 1 ≤ 1
bits_most true = omega arith
bits_most false = omega arith

pub words-most : (w : Words) → word_count w ≤ 4
words-most w = omega (arith, bits_most (eqb w.a 0), bits_most (eqb w.b 0), bits_most (eqb w.c 0), bits_most (eqb w.d 0))

has_bit : (x i : ℕ) → bit x i ≡ true → bits_in x ≡ 1
has_bit x i h = go (eqb x 0) refl
  where
    go : (b : Bool) → eqb x 0 ≡ b → other b ≡ other false
    go false e = refl
    go true e = absurd (impossible (sym h ∙ ap (λ (y : ℕ). bit y i) (eqb-true x 0 e) ∙ zero_bit i))

pub words-first : (w : Words) → word_count (without_word_lem 0 w) ≤ word_count w
words-first w = omega arith

pub words-less : (k i : ℕ) (w : Words) → last_in w i ≡ Some k → word_count (without_word_lem k w) < word_count w
words-less k i w e = go (bit w.a i) refl (bit w.b i) refl (bit w.c i) refl (bit w.d i) refl e
  where
    less : (n : ℕ) → Some n ≡ Some k → word_count (without_word_lem n w) < word_count w → word_count (without_word_lem k w) < word_count w
    less n z = subst (λ (m : ℕ). word_count (without_word_lem m w) < word_count w) (same_Some n k z)

    go : (a : Bool) → bit w.a i ≡ a → (b : Bool) → bit w.b i ≡ b → (c : Bool) → bit w.c i ≡ c → (d : Bool) → bit w.d i ≡ d → last_of a b c d ≡ Some k
        → word_count (without_word_lem k w) < word_count w
    go a ea b eb c ec true ed z = less 3 z (omega (arith, has_bit w.d i ed))
    go a ea b eb true ec false ed z = less 2 z (omega (arith, has_bit w.c i ec))
    go a ea true eb false ec false ed z = less 1 z (omega (arith, has_bit w.b i eb))
    go true ea false eb false ec false ed z = less 0 z (omega (arith, has_bit w.a i ea))
    go false ea false eb false ec false ed z = absurd (none-some k z)

-- ---- both, and the edges that are left

abbrev pub turns_left : ℕ → List Place → Words → ℕ
turns_left from l w = 9 * (64 - from) + (open_count l + word_count w)

pub turn-taken : (from i : ℕ) (l l' : List Place) (w w' : Words) → from ≤ i → i < 64 → turns_left (i + 1) l' w' < turns_left from l w
turn-taken from i l l' w w' h k = omega (arith, open-most l', words-most w')

pub turn-over : (p : Reply → Bool) (from : ℕ) (l l' : List Place) (w w' : Words) → test p (get_or l 0 idle) ≡ true → l' ≡ without_place 0 l → w' ≡ without_word_lem 0 w
    → turns_left from l' w' < turns_left from l w
turn-over p from l l' w w' h el ew =
    subst (λ (m : List Place). turns_left from m w' < turns_left from l w) (sym el)
    (subst (λ (v : Words). turns_left from (without_place 0 l) v < turns_left from l w) (sym ew) (omega (arith, open-first p l h, words-first w)))

pub turn-less : (k i from : ℕ) (l l' : List Place) (w w' : Words) → last_in w i ≡ Some k → l' ≡ without_place k l → w' ≡ without_word_lem k w → turns_left from l' w' < turns_left from l w
turn-less k i from l l' w w' e el ew =
    let lk = last_low (bit w.a i) (bit w.b i) (bit w.c i) (bit w.d i) k e in
    subst (λ (m : List Place). turns_left from m w' < turns_left from l w) (sym el)
    (subst (λ (v : Words). turns_left from (without_place k l) v < turns_left from l w) (sym ew) (omega (arith, open-left k l lk, words-less k i w e)))

pub hand_less : (p : Reply → Bool) (l l' : List Place) → test p (get_or l 0 idle) ≡ true → l' ≡ without_place 0 l → open_count l' < open_count l
hand_less p l l' h el = subst (λ (m : List Place). open_count m < open_count l) (sym el) (open-first p l h)

-- a list of four, place by place
pub four-places : (a b c d a' b' c' d' : Place) → a ≡ a' → b ≡ b' → c ≡ c' → d ≡ d' → a ∷ (b ∷ (c ∷ (d ∷ []))) ≡ a' ∷ (b' ∷ (c' ∷ (d' ∷ [])))
four-places a b c d a' b' c' d' ea eb ec ed = λ i. ea i ∷ (eb i ∷ (ec i ∷ (ed i ∷ [])))
