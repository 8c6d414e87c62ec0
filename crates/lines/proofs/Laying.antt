-- Lines with samples, each with its part of the samples of all: put behind the others, and found again.
use Prim.Native.Nat.{ℕ, ◌+◌, ◌-◌, ◌*◌, ◌/◌, ◌%◌, ◌≤◌, ◌<◌}
use native.Mathlib.Omega.{arith}
use mathlib.Core.Path.{◌≡◌, refl, sym, ap, ap₂, ◌∙◌, subst}
use mathlib.Core.Logic.{◌⊎◌, inl, inr}
use mathlib.Core.Bool.{Bool, true, false, cond, ◌&&◌}
use mathlib.Core.List.{List, [], ◌∷◌, ◌++◌, append_assoc, append-nil}
use lib.Dec.{leb, ltb, eqb}
use lib.ListN.{length, get_or, take, drop, length-append, length-drop}
use lib.Seq.{get_or-take, get_or-drop, length-take-le, take-append_seam, drop-append_seam, drop-drop}
use borrow.Author.Tests.{eqb-true, ltb-true, ltb-false}
use Rattle.rules.specs.declared.Refusal.TheVariants.{Malformed, NoFrame}
use Rattle.rules.specs.Samples.{Trace}
use Rattle.rules.proofs.Truth.{impossible, and_left, and_right}
use Rattle.reading.specs.Frames.{Reading, opening, samples, closing, bytes, digits, ended, well_formed_lem, flags_in, values_in, opening_of, samples_of, closing_of, frame, reading, refused as unread}
use Rattle.characters.specs.Characters.{are_digits_lem}
use Rattle.reading.proofs.Reading.{formed}
use Rattle.reading.proofs.Pairs.{bytes-length, flags-length}
use Rattle.reading.proofs.Sizes.{reading_sized, Sized}
use Rattle.ends.specs.Ends.{LineEnd}
use Rattle.lines.specs.Batches.{Told, Laid, all_flags, all_values, Parts}
use Rattle.lines.proofs.Scanning.{part}

-- ---- what a line with samples is

is_samples : Reading → Bool
is_samples (opening ω) = false
is_samples (samples P) = true
is_samples closing = false
is_samples (unread k) = false

flag_count : Reading → ℕ
flag_count (opening ω) = 0
flag_count (samples P) = length P.flags
flag_count closing = 0
flag_count (unread k) = 0

either-not : (t : Bool) (x y : Reading) → is_samples x ≡ false → is_samples y ≡ false → is_samples (cond t x y) ≡ false
either-not true x y a b = a
either-not false x y a b = b

samples-count : (l : List ℕ) → is_samples (samples_of l) ≡ true → length l ≡ 2 * flag_count (samples_of l)
unfolding is_samples flag_count
samples-count l = go (leb 2 (length l)) (eqb (length l % 2) 0) refl
  where
    go : (a b : Bool) → eqb (length l % 2) 0 ≡ b → is_samples (cond (a && b) (samples (record { flags = flags_in l; values = values_in l })) (unread NoFrame)) ≡ true
        → length l ≡ 2 * flag_count (cond (a && b) (samples (record { flags = flags_in l; values = values_in l })) (unread NoFrame))
    go true true e h = omega (arith, flags-length l (length l / 2) (omega (arith, eqb-true (length l % 2) 0 e)), eqb-true (length l % 2) 0 e)
    go true false e h = absurd (impossible (sym h))
    go false b e h = absurd (impossible (sym h))

frame-count : (d : List ℕ) → is_samples (frame d) ≡ true → length d ≡ 2 * flag_count (frame d) + 1
unfolding is_samples flag_count
frame-count [] h = absurd (impossible (sym h))
frame-count (kind ∷ l) h = go (eqb kind 1) (eqb kind 2) h
  where
    opens : is_samples (opening_of l) ≡ false
    opens = either-not (eqb (length l) 3) (opening (record { mode = get_or l 0 0; azimuth = 256 * get_or l 1 0 + get_or l 2 0 })) (unread NoFrame) refl refl

    closes : is_samples (cond (eqb kind 3) (closing_of l) (unread NoFrame)) ≡ false
    closes = either-not (eqb kind 3) (closing_of l) (unread NoFrame) (either-not (eqb (length l) 0) closing (unread NoFrame) refl refl) refl

    go : (a b : Bool) → is_samples (cond a (opening_of l) (cond b (samples_of l) (cond (eqb kind 3) (closing_of l) (unread NoFrame)))) ≡ true
        → length (kind ∷ l) ≡ 2 * flag_count (cond a (opening_of l) (cond b (samples_of l) (cond (eqb kind 3) (closing_of l) (unread NoFrame)))) + 1
    go true b h = absurd (impossible (sym h ∙ opens))
    go false true h = omega (arith, samples-count l h)
    go false false h = absurd (impossible (sym h ∙ closes))

-- it ends in a newline, and has four digits a sample
record SamplesLine (l : List ℕ) (P : Trace) : Type 0 where
  newline : get_or l (length l - 1) 0 ≡ 10
  most : length l ≤ 259
  count : length l ≡ 4 * length P.flags + 3

well : (l : List ℕ) (P : Trace) → reading l ≡ samples P → well_formed_lem l ≡ true
unfolding reading is_samples
well l P = go (well_formed_lem l)
  where
    go : (b : Bool) → cond b (frame (bytes (digits l))) (unread Malformed) ≡ samples P → b ≡ true
    go true e = refl
    go false e = absurd (impossible (sym (ap is_samples e)))

framed_so : (l : List ℕ) → well_formed_lem l ≡ true → reading l ≡ frame (bytes (digits l))
unfolding reading
framed_so l w = ap (λ (b : Bool). cond b (frame (bytes (digits l))) (unread Malformed)) w

says_newline : (l : List ℕ) → well_formed_lem l ≡ true → ended l ≡ true
unfolding well_formed_lem
says_newline l h =
    let a = leb 2 (length l) in
    let b = leb (length l) 259 in
    let c = eqb (length l % 2) 1 in
    let d = ended l in
    let e = are_digits_lem (digits l) in
    and_left d e (and_right c (d && e) (and_right b (c && (d && e)) (and_right a (b && (c && (d && e))) h)))

samples-line : (l : List ℕ) (P : Trace) → reading l ≡ samples P → SamplesLine l P
unfolding is_samples flag_count
samples-line l P e =
    let w = well l P e in
    let f = formed l w in
    let is : frame (bytes (digits l)) ≡ samples P = sym (framed_so l w) ∙ e in
    let size : length (digits l) ≡ length l - 1 = length-take-le (length l - 1) l (omega arith) in
    let half = bytes-length (digits l) ((length l - 1) / 2) (omega (arith, size, f.odd)) in
    record {
      newline = eqb-true (get_or l (length l - 1) 0) 10 (says_newline l w);
      most = f.most;
      count = omega (arith, half, frame-count (bytes (digits l)) (ap is_samples is), ap flag_count is, f.odd, f.two);
    }

-- ---- the line at a place

module _ (input : List ℕ) (i e : ℕ) (h : LineEnd input i e) (P : Trace) (is : reading (part input i e) ≡ samples P) where
  line : SamplesLine (part input i e) P
  line = samples-line (part input i e) P is

  size : length (part input i e) ≡ e - i
  size = length-take-le (e - i) (drop i input) (omega (arith, length-drop i input, h.inside))

  newline_there : get_or input (e - 1) 0 ≡ 10
  newline_there =
      ap (λ (k : ℕ). get_or input k 0) {x = e - 1} {y = i + (e - i - 1)} (omega (arith, h.some))
      ∙ sym (get_or-drop i input (e - i - 1) 0)
      ∙ sym (get_or-take (e - i) (drop i input) (e - i - 1) 0 (omega (arith, h.some)))
      ∙ ap (λ (k : ℕ). get_or (part input i e) (k - 1) 0) (sym size)
      ∙ line.newline

  -- no other line begins there
  line-one : (end : ℕ) → LineEnd input i end → end ≡ e
  line-one end g = go (ltb e end) (ltb end e) refl refl
    where
      ends : end < e → (get_or input (end - 1) 0 ≡ 10) ⊎ (end ≡ i + 259) → ⊥
      ends l (inl z) = h.before.none (end - 1) (omega (arith, g.some)) (omega (arith, g.some)) z
      ends l (inr z) = omega (arith, line.most, size)

      go : (a b : Bool) → ltb e end ≡ a → ltb end e ≡ b → end ≡ e
      go true b z y = absurd (g.before.none (e - 1) (omega (arith, h.some)) (omega (arith, h.some, ltb-true e end z)) newline_there)
      go false true z y = absurd (ends (ltb-true end e y) g.ends)
      go false false z y = omega (arith, ltb-false e end z, ltb-false end e y)

  four : (e - i) / 4 ≡ length P.flags
  four = omega (arith, line.count, size)

-- ---- one line more

pub laid_none : (input : List ℕ) (from : ℕ) → Parts input from from [] []
laid_none input from = record { lines = []; laid = refl; flag_parts = refl; value_parts = refl }

laid_more : (input : List ℕ) (from : ℕ) (ls : List Told) (i : ℕ) → Laid input from ls i → (l : Told) → LineEnd input i l.end → reading (part input i l.end) ≡ samples l.said
    → Laid input from (ls ++ l ∷ []) l.end
laid_more input from [] i h l e r =
    let both = subst (λ (k : ℕ). LineEnd input k l.end × (reading (part input k l.end) ≡ samples l.said)) (sym h) (e, r) in
    (both.0, both.1, refl)
laid_more input from (x ∷ ls) i h l e r = (h.0, h.1, laid_more input x.end ls i h.2 l e r)

flags-more : (ls : List Told) (l : Told) → all_flags (ls ++ l ∷ []) ≡ all_flags ls ++ l.said.flags
flags-more [] l = append-nil l.said.flags
flags-more (x ∷ ls) l = ap (λ (y : List ℕ). x.said.flags ++ y) (flags-more ls l) ∙ sym (append_assoc x.said.flags (all_flags ls) l.said.flags)

values-more : (ls : List Told) (l : Told) → all_values (ls ++ l ∷ []) ≡ all_values ls ++ l.said.values
values-more [] l = append-nil l.said.values
values-more (x ∷ ls) l = ap (λ (y : List ℕ). x.said.values ++ y) (values-more ls l) ∙ sym (append_assoc x.said.values (all_values ls) l.said.values)

pub parts_more : (input : List ℕ) (from i : ℕ) (f v : List ℕ) → Parts input from i f v → (to : ℕ) (P : Trace) → LineEnd input i to → reading (part input i to) ≡ samples P
    → Parts input from to (f ++ P.flags) (v ++ P.values)
parts_more input from i f v h to P e r =
    let l : Told = record { end = to; said = P } in
    record {
      lines = h.lines ++ l ∷ [];
      laid = laid_more input from h.lines i h.laid l e r;
      flag_parts = ap (λ (x : List ℕ). x ++ P.flags) h.flag_parts ∙ sym (flags-more h.lines l);
      value_parts = ap (λ (x : List ℕ). x ++ P.values) h.value_parts ∙ sym (values-more h.lines l);
    }

-- ---- the next line's part

-- the samples from place a on are those of the lines from i on
pub record Left (input : List ℕ) (i to a : ℕ) (flags values : List ℕ) : Type 0 where
  pub inside : a ≤ length flags
  pub alike : a ≤ length values
  pub parts : Parts input i to (drop a flags) (drop a values)

pub left-start : (input : List ℕ) (i to : ℕ) (flags values : List ℕ) → Parts input i to flags values → Left input i to 0 flags values
left-start input i to flags values h = record { inside = omega arith; alike = omega arith; parts = h }

pub record Next (input : List ℕ) (i to a : ℕ) (flags values : List ℕ) (end k : ℕ) : Type 0 where
  pub said : Trace
  pub is : reading (part input i end) ≡ samples said
  pub fits : a + k ≤ length flags
  pub value_fits : a + k ≤ length values
  pub flag_part : take k (drop a flags) ≡ said.flags
  pub value_part : take k (drop a values) ≡ said.values
  pub others : Left input end to (a + k) flags values

-- a part at the front, and what is behind it
front : (a k : ℕ) (b l m : List ℕ) → a ≤ length b → drop a b ≡ l ++ m → k ≡ length l → (a + k ≤ length b) × (take k (drop a b) ≡ l) × (drop (a + k) b ≡ m)
front a k b l m h e n =
    (omega (arith, ap length e, length-append l m, length-drop a b), ap₂ take n e ∙ take-append_seam l m, sym (drop-drop k a b) ∙ ap₂ drop n e ∙ drop-append_seam l m)

pub next-line : (input : List ℕ) (i to a : ℕ) (flags values : List ℕ) → Left input i to a flags values → i < to → (end : ℕ) → LineEnd input i end
    → Next input i to a flags values end ((end - i) / 4)
next-line input i to a flags values h less end g = go h.parts.lines h.parts.laid h.parts.flag_parts h.parts.value_parts
  where
    go : (ls : List Told) → Laid input i ls to → drop a flags ≡ all_flags ls → drop a values ≡ all_values ls → Next input i to a flags values end ((end - i) / 4)
    go [] l f v = absurd (omega (arith, l))
    go (x ∷ ls) l f v =
        let same : end ≡ x.end = line-one input i x.end l.0 x.said l.1 end g in
        let k : (end - i) / 4 ≡ length x.said.flags = ap (λ (z : ℕ). (z - i) / 4) same ∙ four input i x.end l.0 x.said l.1 in
        let sized : Sized (samples x.said) = subst Sized l.1 (reading_sized (part input i x.end)) in
        let p = front a ((end - i) / 4) flags x.said.flags (all_flags ls) h.inside f k in
        let q = front a ((end - i) / 4) values x.said.values (all_values ls) h.alike v (k ∙ sized.alike) in
        record {
          said = x.said;
          is = ap (λ (z : ℕ). reading (part input i z)) same ∙ l.1;
          fits = p.0;
          value_fits = q.0;
          flag_part = p.1;
          value_part = q.1;
          others = record {
            inside = p.0;
            alike = q.0;
            parts = record { lines = ls; laid = subst (λ (z : ℕ). Laid input z ls to) (sym same) l.2; flag_parts = p.2; value_parts = q.2 };
          };
        }
