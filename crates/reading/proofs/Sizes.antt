-- The samples of a line: at most 64, a flag and a value for each, and values are bytes.
use Prim.Native.Nat.{ℕ, suc, ◌+◌, ◌-◌, ◌*◌, ◌%◌, ◌≤◌, ◌<◌}
use native.Mathlib.Omega.{arith}
use mathlib.Core.Path.{◌≡◌, refl, ap}
use mathlib.Core.Bool.{Bool, true, false, cond, ◌&&◌}
use mathlib.Core.List.{List, [], ◌∷◌}
use lib.Dec.{leb, eqb}
use lib.ListN.{length, get_or}
use lib.Seq.{length-take-le}
use borrow.Author.Tests.{ltb-true, ne_eqb, lt-leb}
use Rattle.rules.specs.Lists.{All}
use Rattle.rules.specs.Samples.{Trace}
use Rattle.rules.proofs.Truth.{and_left, and_right}
use Rattle.rules.specs.declared.Refusal.TheVariants.{Malformed, NoFrame}
use Rattle.reading.specs.Frames.{Reading, opening, samples, closing, refused, bytes, digits, ended, well_formed_lem, flags_in, values_in, opening_of, samples_of, closing_of, frame, reading}
use Rattle.characters.specs.Characters.{digit, is_digit_lem, are_digits_lem}
use Rattle.reading.proofs.Reading.{formed}

abbrev Byte : ℕ → Type 0
Byte x = x ≤ 255

pub record Samples (P : Trace) : Type 0 where
  pub most : length P.flags ≤ 64
  pub alike : length P.flags ≡ length P.values
  pub bytes : All (λ v. v ≤ 255) P.values

abbrev pub Sized : Reading → Type 0
Sized (opening ω) = Unit {0}
Sized (samples P) = Samples P
Sized closing = Unit {0}
Sized (refused k) = Unit {0}

sized_cond : (b : Bool) (x y : Reading) → Sized x → Sized y → Sized (cond b x y)
sized_cond true x y p q = p
sized_cond false x y p q = q

-- ---- bytes of digits

bytes_half : (d : List ℕ) → 2 * length (bytes d) ≤ length d
bytes_half [] = omega arith
bytes_half (a ∷ []) = omega arith
bytes_half (a ∷ b ∷ d) = omega (arith, bytes_half d)

digits-bytes : (d : List ℕ) → are_digits_lem d ≡ true → All Byte (bytes d)
digits-bytes [] h = tt
digits-bytes (a ∷ []) h = tt
digits-bytes (a ∷ b ∷ d) h =
    let more = and_right (is_digit_lem a) (are_digits_lem (b ∷ d)) h in
    (omega (arith, ltb-true (digit a) 16 (and_left (is_digit_lem a) (are_digits_lem (b ∷ d)) h), ltb-true (digit b) 16 (and_left (is_digit_lem b) (are_digits_lem d) more)), digits-bytes d (and_right (is_digit_lem b) (are_digits_lem d) more))

-- ---- pairs of bytes

pairs-alike : (l : List ℕ) → length (flags_in l) ≡ length (values_in l)
pairs-alike [] = refl
pairs-alike (f ∷ []) = refl
pairs-alike (f ∷ v ∷ l) = ap suc (pairs-alike l)

pairs_half : (l : List ℕ) → 2 * length (flags_in l) ≤ length l
pairs_half [] = omega arith
pairs_half (f ∷ []) = omega arith
pairs_half (f ∷ v ∷ l) = omega (arith, pairs_half l)

values-bytes : (l : List ℕ) → All Byte l → All Byte (values_in l)
values-bytes [] h = tt
values-bytes (f ∷ []) h = tt
values-bytes (f ∷ v ∷ l) h = (h.1.0, values-bytes l h.1.1)

-- ---- the frame

sized_frame : (d : List ℕ) → length d ≤ 129 → All Byte d → Sized (frame d)
sized_frame [] n h = tt
sized_frame (kind ∷ l) n h =
    sized_cond (eqb kind 1) (opening_of l) (cond (eqb kind 2) (samples_of l) (cond (eqb kind 3) (closing_of l) (refused NoFrame)))
    (sized_cond (eqb (length l) 3) (opening (record { mode = get_or l 0 0; azimuth = 256 * get_or l 1 0 + get_or l 2 0 })) (refused NoFrame) tt tt)
    (sized_cond (eqb kind 2) (samples_of l) (cond (eqb kind 3) (closing_of l) (refused NoFrame))
    (sized_cond (leb 2 (length l) && eqb (length l % 2) 0) (samples (record { flags = flags_in l; values = values_in l })) (refused NoFrame)
    (record { most = omega (arith, pairs_half l); alike = pairs-alike l; bytes = values-bytes l h.1 }) tt)
    (sized_cond (eqb kind 3) (closing_of l) (refused NoFrame) (sized_cond (eqb (length l) 0) closing (refused NoFrame) tt tt) tt))

pub reading_sized : (l : List ℕ) → Sized (reading l)
unfolding reading
reading_sized l = go (well_formed_lem l) refl
  where
    go : (b : Bool) → well_formed_lem l ≡ b → Sized (cond b (frame (bytes (digits l))) (refused Malformed))
    go false e = tt
    go true e =
        let f = formed l e in
        sized_frame (bytes (digits l)) (omega (arith, bytes_half (digits l), length-take-le (length l - 1) l (omega arith), f.most)) (digits-bytes (digits l) f.all.all)

-- ---- no line

-- bytes without a newline at their end, or too many, are refused with 9
pub no_newline : (l : List ℕ) → (get_or l (length l - 1) 0 ≡ 10 → ⊥) → reading l ≡ refused Malformed
unfolding reading well_formed_lem
no_newline l h = go (leb 2 (length l)) (leb (length l) 259) (eqb (length l % 2) 1)
  where
    go : (a b c : Bool) → cond (a && (b && (c && (ended l && are_digits_lem (digits l))))) (frame (bytes (digits l))) (refused Malformed) ≡ refused Malformed
    go true true true = rw (ne_eqb (get_or l (length l - 1) 0) 10 h)
    go true true false = refl
    go true false c = refl
    go false b c = refl

pub too_long : (l : List ℕ) → 259 < length l → reading l ≡ refused Malformed
unfolding reading well_formed_lem
too_long l h = go (leb 2 (length l))
  where
    go : (a : Bool) → cond (a && (leb (length l) 259 && (eqb (length l % 2) 1 && (ended l && are_digits_lem (digits l))))) (frame (bytes (digits l))) (refused Malformed) ≡ refused Malformed
    go true = rw (lt-leb (length l) 259 h)
    go false = refl
