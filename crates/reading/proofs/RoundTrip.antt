-- Reading what a writer of input frames writes gives the call back.
use Prim.Native.Nat.{ℕ, zero, suc, ◌+◌, ◌-◌, ◌*◌, ◌/◌, ◌%◌, ◌≤◌, ◌<◌}
use native.Mathlib.Omega.{arith}
use mathlib.Core.Path.{◌≡◌, refl, ap, ap₂, ◌∙◌}
use mathlib.Core.Bool.{Bool, true, false, cond, ◌&&◌}
use mathlib.Core.List.{List, [], ◌∷◌, ◌++◌}
use lib.Dec.{ltb}
use lib.ListN.{length, get_or, take, length-append}
use borrow.Author.Tests.{lt-ltb, le-leb, lt-leb, eq-eqb, ltb-true, ltb-false}
use Rattle.rules.specs.declared.Opening.{Opening}
use Rattle.rules.specs.Lists.{All}
use Rattle.rules.specs.declared.Refusal.TheVariants.{Malformed}
use Rattle.reading.specs.Frames.{opening, samples, closing, refused, bytes, digits, well_formed_lem, flags_in, values_in, frame, reading}
use Rattle.characters.specs.Characters.{digit, are_digits_lem}
use Rattle.hexadecimal.specs.Digits.{glyph, hexadecimal, written}
use Rattle.frames.specs.Writing.{open_line, pairs, samples_line, close_line}

-- ---- one byte

digit_glyph : (x : ℕ) → x < 16 → digit (glyph x) ≡ x
unfolding digit glyph
digit_glyph x h = go (ltb x 10) refl
  where
    go : (t : Bool) → ltb x 10 ≡ t → digit (cond t (48 + x) (87 + x)) ≡ x
    go true e =
        let q = ltb-true x 10 e in
        rw (le-leb 48 (48 + x) (omega arith), le-leb (48 + x) 57 (omega (arith, q))) (omega arith)
    go false e =
        let q = ltb-false x 10 e in
        rw (le-leb 48 (87 + x) (omega arith), lt-leb (87 + x) 57 (omega (arith, q)), le-leb 97 (87 + x) (omega (arith, q)), le-leb (87 + x) 102 (omega (arith, h))) (omega arith)

-- ---- many

abbrev Bytes : List ℕ → Type 0
Bytes l = All (λ x. x ≤ 255) l

size : (l : List ℕ) → length (hexadecimal l) ≡ 2 * length l
size [] = refl
size (x ∷ l) = omega (arith, size l)

all_digits : (l : List ℕ) → Bytes l → are_digits_lem (hexadecimal l) ≡ true
all_digits [] h = refl
all_digits (x ∷ l) h =
    ap₂ (λ (s t : Bool). s && (t && are_digits_lem (hexadecimal l)))
    (lt-ltb (digit (glyph (x / 16))) 16 (omega (arith, h.0, digit_glyph (x / 16) (omega (arith, h.0)))))
    (lt-ltb (digit (glyph (x % 16))) 16 (omega (arith, digit_glyph (x % 16) (omega arith))))
    ∙ all_digits l h.1

same_bytes : (l : List ℕ) → Bytes l → bytes (hexadecimal l) ≡ l
same_bytes [] h = refl
same_bytes (x ∷ l) h =
    ap₂ (λ (y : ℕ) (r : List ℕ). y ∷ r)
    (omega (arith, digit_glyph (x / 16) (omega (arith, h.0)), digit_glyph (x % 16) (omega arith)))
    (same_bytes l h.1)

-- ---- the line

before_last : (h : List ℕ) (k : ℕ) → k ≡ length h → take k (h ++ 10 ∷ []) ≡ h
before_last [] zero e = refl
before_last [] (suc k) e = absurd (omega (arith, e))
before_last (x ∷ h) zero e = absurd (omega (arith, e))
before_last (x ∷ h) (suc k) e = ap (λ (r : List ℕ). x ∷ r) (before_last h k (omega (arith, e)))

last_byte : (h : List ℕ) (k : ℕ) → k ≡ length h → get_or (h ++ 10 ∷ []) k 0 ≡ 10
last_byte [] zero e = refl
last_byte [] (suc k) e = absurd (omega (arith, e))
last_byte (x ∷ h) zero e = absurd (omega (arith, e))
last_byte (x ∷ h) (suc k) e = last_byte h k (omega (arith, e))

module _ (l : List ℕ) (b : Bytes l) (some : 1 ≤ length l) (most : length l ≤ 129) where
  abbrev line : List ℕ
  line = written l

  line-size : length line ≡ 2 * length l + 1
  line-size = omega (arith, length-append (hexadecimal l) (10 ∷ []), size l)

  before : digits line ≡ hexadecimal l
  before = before_last (hexadecimal l) (length line - 1) (omega (arith, line-size, size l))

  well : well_formed_lem line ≡ true
  unfolding well_formed_lem
  well =
      rw (
        le-leb 2 (length line) (omega (arith, line-size)),
        le-leb (length line) 259 (omega (arith, line-size)),
        eq-eqb (length line % 2) 1 (omega (arith, line-size)),
        eq-eqb (get_or line (length line - 1) 0) 10 (last_byte (hexadecimal l) (length line - 1) (omega (arith, line-size, size l))),
        before,
      )
      (all_digits l b)

  pub reads-back : reading (written l) ≡ frame l
  unfolding reading
  reads-back =
      ap (λ t. cond t (frame (bytes (digits line))) (refused Malformed)) well ∙ ap (λ (d : List ℕ). frame (bytes d)) before ∙ ap frame (same_bytes l b)

-- ---- the three calls

pub open-back : (ω : Opening) → ω.mode ≤ 255 → ω.azimuth < 65536 → reading (open_line ω) ≡ opening ω
open-back ω m a =
    reads-back (1 ∷ ω.mode ∷ ω.azimuth / 256 ∷ ω.azimuth % 256 ∷ []) (omega arith, (m, (omega (arith, a), (omega arith, tt)))) (omega arith) (omega arith)
    ∙ ap (λ (a : ℕ). opening (record { mode = ω.mode; azimuth = a })) (omega arith)

pub close-back : reading close_line ≡ closing
close-back = reads-back (3 ∷ []) (omega arith, tt) (omega arith) (omega arith)

pairs-size : (f v : List ℕ) → length f ≡ length v → length (pairs f v) ≡ 2 * length f
pairs-size [] v h = refl
pairs-size (x ∷ f) [] h = absurd (omega (arith, h))
pairs-size (x ∷ f) (y ∷ v) h = omega (arith, pairs-size f v (omega (arith, h)))

pairs-flags : (f v : List ℕ) → length f ≡ length v → flags_in (pairs f v) ≡ f
pairs-flags [] v h = refl
pairs-flags (x ∷ f) [] h = absurd (omega (arith, h))
pairs-flags (x ∷ f) (y ∷ v) h = ap (λ (r : List ℕ). x ∷ r) (pairs-flags f v (omega (arith, h)))

pairs-values : (f v : List ℕ) → length f ≡ length v → values_in (pairs f v) ≡ v
pairs-values [] [] h = refl
pairs-values [] (y ∷ v) h = absurd (omega (arith, h))
pairs-values (x ∷ f) [] h = absurd (omega (arith, h))
pairs-values (x ∷ f) (y ∷ v) h = ap (λ (r : List ℕ). y ∷ r) (pairs-values f v (omega (arith, h)))

pairs-bytes : (f v : List ℕ) → Bytes f → Bytes v → Bytes (pairs f v)
pairs-bytes [] v a b = tt
pairs-bytes (x ∷ f) [] a b = tt
pairs-bytes (x ∷ f) (y ∷ v) a b = (a.0, (b.0, pairs-bytes f v a.1 b.1))

pub samples-back : (f v : List ℕ) → Bytes f → Bytes v → length f ≡ length v → 1 ≤ length f → length f ≤ 64
    → reading (samples_line (record { flags = f; values = v })) ≡ samples (record { flags = f; values = v })
samples-back f v a b e some most =
    let n = pairs-size f v e in
    reads-back (2 ∷ pairs f v) (omega arith, pairs-bytes f v a b) (omega arith) (omega (arith, n))
    ∙ rw (le-leb 2 (length (pairs f v)) (omega (arith, n)), eq-eqb (length (pairs f v) % 2) 0 (omega (arith, n)))
    (ap₂ (λ (x y : List ℕ). samples (record { flags = x; values = y })) (pairs-flags f v e) (pairs-values f v e))
