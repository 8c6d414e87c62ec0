-- What is written, part by part: digits, and a line.
use Prim.Native.Nat.{ℕ, suc, ◌+◌, ◌*◌, ◌/◌, ◌%◌, ◌≤◌, ◌<◌}
use native.Mathlib.Omega.{arith}
use mathlib.Core.Path.{◌≡◌, refl, ap, ap₂, ◌∙◌}
use mathlib.Core.List.{List, [], ◌∷◌, ◌++◌}
use lib.ListN.{length, get_or, take, set, length-append, length-set}
use lib.Seq.{take-suc, take-length, length-take-le}
use borrow.Author.Tests.{lt-ltb, le-ltb}
use Rattle.rules.specs.Buffers.{over-at}
use Rattle.rules.proofs.Buffers.{put_one, put_two, over-at-next}
use Rattle.hexadecimal.specs.Digits.{glyph, hexadecimal, written}
use Rattle.hexadecimal.proofs.Parts.{over-at-length, Putting, putting_start, putting_next}

-- ---- digits

pub glyph-number : (x : ℕ) → x < 10 → 48 + x ≡ glyph x
unfolding glyph
glyph-number x h = rw (lt-ltb x 10 h)

pub glyph_letter : (x : ℕ) → 10 ≤ x → 87 + x ≡ glyph x
unfolding glyph
glyph_letter x h = rw (le-ltb x 10 h)

pub hexadecimal-length : (l : List ℕ) → length (hexadecimal l) ≡ 2 * length l
hexadecimal-length [] = refl
hexadecimal-length (x ∷ l) = omega (arith, hexadecimal-length l)

hexadecimal-append : (l m : List ℕ) → hexadecimal (l ++ m) ≡ hexadecimal l ++ hexadecimal m
hexadecimal-append [] m = refl
hexadecimal-append (x ∷ l) m = ap (λ (r : List ℕ). glyph (x / 16) ∷ glyph (x % 16) ∷ r) (hexadecimal-append l m)

pub written-length : (l : List ℕ) → length (written l) ≡ 2 * length l + 1
written-length l = omega (arith, length-append (hexadecimal l) (10 ∷ []), hexadecimal-length l)

pub byte_put : (b : List ℕ) (at x g h : ℕ) → at + 2 ≤ length b → g ≡ glyph (x / 16) → h ≡ glyph (x % 16) → set (set b at g) (at + 1) h ≡ over-at (hexadecimal (x ∷ [])) at b
byte_put b at x g h l p q = put_two b at g h l ∙ ap₂ (λ (y z : ℕ). over-at (y ∷ z ∷ []) at b) p q

-- ---- bytes as digits

module _ (body : List ℕ) where
  abbrev pub digits_to : ℕ → List ℕ
  digits_to i = hexadecimal (take i body)

  pub digits-start : (at : ℕ) (b : List ℕ) → Putting digits_to (length body) at b b 0
  digits-start at b = putting_start digits_to (length body) at b refl

  pub digits-next : (at : ℕ) (b₀ b b' : List ℕ) (i : ℕ) → at + 2 * length body ≤ length b₀ → i < length body
      → b' ≡ over-at (hexadecimal (get_or body i 0 ∷ [])) (at + 2 * i) b → Putting digits_to (length body) at b₀ b i → Putting digits_to (length body) at b₀ b' (i + 1)
  digits-next at b₀ b b' i room l p h =
      putting_next digits_to (length body) at b₀ b b' (hexadecimal (get_or body i 0 ∷ [])) i (at + 2 * i)
      (ap (λ (k : ℕ). hexadecimal (take k body)) {x = i + 1} {y = suc i} (omega arith) ∙ ap hexadecimal (take-suc body i 0 l) ∙ hexadecimal-append (take i body) (get_or body i 0 ∷ []))
      (omega (arith, hexadecimal-length (take i body), length-take-le i body (omega arith)))
      (omega arith)
      l p h

  pub digits-end : (at : ℕ) (b₀ b : List ℕ) (i : ℕ) → length body ≤ i → Putting digits_to (length body) at b₀ b i → b ≡ over-at (hexadecimal body) at b₀
  digits-end at b₀ b i l h =
      h.is ∙ ap (λ (k : ℕ). over-at (hexadecimal (take k body)) at b₀) {x = i} {y = length body} (omega (arith, h.most))
      ∙ ap (λ (r : List ℕ). over-at (hexadecimal r) at b₀) (take-length body)

-- ---- a line

module _ (kind : ℕ) (body : List ℕ) (at : ℕ) (b b₁ b₂ : List ℕ) (room : at + (2 * length body + 3) ≤ length b)
    (first : b₁ ≡ over-at (hexadecimal (kind ∷ [])) at b) (second : b₂ ≡ over-at (hexadecimal body) (at + 2) b₁) where
  line-size : length b₂ ≡ length b
  line-size =
      let l : length b₁ ≡ length b = ap length first ∙ over-at-length (hexadecimal (kind ∷ [])) at b (omega arith) in
      ap length second ∙ over-at-length (hexadecimal body) (at + 2) b₁ (omega (arith, l, hexadecimal-length body)) ∙ l

  pub line_same : (to : ℕ) → length (set b₂ to 10) ≡ length b
  line_same to = length-set b₂ to 10 ∙ line-size

  pub line-put : (to : ℕ) → to ≡ at + 2 + 2 * length body → set b₂ to 10 ≡ over-at (written (kind ∷ body)) at b
  line-put to e =
      over-at-next (hexadecimal (kind ∷ body)) (10 ∷ []) b b₂ (set b₂ to 10) at to (omega (arith, e, hexadecimal-length body)) (omega (arith, e))
      (over-at-next (hexadecimal (kind ∷ [])) (hexadecimal body) b b₁ b₂ at (at + 2) refl (omega arith) first second)
      (put_one b₂ to 10 (omega (arith, e, line-size)))
