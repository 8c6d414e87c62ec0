-- What the code computes of a reply is what the rules say: tests by ticks, constants, settling.
use Rattle.std.proofs.Common.{◌≡◌, ℕ, ◌+◌, ◌%◌, ◌^◌, ◌<◌, Bool, true, false, cond, ◌&&◌, ltb, leb, negsuc, refl, ap, ◌∙◌, arith, le-ltb, lt-ltb, leb-false, leb-true}
use lib.Ieee.{fin, binary64, of_bits}
use Rattle.rules.specs.declared.Word.{Word}
use Rattle.rules.specs.Replies.{Verdict, number, bit_of, settle}
use Rattle.replies.specs.Sums.{wrapped, word_plus}

-- ---- tests by ticks

-- with d for u - a in 64 bits: a ≤ u ≤ a + n
pub within : (a u d n : ℕ) → a < 2 ^ 40 → u < 2 ^ 40 → n < 2 ^ 40 → d < 2 ^ 64 → (d + a) % 2 ^ 64 ≡ u → ltb d (n + 1) ≡ leb a u && leb u (a + n)
within a u d n la lu ln ld w = go (leb a u) refl (leb u (a + n)) refl
  where
    go : (x : Bool) → leb a u ≡ x → (y : Bool) → leb u (a + n) ≡ y → ltb d (n + 1) ≡ x && y
    go true h true k = lt-ltb d (n + 1) (omega (arith, leb-true a u h, leb-true u (a + n) k))
    go true h false k = le-ltb d (n + 1) (omega (arith, leb-true a u h, leb-false u (a + n) k))
    go false h y k = le-ltb d (n + 1) (omega (arith, leb-false a u h))

-- ---- constants

pub eight : of_bits binary64 0x4020000000000000 ≡ number 8
unfolding of_bits number
eight = refl

pub half : of_bits binary64 0x3fe0000000000000 ≡ fin false 1 (negsuc 0)
unfolding of_bits
half = refl

-- ---- settling

no_choice : (b : Bool) → cond {A = ℕ} b 0 0 ≡ 0
no_choice true = refl
no_choice false = refl

add_none : (a x : ℕ) → a < 65536 → x ≡ 0 → wrapped a x ≡ a
add_none a x h e = omega arith

-- a word with position k settled, or as it is, by the bits that are added
pub settle_law : (t : Bool) (k : ℕ) (v : Verdict) (b c n : ℕ) (w : Word) → w.settled < 65536 → w.code < 65536 → w.unsure < 65536 → b ≡ cond t (2 ^ bit_of k) 0 → c ≡ cond v.code b 0
    → n ≡ cond v.confidence 0 b → word_plus w b c n ≡ cond t (settle wrapped k v w) w
settle_law t k v b c n w ls lc lu eb ec en =
    (λ i. word_plus w (eb i) ((ec ∙ ap (λ (p : ℕ). cond v.code p 0) eb) i) ((en ∙ ap (λ (p : ℕ). cond v.confidence 0 p) eb) i)) ∙ go t
  where
    go : (s : Bool) → word_plus w (cond s (2 ^ bit_of k) 0) (cond v.code (cond s (2 ^ bit_of k) 0) 0) (cond v.confidence 0 (cond s (2 ^ bit_of k) 0)) ≡ cond s (settle wrapped k v w) w
    go true = refl
    go false = λ i. record {
      settled = add_none w.settled 0 ls refl i;
      code = add_none w.code (cond v.code 0 0) lc (no_choice v.code) i;
      unsure = add_none w.unsure (cond v.confidence 0 0) lu (no_choice v.confidence) i;
    }
