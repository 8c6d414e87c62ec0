-- A bad byte among 64, from two words: the or of their bits, and the or of each bit with the one above it.
-- A mask of the first leaves bits 4 to 7 of the bytes, and one of the second P with N.
use Prim.Native.Nat.{ℕ, zero, suc, ◌+◌, ◌*◌, ◌/◌, ◌%◌, ◌^◌, ◌≤◌, ◌<◌}
use native.Mathlib.Omega.{arith}
use native.Mathlib.Nat.{add-zero}
use mathlib.Core.Path.{◌≡◌, refl, sym, ap, ap₂, ◌∙◌, subst}
use mathlib.Core.Bool.{Bool, true, false, not, ◌&&◌, ◌||◌}
use mathlib.Core.List.{List}
use lib.Dec.{ltb, leb, eqb}
use lib.ListN.{length, get_or, drop, drop_of_length-le}
use lib.Bits.{bit_and, bit_or, or_lt, and_le_r}
use borrow.Author.Tests.{eqb-true, eq-eqb, leb-true, le-leb, ltb-false, le-ltb}
use Rattle.rules.specs.Lists.{any}
use Rattle.rules.specs.Samples.{bad, odd}
use Rattle.rules.proofs.Truth.{or_left, or_right, impossible}
use Rattle.plane.specs.Words.{bit}
use Rattle.packing.specs.Packing.{bytes, Eight}
use Rattle.flags.specs.Flags.{some, Gathered, GatheredBy, Paired}
use Rattle.plane.proofs.Cases.{and_false, or_false, up_to, below, is_true, never}
use Rattle.plane.proofs.BitLaws.{bit-and, bit-or, bit-shr, bit-above, zero_bit}
use Rattle.plane.proofs.LowestBit.{no_bits}
use Rattle.flags.proofs.BadBytes.{rest}
use Rattle.flags.proofs.Flagless.{some-none, none-some, or_assoc, byte_bit, all_bits}

-- ---- one byte

-- a byte without bits 4 to 7 and without P with N is good
good : (b : ℕ) → b < 256 → ((k : ℕ) → 4 ≤ k → k < 8 → bit b k ≡ false) → bit b 1 && bit b 2 ≡ false → bad b ≡ false
unfolding bit
good b h high both =
    let z : b / 2 ^ 4 ≡ 0 = no_bits (b / 2 ^ 4) (omega arith) (λ i l. bit-shr b 4 i ∙ all_bits b 4 h high (4 + i) (omega arith)) in
    ap₂ ◌||◌ both (le-ltb 15 b (omega arith))

-- and a good one has none of them
good-high : (b k : ℕ) → bad b ≡ false → 4 ≤ k → bit b k ≡ false
good-high b k e h = bit-above b 4 k (omega (arith, ltb-false 15 b (or_right (odd (b / 2) && odd (b / 4)) (ltb 15 b) e))) h

good-both : (b : ℕ) → bad b ≡ false → bit b 1 && bit b 2 ≡ false
unfolding bit
good-both b e = or_left (odd (b / 2) && odd (b / 4)) (ltb 15 b) e

-- ---- each bit of the bytes with the one above it

pair-bit : (f : List ℕ) (o x i : ℕ) → Eight f o x → i < 63 → bit (bit_and x (x / 2)) i ≡ bytes f o i && bytes f o (1 + i)
pair-bit f o x i e h = bit-and x (x / 2) i ∙ ap₂ ◌&&◌ (e.reads.at i (omega arith)) (bit-shr x 1 i ∙ e.reads.at (1 + i) (omega arith))

-- the first word, and one word more
first-pair : (f : List ℕ) (o : ℕ) {x y : ℕ} → Eight f o x → y ≡ bit_and x (x / 2) → Paired f o 1 y
unfolding some
first-pair f o {x} {y} e q = record {
  at = λ i h. ap (λ (z : ℕ). bit z i) q ∙ pair-bit f o x i e h ∙ ap (λ (k : ℕ). bytes f k i && bytes f k (1 + i)) (sym (add-zero o));
}

one-more-pair : (f : List ℕ) (o n : ℕ) {x y z : ℕ} → Paired f o n y → Eight f (o + 8 * n) x → z ≡ bit_and x (x / 2) → Paired f o (suc n) (bit_or y z)
unfolding some
one-more-pair f o n {x} {y} {z} g e q = record {
  at = λ i h. bit-or y z i ∙ ap₂ ◌||◌ (g.at i h) (ap (λ (z : ℕ). bit z i) q ∙ pair-bit f (o + 8 * n) x i e h);
}

pub pairs_by : (f : List ℕ) (o : ℕ) (P : ℕ → ℕ → Type 0) → ((x y : ℕ) → P x y → y ≡ bit_and x (x / 2)) → (n r : ℕ) → GatheredBy P f o n r → Paired f o (suc n) r
pairs_by f o P h zero r g = first-pair f o g.1.0 (h g.0 r g.1.1)
pairs_by f o P h (suc n) r g =
    let s = g.1.1 in
    subst (Paired f o (suc (suc n))) (sym s.joined) (one-more-pair f o (suc n) (pairs_by f o P h n g.0 g.1.0) s.read (h s.word s.part s.made))

-- ---- the masks

high : ℕ
high = 0xf0f0f0f0f0f0f0f0

slope : ℕ
slope = 0x0202020202020202

high_marks : up_to (λ i. not (leb 4 (i % 8)) || bit high i) 64 ≡ true
unfolding bit high
high_marks = refl

high-only : up_to (λ i. not (bit high i) || leb 4 (i % 8)) 64 ≡ true
unfolding bit high
high-only = refl

slope_marks : up_to (λ i. not (eqb (i % 8) 1) || bit slope i) 64 ≡ true
unfolding bit slope
slope_marks = refl

slope_only : up_to (λ i. not (bit slope i) || eqb (i % 8) 1) 64 ≡ true
unfolding bit slope
slope_only = refl

-- where f passes, g does
implied : (f g : ℕ → Bool) (n i : ℕ) → up_to (λ i. not (f i) || g i) n ≡ true → i < n → f i ≡ true → g i ≡ true
implied f g n i p h e = ap (λ (b : Bool). not b || g i) (sym e) ∙ below (λ i. not (f i) || g i) n p i h

-- ---- one byte of several

any_split : (f : List ℕ) (o n : ℕ) → o + n ≤ length f → any bad (drop o f) ≡ some (λ m. bad (get_or f (o + m) 0)) n || any bad (drop (o + n) f)
unfolding some
any_split f o zero h = ap (λ (k : ℕ). any bad (drop k f)) (sym (add-zero o))
any_split f o (suc n) h =
    let e : o + n + 1 ≡ o + suc n = omega arith in
    any_split f o n (omega arith)
    ∙ ap (λ (l : List ℕ). some (λ m. bad (get_or f (o + m) 0)) n || any bad l) (rest f (o + n) (omega arith))
    ∙ or_assoc (some (λ m. bad (get_or f (o + m) 0)) n) (bad (get_or f (o + n) 0)) (any bad (drop (o + n + 1) f))
    ∙ ap (λ (k : ℕ). (some (λ m. bad (get_or f (o + m) 0)) n || bad (get_or f (o + n) 0)) || any bad (drop k f)) e

-- ---- the test

marked-clear : (a b : Bool) → b ≡ true → a && b ≡ false → a ≡ false
marked-clear true b p q = never q p
marked-clear false b p q = refl

module _ (f : List ℕ) (o bits pairs : ℕ) (within : o + 64 ≤ length f) (bound : (i : ℕ) → get_or f i 0 < 256) (g : Gathered f o 8 bits) where
  -- bit k of byte m is among the bits
  bits_of : (m k : ℕ) → m < 64 → k < 8 → bit bits (8 * (m % 8) + k) ≡ false → bit (get_or f (o + m) 0) k ≡ false
  bits_of m k h l e =
      let i = 8 * (m % 8) + k in
      sym (byte_bit f o m k i (m / 8) (omega arith) (omega arith))
      ∙ some-none (λ j. bytes f (o + 8 * j) i) 8 (sym (g.at i (omega arith)) ∙ e) (m / 8) (omega arith)

  -- no bit at all
  pub none-bad : bits ≡ 0 → any bad (drop o f) ≡ any bad (drop (o + 64) f)
  none-bad e =
      any_split f o 64 within
      ∙ ap (λ (b : Bool). b || any bad (drop (o + 64) f)) (none-some (λ m. bad (get_or f (o + m) 0)) 64 (λ m h.
      good (get_or f (o + m) 0) (bound (o + m)) (λ k _ l. clear m k h l) (ap (λ (b : Bool). b && bit (get_or f (o + m) 0) 2) (clear m 1 h (omega arith)))))
    where
      clear : (m k : ℕ) → m < 64 → k < 8 → bit (get_or f (o + m) 0) k ≡ false
      clear m k h l = bits_of m k h l (ap (λ (y : ℕ). bit y (8 * (m % 8) + k)) e ∙ zero_bit (8 * (m % 8) + k))

  module _ (q : Paired f o 8 pairs) where
    w : ℕ
    unfolding high slope
    w = bit_or (bit_and bits high) (bit_and pairs slope)

    w_bit : (i : ℕ) → bit w i ≡ (bit bits i && bit high i) || (bit pairs i && bit slope i)
    unfolding w
    w_bit i = bit-or (bit_and bits high) (bit_and pairs slope) i ∙ ap₂ ◌||◌ (bit-and bits high i) (bit-and pairs slope i)

    w_below : w < 2 ^ 64
    unfolding w high slope
    w_below = or_lt 64 (bit_and bits high) (bit_and pairs slope) (omega (arith, and_le_r bits high)) (omega (arith, and_le_r pairs slope))

    -- no bit of the two words: all bytes are good
    clean : w ≡ 0 → (m : ℕ) → m < 64 → bad (get_or f (o + m) 0) ≡ false
    clean e m h = good (get_or f (o + m) 0) (bound (o + m)) upper both
      where
        no-bit : (i : ℕ) → (bit bits i && bit high i) || (bit pairs i && bit slope i) ≡ false
        no-bit i = sym (w_bit i) ∙ ap (λ (y : ℕ). bit y i) e ∙ zero_bit i

        upper : (k : ℕ) → 4 ≤ k → k < 8 → bit (get_or f (o + m) 0) k ≡ false
        upper k l r =
            let i = 8 * (m % 8) + k in
            bits_of m k h r (marked-clear (bit bits i) (bit high i)
            (implied (λ i. leb 4 (i % 8)) (bit high) 64 i high_marks (omega arith) (le-leb 4 (i % 8) (omega arith)))
            (or_left (bit bits i && bit high i) (bit pairs i && bit slope i) (no-bit i)))

        both : bit (get_or f (o + m) 0) 1 && bit (get_or f (o + m) 0) 2 ≡ false
        both =
            let i = 8 * (m % 8) + 1 in
            ap₂ ◌&&◌ (sym (byte_bit f o m 1 i (m / 8) (omega arith) (omega arith))) (sym (byte_bit f o m 2 (1 + i) (m / 8) (omega arith) (omega arith)))
            ∙ some-none (λ j. bytes f (o + 8 * j) i && bytes f (o + 8 * j) (1 + i)) 8
            (sym (q.at i (omega arith)) ∙ marked-clear (bit pairs i) (bit slope i)
            (implied (λ i. eqb (i % 8) 1) (bit slope) 64 i slope_marks (omega arith) (eq-eqb (i % 8) 1 (omega arith)))
            (or_right (bit bits i && bit high i) (bit pairs i && bit slope i) (no-bit i)))
            (m / 8) (omega arith)

    -- and good bytes leave none
    module _ (all : (m : ℕ) → m < 64 → bad (get_or f (o + m) 0) ≡ false) where
      no-high : (i : ℕ) → i < 64 → (c : Bool) → bit high i ≡ c → bit bits i && c ≡ false
      no-high i h true e =
          let l : 4 ≤ i % 8 = leb-true 4 (i % 8) (implied (bit high) (λ i. leb 4 (i % 8)) 64 i high-only h e) in
          ap (λ (b : Bool). b && true) (g.at i h ∙ none-some (λ j. bytes f (o + 8 * j) i) 8 (λ j r.
          byte_bit f o (8 * j + i / 8) (i % 8) i j refl refl ∙ good-high (get_or f (o + (8 * j + i / 8)) 0) (i % 8) (all (8 * j + i / 8) (omega arith)) l))
      no-high i h false e = and_false (bit bits i)

      no-pair : (i : ℕ) → i < 64 → (c : Bool) → bit slope i ≡ c → bit pairs i && c ≡ false
      no-pair i h true e =
          let l : i % 8 ≡ 1 = eqb-true (i % 8) 1 (implied (bit slope) (λ i. eqb (i % 8) 1) 64 i slope_only h e) in
          ap (λ (b : Bool). b && true) (q.at i (omega arith) ∙ none-some (λ j. bytes f (o + 8 * j) i && bytes f (o + 8 * j) (1 + i)) 8 (λ j r.
          ap₂ ◌&&◌ (byte_bit f o (8 * j + i / 8) 1 i j l refl) (byte_bit f o (8 * j + i / 8) 2 (1 + i) j (omega arith) (omega arith))
          ∙ good-both (get_or f (o + (8 * j + i / 8)) 0) (all (8 * j + i / 8) (omega arith))))
      no-pair i h false e = and_false (bit pairs i)

      left-none : w ≡ 0
      left-none = no_bits w w_below (λ i h. w_bit i ∙ ap₂ ◌||◌ (no-high i h (bit high i) refl) (no-pair i h (bit slope i) refl))

    decides : (c : Bool) → eqb w 0 ≡ c → some (λ m. bad (get_or f (o + m) 0)) 64 ≡ not c
    decides true e = none-some (λ m. bad (get_or f (o + m) 0)) 64 (clean (eqb-true w 0 e))
    decides false e =
        is_true (some (λ m. bad (get_or f (o + m) 0)) 64)
        (λ s. impossible (sym (eq-eqb w 0 (left-none (some-none (λ m. bad (get_or f (o + m) 0)) 64 s))) ∙ e))

    pub block_bad : any bad (drop o f) ≡ not (eqb (bit_or (bit_and bits 0xf0f0f0f0f0f0f0f0) (bit_and pairs 0x0202020202020202)) 0) || any bad (drop (o + 64) f)
    unfolding w high slope
    block_bad = any_split f o 64 within ∙ ap (λ (b : Bool). b || any bad (drop (o + 64) f)) (decides (eqb w 0) refl)

-- ---- a block by itself

pub block_only : (f : List ℕ) (r : Bool) → length f ≡ 64 → any bad f ≡ r || any bad (drop 64 f) → r ≡ any bad f
block_only f r h e =
    let l : length f ≤ 64 = omega arith in
    sym (or_false r) ∙ ap (λ (k : List ℕ). r || any bad k) (sym (drop_of_length-le f l)) ∙ sym e
