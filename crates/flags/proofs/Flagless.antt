-- Eight words of eight bytes each, or-ed: the result is 0 exactly if no byte of the 64 has a bit. Flagless blocks and flagless bytes in a row are flagless.
use Prim.Native.Nat.{ℕ, zero, suc, ◌+◌, ◌-◌, ◌*◌, ◌/◌, ◌%◌, ◌≤◌, ◌<◌}
use native.Mathlib.Omega.{arith}
use native.Mathlib.Nat.{add-zero}
use mathlib.Core.Path.{◌≡◌, refl, sym, ap, ap₂, ◌∙◌, subst}
use mathlib.Core.Logic.{⊎_elim}
use mathlib.Core.Bool.{Bool, true, false, ◌&&◌, ◌||◌}
use mathlib.Core.List.{List, [], ◌∷◌}
use lib.Dec.{eqb}
use lib.ListN.{length, get_or}
use lib.Bits.{bit_or, or_lt}
use borrow.Author.Tests.{eqb-true, eq-eqb}
use Rattle.rules.proofs.Truth.{or_left, or_right, and_left, and_right}
use Rattle.plane.specs.Words.{bit}
use Rattle.packing.specs.Packing.{bytes, Eight}
use Rattle.flags.specs.Flags.{some, Gathered, JoinedBy, GatheredBy, FlaglessBlock, no_flags}
use Rattle.plane.proofs.Cases.{le_or_lt}
use Rattle.plane.proofs.BitLaws.{bit-or, bit-above, zero_bit}
use Rattle.plane.proofs.LowestBit.{no_bits}

-- ---- one of several

-- none of them, if not one
pub some-none : (g : ℕ → Bool) (n : ℕ) → some g n ≡ false → (k : ℕ) → k < n → g k ≡ false
unfolding some
some-none g zero e k h = absurd (omega arith)
some-none g (suc n) e k h =
    ⊎_elim (λ (l : n ≤ k). let q : n ≡ k = omega arith in subst (λ (i : ℕ). g i ≡ false) q (or_right (some g n) (g n) e))
    (λ (l : k < n). some-none g n (or_left (some g n) (g n) e) k l) (le_or_lt n k)

-- and not one, if none of them
pub none-some : (g : ℕ → Bool) (n : ℕ) → ((k : ℕ) → k < n → g k ≡ false) → some g n ≡ false
unfolding some
none-some g zero f = refl
none-some g (suc n) f = ap₂ ◌||◌ (none-some g n (λ k h. f k (omega arith))) (f n (omega arith))

pub or_assoc : (a b c : Bool) → a || (b || c) ≡ (a || b) || c
or_assoc true b c = refl
or_assoc false b c = refl

-- ---- words of eight bytes

-- the first word, and one word more
first : (f : List ℕ) (o : ℕ) {x : ℕ} → Eight f o x → Gathered f o 1 x
unfolding some
first f o e = record { below = e.reads.below; at = λ i h. e.reads.at i h ∙ ap (λ (k : ℕ). bytes f k i) (sym (add-zero o)) }

one_more : (f : List ℕ) (o n : ℕ) {x y : ℕ} → Gathered f o n x → Eight f (o + 8 * n) y → Gathered f o (suc n) (bit_or x y)
unfolding some
one_more f o n {x} {y} g e = record {
  below = or_lt 64 x y g.below e.reads.below;
  at = λ i h. bit-or x y i ∙ ap₂ ◌||◌ (g.at i h) (e.reads.at i h);
}

-- what is made of one word more
joined_by : (f : List ℕ) (o q : ℕ) {P : ℕ → ℕ → Type 0} {x : ℕ} (y : ℕ) → Eight f o x → P x y → JoinedBy P f o q (bit_or q y)
joined_by f o q {x = x} y e p = record { word = x; part = y; read = e; made = p; joined = refl }

-- of eight words
pub gathered_by : (f : List ℕ) (o : ℕ) (P : ℕ → ℕ → Type 0) {x₀ x₁ x₂ x₃ x₄ x₅ x₆ x₇ : ℕ} (y₀ y₁ y₂ y₃ y₄ y₅ y₆ y₇ : ℕ)
    → Eight f o x₀ → Eight f (o + 8) x₁ → Eight f (o + 16) x₂ → Eight f (o + 24) x₃ → Eight f (o + 32) x₄ → Eight f (o + 40) x₅ → Eight f (o + 48) x₆ → Eight f (o + 56) x₇
    → P x₀ y₀ → P x₁ y₁ → P x₂ y₂ → P x₃ y₃ → P x₄ y₄ → P x₅ y₅ → P x₆ y₆ → P x₇ y₇
    → GatheredBy P f o 7 (bit_or (bit_or (bit_or (bit_or (bit_or (bit_or (bit_or y₀ y₁) y₂) y₃) y₄) y₅) y₆) y₇)
gathered_by f o P {x₀} y₀ y₁ y₂ y₃ y₄ y₅ y₆ y₇ e₀ e₁ e₂ e₃ e₄ e₅ e₆ e₇ p₀ p₁ p₂ p₃ p₄ p₅ p₆ p₇ =
    let q₁ = bit_or y₀ y₁ in
    let q₂ = bit_or q₁ y₂ in
    let q₃ = bit_or q₂ y₃ in
    let q₄ = bit_or q₃ y₄ in
    let q₅ = bit_or q₄ y₅ in
    let q₆ = bit_or q₅ y₆ in (
      q₆,
      (
        (
          q₅,
          (
            (
              q₄,
              (
                (
                  q₃,
                  (
                    (q₂, ((q₁, ((y₀, ((x₀, (e₀, p₀)), joined_by f (o + 8) y₀ y₁ e₁ p₁)), joined_by f (o + 16) q₁ y₂ e₂ p₂)), joined_by f (o + 24) q₂ y₃ e₃ p₃)),
                    joined_by f (o + 32) q₃ y₄ e₄ p₄,
                  ),
                ),
                joined_by f (o + 40) q₄ y₅ e₅ p₅,
              ),
            ),
            joined_by f (o + 48) q₅ y₆ e₆ p₆,
          ),
        ),
        joined_by f (o + 56) q₆ y₇ e₇ p₇,
      ),
    )

-- the words themselves
pub words_by : (f : List ℕ) (o : ℕ) (P : ℕ → ℕ → Type 0) → ((x y : ℕ) → P x y → y ≡ x) → (n r : ℕ) → GatheredBy P f o n r → Gathered f o (suc n) r
words_by f o P h zero r g = first f o (subst (Eight f o) (sym (h g.0 r g.1.1)) g.1.0)
words_by f o P h (suc n) r g =
    let s = g.1.1 in
    subst (Gathered f o (suc (suc n))) (sym s.joined) (one_more f o (suc n) (words_by f o P h n g.0 g.1.0) (subst (Eight f (o + 8 * suc n)) (sym (h s.word s.part s.made)) s.read))

-- ---- no bit

-- bit k of the byte of tick o+m
pub byte_bit : (f : List ℕ) (o m k i j : ℕ) → i % 8 ≡ k → 8 * j + i / 8 ≡ m → bytes f (o + 8 * j) i ≡ bit (get_or f (o + m) 0) k
unfolding bytes
byte_bit f o m k i j e d =
    let q : o + 8 * j + i / 8 ≡ o + m = omega arith in
    ap₂ (λ (n r : ℕ). bit (get_or f n 0) r) q e

module _ (f : List ℕ) (o x : ℕ) (g : Gathered f o 8 x) where
  -- an or of 0 tells that no byte has a bit
  clear : x ≡ 0 → (m k : ℕ) → m < 64 → k < 8 → bit (get_or f (o + m) 0) k ≡ false
  clear e m k h l =
      let i = 8 * (m % 8) + k in
      sym (byte_bit f o m k i (m / 8) (omega arith) (omega arith))
      ∙ some-none (λ j. bytes f (o + 8 * j) i) 8 (sym (g.at i (omega arith)) ∙ ap (λ (y : ℕ). bit y i) e ∙ zero_bit i) (m / 8) (omega arith)

  -- and no bit leaves it 0
  none : ((m k : ℕ) → m < 64 → k < 8 → bit (get_or f (o + m) 0) k ≡ false) → (i : ℕ) → i < 64 → bit x i ≡ false
  none q i h =
      g.at i h
      ∙ none-some (λ j. bytes f (o + 8 * j) i) 8 (λ j l. byte_bit f o (8 * j + i / 8) (i % 8) i j refl refl ∙ q (8 * j + i / 8) (i % 8) (omega arith) (omega arith))

  pub flagless-is : FlaglessBlock f o (eqb x 0)
  flagless-is = record { yes = λ e. clear (eqb-true x 0 e); no = λ q. eq-eqb x 0 (no_bits x g.below (none q)) }

-- ---- a byte

-- the bits of a byte from 8 on, if those below are known
pub all_bits : (b k : ℕ) → b < 256 → ((i : ℕ) → k ≤ i → i < 8 → bit b i ≡ false) → (i : ℕ) → k ≤ i → bit b i ≡ false
all_bits b k h f i l = ⊎_elim (λ (g : 8 ≤ i). bit-above b 8 i h g) (λ (g : i < 8). f i l g) (le_or_lt 8 i)

-- a byte without a bit is 0
no_byte : (b : ℕ) → b < 256 → ((k : ℕ) → k < 8 → bit b k ≡ false) → b ≡ 0
no_byte b h f = no_bits b (omega arith) (λ i l. all_bits b 0 h (λ k _ g. f k g) i (omega arith))

-- ---- no bit in any byte

-- what a piece without flags says of each byte, and the other way round
pub no-flag-at : (f : List ℕ) → no_flags f ≡ true → (m : ℕ) → get_or f m 0 ≡ 0
no-flag-at [] e m = refl
no-flag-at (x ∷ f) e zero = eqb-true x 0 (and_left (eqb x 0) (no_flags f) e)
no-flag-at (x ∷ f) e (suc m) = no-flag-at f (and_right (eqb x 0) (no_flags f) e) m

no-flag-all : (f : List ℕ) → ((m : ℕ) → m < length f → get_or f m 0 ≡ 0) → no_flags f ≡ true
no-flag-all [] h = refl
no-flag-all (x ∷ f) h = ap₂ ◌&&◌ (eq-eqb x 0 (h 0 (omega arith))) (no-flag-all f (λ m l. h (suc m) (omega arith)))

-- a block by itself
pub block_only : (f : List ℕ) (r : Bool) → length f ≡ 64 → ((k : ℕ) → get_or f k 0 < 256) → FlaglessBlock f 0 r → r ≡ no_flags f
block_only f r size bound b = go r refl
  where
    zero_at : r ≡ true → (m : ℕ) → m < length f → get_or f m 0 ≡ 0
    zero_at e m h =
        let z : 0 + m ≡ m = omega arith in
        subst (λ (k : ℕ). get_or f k 0 ≡ 0) z (no_byte (get_or f (0 + m) 0) (bound (0 + m)) (λ k l. b.yes e m k (omega arith) l))

    go : (s : Bool) → r ≡ s → r ≡ no_flags f
    go true e = e ∙ sym (no-flag-all f (zero_at e))
    go false e = flagged (no_flags f) refl
      where
        flagged : (n : Bool) → no_flags f ≡ n → r ≡ n
        flagged true q = b.no (λ m k l h. ap (λ (x : ℕ). bit x k) (no-flag-at f q (0 + m)) ∙ zero_bit k)
        flagged false q = e
