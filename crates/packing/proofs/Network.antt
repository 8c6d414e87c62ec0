-- Exchanges of bits between two words, and inside one, by the places that the bits come from.
-- A xor of two words under a mask, put back into both, exchanges the bits that the mask marks; the mask must mark no bit whose partner lies outside.
use Prim.Native.Nat.{ℕ, ◌+◌, ◌-◌, ◌*◌, ◌/◌, ◌^◌, ◌≤◌, ◌<◌}
use native.Mathlib.Omega.{arith}
use native.Mathlib.Nat.{mod-lt, lt_of_le_of_lt}
use mathlib.Core.Path.{◌≡◌, refl, sym, ap, ap₂, ◌∙◌, subst}
use mathlib.Core.Logic.{⊎_elim}
use mathlib.Core.Bool.{Bool, true, false, not, ◌&&◌, ◌||◌, cond}
use lib.Dec.{leb, ltb}
use lib.Pow.{pow_pos, shr_le}
use lib.Bits.{bit_and, bit_xor, and_lt, xor_lt}
use borrow.Author.Tests.{le-leb, lt-leb, ltb-true}
use Rattle.rules.proofs.Truth.{and_left, and_right, impossible}
use Rattle.plane.specs.Words.{bit}
use Rattle.packing.specs.Packing.{Reads, Inside, lows, highs, swaps, swapped, turned, Turn}
use Rattle.plane.proofs.Cases.{le_or_lt, and_false, up_to, below}
use Rattle.plane.proofs.BitLaws.{xor, bit-and, bit-xor, bit-shr, left, left-high, left-low}

-- ---- truth values

-- where m, the other's bit; else its own
take_other : (m a b : Bool) → xor b (xor a b && m) ≡ cond m a b
unfolding xor
take_other true true true = refl
take_other true true false = refl
take_other true false true = refl
take_other true false false = refl
take_other false true true = refl
take_other false true false = refl
take_other false false true = refl
take_other false false false = refl

take_this : (m a b : Bool) → xor a (xor a b && m) ≡ cond m b a
unfolding xor
take_this true true true = refl
take_this true true false = refl
take_this true false true = refl
take_this true false false = refl
take_this false true true = refl
take_this false true false = refl
take_this false false true = refl
take_this false false false = refl

-- a bit a, whose partner k above is b and whose partner k below is c: it takes the one above, the one below, or stays
up : (a b c : Bool) → xor (xor a (xor a b && true)) (xor c a && false) ≡ b
unfolding xor
up true true true = refl
up true true false = refl
up true false true = refl
up true false false = refl
up false true true = refl
up false true false = refl
up false false true = refl
up false false false = refl

down : (a b c : Bool) → xor (xor a (xor a b && false)) (xor c a && true) ≡ c
unfolding xor
down true true true = refl
down true true false = refl
down true false true = refl
down true false false = refl
down false true true = refl
down false true false = refl
down false false true = refl
down false false false = refl

stay : (a b c : Bool) → xor (xor a (xor a b && false)) (xor c a && false) ≡ a
unfolding xor
stay true true true = refl
stay true true false = refl
stay true false true = refl
stay true false false = refl
stay false true true = refl
stay false true false = refl
stay false false true = refl
stay false false false = refl

xor_false : (a : Bool) → xor a false ≡ a
unfolding xor
xor_false true = refl
xor_false false = refl

-- ---- an exchange between two words

module _ {X : ℕ → Bool} {σ τ : ℕ → ℕ} {x y : ℕ} (s m : ℕ) (p : Reads X σ x) (q : Reads X τ y) (hm : m < 2 ^ 64) (inside : Inside s m) where
  t : ℕ
  t = bit_and (bit_xor (x / 2 ^ s) y) m

  t_lt : t < 2 ^ 64
  unfolding t
  t_lt = and_lt 64 (bit_xor (x / 2 ^ s) y) m (xor_lt 64 (x / 2 ^ s) y (lt_of_le_of_lt (shr_le x s) p.below) q.below) hm

  t_bit : (i : ℕ) → bit t i ≡ xor (bit x (s + i)) (bit y i) && bit m i
  unfolding t
  t_bit i =
      bit-and (bit_xor (x / 2 ^ s) y) m i
      ∙ ap (λ (b : Bool). b && bit m i) (bit-xor (x / 2 ^ s) y i ∙ ap (λ (b : Bool). xor b (bit y i)) (bit-shr x s i))

  high-pick : (i : ℕ) → i < 64 → (b : Bool) → bit m i ≡ b → cond b (bit x (s + i)) (bit y i) ≡ X (cond b (σ (s + i)) (τ i))
  high-pick i h true e = p.at (s + i) (inside.marks i h e)
  high-pick i h false e = q.at i h

  pub reads-high : Reads X (highs s m σ τ) (bit_xor y (bit_and (bit_xor (x / 2 ^ s) y) m))
  unfolding highs t
  reads-high = record {
    below = xor_lt 64 y t q.below t_lt;
    at = λ i h. bit-xor y t i ∙ ap (xor (bit y i)) (t_bit i) ∙ take_other (bit m i) (bit x (s + i)) (bit y i) ∙ high-pick i h (bit m i) refl;
  }

  low-pick : (i j : ℕ) → i < 64 → j < 64 → (b : Bool) → cond b (bit y j) (bit x i) ≡ X (cond b (τ j) (σ i))
  low-pick i j h k true = q.at j k
  low-pick i j h k false = p.at i h

  low-at : (i : ℕ) → i < 64 → xor (bit x i) (bit (left s t) i) ≡ X (lows s m σ τ i)
  unfolding lows
  low-at i h = ⊎_elim late early (le_or_lt s i)
    where
      late : s ≤ i → xor (bit x i) (bit (left s t) i) ≡ X (cond (leb s i && bit m (i - s)) (τ (i - s)) (σ i))
      late g =
          let e : s + (i - s) ≡ i = omega arith in
          ap (xor (bit x i)) (subst (λ (k : ℕ). bit (left s t) k ≡ bit t (i - s)) e (left-high s t (i - s) (omega arith)) ∙ t_bit (i - s)
          ∙ ap (λ (k : ℕ). xor (bit x k) (bit y (i - s)) && bit m (i - s)) e)
          ∙ take_this (bit m (i - s)) (bit x i) (bit y (i - s))
          ∙ low-pick i (i - s) h (omega arith) (bit m (i - s))
          ∙ ap (λ (b : Bool). X (cond (b && bit m (i - s)) (τ (i - s)) (σ i))) (sym (le-leb s i g))

      early : i < s → xor (bit x i) (bit (left s t) i) ≡ X (cond (leb s i && bit m (i - s)) (τ (i - s)) (σ i))
      early g =
          ap (xor (bit x i)) (left-low s t i h g) ∙ xor_false (bit x i) ∙ p.at i h
          ∙ ap (λ (b : Bool). X (cond (b && bit m (i - s)) (τ (i - s)) (σ i))) (sym (lt-leb s i g))

  pub reads-low : Reads X (lows s m σ τ) (bit_xor x (left s (bit_and (bit_xor (x / 2 ^ s) y) m)))
  unfolding t
  reads-low = record {
    below = xor_lt 64 x (left s t) p.below (mod-lt (t * 2 ^ s) (pow_pos 64));
    at = λ i h. bit-xor x (left s t) i ∙ low-at i h;
  }

-- ---- a swap inside a word

module _ {X : ℕ → Bool} {σ : ℕ → ℕ} {x : ℕ} (k m : ℕ) (p : Reads X σ x) (hm : m < 2 ^ 64)
    (fits : up_to (λ i. not (bit m i) || (ltb (k + i) 64 && not (leb k i && bit m (i - k)))) 64 ≡ true) where
  u : ℕ
  u = bit_and (bit_xor x (x / 2 ^ k)) m

  u_lt : u < 2 ^ 64
  unfolding u
  u_lt = and_lt 64 (bit_xor x (x / 2 ^ k)) m (xor_lt 64 x (x / 2 ^ k) p.below (lt_of_le_of_lt (shr_le x k) p.below)) hm

  u_bit : (i : ℕ) → bit u i ≡ xor (bit x i) (bit x (k + i)) && bit m i
  unfolding u
  u_bit i =
      bit-and (bit_xor x (x / 2 ^ k)) m i
      ∙ ap (λ (b : Bool). b && bit m i) (bit-xor x (x / 2 ^ k) i ∙ ap (xor (bit x i)) (bit-shr x k i))

  ok : (i : ℕ) → i < 64 → bit m i ≡ true → ltb (k + i) 64 && not (leb k i && bit m (i - k)) ≡ true
  ok i h e =
      ap (λ (b : Bool). not b || (ltb (k + i) 64 && not (leb k i && bit m (i - k)))) (sym e)
      ∙ below (λ i. not (bit m i) || (ltb (k + i) 64 && not (leb k i && bit m (i - k)))) 64 fits i h

  -- b says that m marks bit i, g that it marks the bit j, k below
  swap_pick : (i j : ℕ) → i < 64 → j < 64 → (b g : Bool) → (b ≡ true → ltb (k + i) 64 && not g ≡ true)
      → xor (xor (bit x i) (xor (bit x i) (bit x (k + i)) && b)) (xor (bit x j) (bit x i) && g) ≡ X (σ (cond b (k + i) (cond g j i)))
  swap_pick i j h l true true f = absurd (impossible (sym (and_right (ltb (k + i) 64) false (f refl))))
  swap_pick i j h l true false f =
      up (bit x i) (bit x (k + i)) (bit x j) ∙ p.at (k + i) (ltb-true (k + i) 64 (and_left (ltb (k + i) 64) true (f refl)))
  swap_pick i j h l false true f = down (bit x i) (bit x (k + i)) (bit x j) ∙ p.at j l
  swap_pick i j h l false false f = stay (bit x i) (bit x (k + i)) (bit x j) ∙ p.at i h

  swap_at : (i : ℕ) → i < 64 → xor (xor (bit x i) (bit u i)) (bit (left k u) i) ≡ X (σ (swaps k m i))
  unfolding swaps
  swap_at i h = ⊎_elim late early (le_or_lt k i)
    where
      late : k ≤ i → xor (xor (bit x i) (bit u i)) (bit (left k u) i) ≡ X (σ (cond (bit m i) (k + i) (cond (leb k i && bit m (i - k)) (i - k) i)))
      late g =
          let e : k + (i - k) ≡ i = omega arith in
          ap₂ (λ (a b : Bool). xor (xor (bit x i) a) b) (u_bit i)
          (subst (λ (n : ℕ). bit (left k u) n ≡ bit u (i - k)) e (left-high k u (i - k) (omega arith)) ∙ u_bit (i - k)
          ∙ ap (λ (n : ℕ). xor (bit x (i - k)) (bit x n) && bit m (i - k)) e
          ∙ ap (λ (b : Bool). xor (bit x (i - k)) (bit x i) && (b && bit m (i - k))) (sym (le-leb k i g)))
          ∙ swap_pick i (i - k) h (omega arith) (bit m i) (leb k i && bit m (i - k)) (ok i h)

      early : i < k → xor (xor (bit x i) (bit u i)) (bit (left k u) i) ≡ X (σ (cond (bit m i) (k + i) (cond (leb k i && bit m (i - k)) (i - k) i)))
      early g =
          ap₂ (λ (a b : Bool). xor (xor (bit x i) a) b) (u_bit i)
          (left-low k u i h g ∙ sym (and_false (xor (bit x 0) (bit x i)))
          ∙ ap (λ (b : Bool). xor (bit x 0) (bit x i) && (b && bit m (i - k))) (sym (lt-leb k i g)))
          ∙ swap_pick i 0 h (omega arith) (bit m i) (leb k i && bit m (i - k)) (ok i h)
          ∙ ap (λ (b : Bool). X (σ (cond (bit m i) (k + i) (cond (b && bit m (i - k)) 0 i)))) (lt-leb k i g)
          ∙ ap (λ (b : Bool). X (σ (cond (bit m i) (k + i) (cond (b && bit m (i - k)) (i - k) i)))) (sym (lt-leb k i g))

  pub reads_swap : Reads X (λ i. σ (swaps k m i)) (bit_xor (bit_xor x (bit_and (bit_xor x (x / 2 ^ k)) m)) (left k (bit_and (bit_xor x (x / 2 ^ k)) m)))
  unfolding u
  reads_swap = record {
    below = xor_lt 64 (bit_xor x u) (left k u) (xor_lt 64 x u p.below u_lt) (mod-lt (u * 2 ^ k) (pow_pos 64));
    at = λ i h. bit-xor (bit_xor x u) (left k u) i ∙ ap (λ (b : Bool). xor b (bit (left k u) i)) (bit-xor x u i) ∙ swap_at i h;
  }

-- ---- the exchanges and swaps of the packing

abbrev tested : ℕ → ℕ → ℕ → Bool
tested s m i = not (bit m i) || ltb (s + i) 64

inside_by : (s m : ℕ) → s < 64 → up_to (tested s m) 64 ≡ true → Inside s m
inside_by s m l fits =
    record {
      shift = l;
      marks = λ i h e. ltb-true (s + i) 64 (ap (λ (b : Bool). not b || ltb (s + i) 64) (sym e) ∙ below (tested s m) 64 fits i h);
    }

pub inside4 : Inside 4 0x0f0f0f0f0f0f0f0f
unfolding bit
inside4 = inside_by 4 0x0f0f0f0f0f0f0f0f (omega arith) refl

pub inside2 : Inside 2 0x3333333333333333
unfolding bit
inside2 = inside_by 2 0x3333333333333333 (omega arith) refl

pub inside1 : Inside 1 0x5555555555555555
unfolding bit
inside1 = inside_by 1 0x5555555555555555 (omega arith) refl

abbrev apart : ℕ → ℕ → ℕ → Bool
apart k m i = not (bit m i) || (ltb (k + i) 64 && not (leb k i && bit m (i - k)))

fits7 : up_to (apart 7 0x00aa00aa00aa00aa) 64 ≡ true
unfolding bit
fits7 = refl

fits14 : up_to (apart 14 0x0000cccc0000cccc) 64 ≡ true
unfolding bit
fits14 = refl

fits28 : up_to (apart 28 0x00000000f0f0f0f0) 64 ≡ true
unfolding bit
fits28 = refl

pub turn_is : (x y z r : ℕ) → y ≡ swapped 7 0x00aa00aa00aa00aa x → z ≡ swapped 14 0x0000cccc0000cccc y → r ≡ swapped 28 0x00000000f0f0f0f0 z → Turn x r
unfolding turned
turn_is x y z r ey ez er = record {
  reads = λ X σ p.
      let q = reads_swap 7 0x00aa00aa00aa00aa p (omega arith) fits7 in
      let u = reads_swap 14 0x0000cccc0000cccc (subst (Reads X _) (sym ey) q) (omega arith) fits14 in
      subst (Reads X _) (sym er) (reads_swap 28 0x00000000f0f0f0f0 (subst (Reads X _) (sym ez) u) (omega arith) fits28);
}
