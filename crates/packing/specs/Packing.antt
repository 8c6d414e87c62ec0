-- Words whose bits are taken from places of a source, and what a network of exchanges does to the places.
-- Each step of the packing is such an exchange; at the end bit i of a plane's word comes from the flag byte of tick o+i.
use Rattle.std.specs.Prelude.{ℕ, ◌+◌, ◌-◌, ◌*◌, ◌/◌, ◌%◌, ◌^◌, ◌<◌, ◌≡◌, Bool, true, ◌&&◌, cond, List, leb, get_or, bit_and, bit_xor}
use Rattle.rules.specs.Samples.{A, P, N, M}
use Rattle.packing.specs.declared.Planes.{Planes}
use Rattle.plane.specs.Words.{bit, Holds, HoldsPart}

-- bit i of y is the bit at place σ i of the source X
pub record Reads (X : ℕ → Bool) (σ : ℕ → ℕ) (y : ℕ) : Type 0 where
  pub below : y < 2 ^ 64
  pub at : (i : ℕ) → i < 64 → bit y i ≡ X (σ i)

-- the bits of the bytes of f from the place o on, eight a byte, lowest first
unfoldable pub bytes : List ℕ → ℕ → ℕ → Bool
unfolding bit
bytes f o s = bit (get_or f (o + s / 8) 0) (s % 8)

-- a word of eight bytes
pub record Eight (f : List ℕ) (o x : ℕ) : Type 0 where
  pub reads : Reads (bytes f o) (λ i. i) x

-- ---- exchanges

-- the places after x takes, at the bits s above those that the mask m marks, the bits of y that m marks
unfoldable pub lows : ℕ → ℕ → (ℕ → ℕ) → (ℕ → ℕ) → ℕ → ℕ
unfolding bit
lows s m σ τ i = cond (leb s i && bit m (i - s)) (τ (i - s)) (σ i)

-- the places after y takes, at the bits that m marks, the bits of x that are s above
unfoldable pub highs : ℕ → ℕ → (ℕ → ℕ) → (ℕ → ℕ) → ℕ → ℕ
unfolding bit
highs s m σ τ i = cond (bit m i) (σ (s + i)) (τ i)

-- each bit that m marks has one s above it
pub record Inside (s m : ℕ) : Type 0 where
  pub shift : s < 64
  pub marks : (i : ℕ) → i < 64 → bit m i ≡ true → s + i < 64

-- what x becomes, and what y becomes, whatever source their bits come from
pub record Low (s m x y r : ℕ) : Type 0 where
  pub reads : (X : ℕ → Bool) (σ τ : ℕ → ℕ) → Reads X σ x → Reads X τ y → Reads X (lows s m σ τ) r

pub record High (s m x y r : ℕ) : Type 0 where
  pub reads : (X : ℕ → Bool) (σ τ : ℕ → ℕ) → Reads X σ x → Reads X τ y → Reads X (highs s m σ τ) r

-- the places after a word swaps the bits that m marks with those k above
unfoldable pub swaps : ℕ → ℕ → ℕ → ℕ
unfolding bit
swaps k m i = cond (bit m i) (k + i) (cond (leb k i && bit m (i - k)) (i - k) i)

-- the word that swaps them
abbrev pub swapped : ℕ → ℕ → ℕ → ℕ
swapped k m x =
    let t = bit_and (bit_xor x (x / 2 ^ k)) m in
    bit_xor (bit_xor x t) (t * 2 ^ k % 2 ^ 64)

-- swaps of bits 7, 14 and 28 apart make columns of rows
unfoldable pub turned : (ℕ → ℕ) → ℕ → ℕ
unfolding swaps
turned σ i = σ (swaps 7 0x00aa00aa00aa00aa (swaps 14 0x0000cccc0000cccc (swaps 28 0x00000000f0f0f0f0 i)))

pub record Turn (x r : ℕ) : Type 0 where
  pub reads : (X : ℕ → Bool) (σ : ℕ → ℕ) → Reads X σ x → Reads X (turned σ) r

-- eight bytes in the low nibbles, and the eight that start 32 later in the high ones
unfoldable pub nibbled : ℕ → ℕ
unfolding lows
nibbled = lows 4 0x0f0f0f0f0f0f0f0f (λ i. i) (λ i. 256 + i)

pub record Nibbles (f : List ℕ) (o r : ℕ) : Type 0 where
  pub reads : Reads (bytes f o) nibbled r

-- ---- planes

-- the four planes of the 64 ticks from o on
pub record Packed (f : List ℕ) (o : ℕ) (r : Planes) : Type 0 where
  pub a : Holds (A f) o r.a
  pub p : Holds (P f) o r.p
  pub n : Holds (N f) o r.n
  pub m : Holds (M f) o r.m

-- the four planes of the r ticks from o on
pub record PackedPart (f : List ℕ) (o r : ℕ) (x : Planes) : Type 0 where
  pub a : HoldsPart (A f) o r x.a
  pub p : HoldsPart (P f) o r x.p
  pub n : HoldsPart (N f) o r x.n
  pub m : HoldsPart (M f) o r x.m
