-- What the machine's operations do to planes: and, or and complement tick by tick; shifts join two words in a row to one that starts between them.
use Prim.Native.Nat.{ℕ, ◌+◌, ◌-◌, ◌*◌, ◌/◌, ◌^◌, ◌≤◌, ◌<◌}
use native.Mathlib.Nat.{mod-lt, lt_of_le_of_lt, add_assoc}
use native.Mathlib.Omega.{arith}
use mathlib.Core.Path.{◌≡◌, sym, ap, ap₂, ◌∙◌, subst}
use mathlib.Core.Bool.{Bool, false, not, ◌&&◌, ◌||◌}
use mathlib.Core.Logic.{⊎_elim}
use lib.Pow.{pow_pos, shr_le, shr-shr, ones_sub-lt}
use lib.Bits.{bit_and, bit_or, and_lt, or_lt}
use Rattle.plane.specs.Words.{bit, Holds, Slid}
use Rattle.plane.proofs.Cases.{le_or_lt, or_false}
use Rattle.plane.proofs.BitLaws.{bit-and, bit-or, bit-shr, bit-above, left, left-high, left-low, bit_not, zero_bit}

-- the complement of a word
abbrev pub inv : ℕ → ℕ
inv x = (2 ^ 64 - 1) - x

pub holds-and : {F G : ℕ → Bool} {b x y : ℕ} → Holds F b x → Holds G b y → Holds (λ t. F t && G t) b (bit_and x y)
holds-and {F} {G} {b} {x} {y} p q = record {
  below = and_lt 64 x y p.below q.below;
  at = λ i h. bit-and x y i ∙ ap₂ ◌&&◌ (p.at i h) (q.at i h);
}

pub holds-or : {F G : ℕ → Bool} {b x y : ℕ} → Holds F b x → Holds G b y → Holds (λ t. F t || G t) b (bit_or x y)
holds-or {F} {G} {b} {x} {y} p q = record {
  below = or_lt 64 x y p.below q.below;
  at = λ i h. bit-or x y i ∙ ap₂ ◌||◌ (p.at i h) (q.at i h);
}

pub holds_not : {F : ℕ → Bool} {b x : ℕ} → Holds F b x → Holds (λ t. not (F t)) b (inv x)
holds_not {F} {b} {x} p = record {
  below = ones_sub-lt 64 x;
  at = λ i h. bit_not x 64 i p.below h ∙ ap not (p.at i h);
}

pub holds_eq : {F G : ℕ → Bool} {b x : ℕ} → ((t : ℕ) → F t ≡ G t) → Holds F b x → Holds G b x
holds_eq {F} {G} {b} {x} e p = record { below = p.below; at = λ i h. p.at i h ∙ e (b + i) }

-- the plane that is k ticks ahead
pub holds_ahead : {F : ℕ → Bool} {x : ℕ} (k b : ℕ) → Holds F (b + k) x → Holds (λ t. F (t + k)) b x
holds_ahead {F} {x} k b p = record {
  below = p.below;
  at = λ i h. p.at i h ∙ (let e : b + k + i ≡ b + i + k = omega arith in ap F e);
}

-- and back
pub holds-behind : {F : ℕ → Bool} {x : ℕ} (k b c : ℕ) → b + k ≡ c → Holds (λ t. F (t + k)) b x → Holds F c x
holds-behind {F} {x} k b c e p = record {
  below = p.below;
  at = λ i h. p.at i h ∙ (let d : b + i + k ≡ c + i = omega arith in ap F d);
}

-- the word that starts k ticks before `now`, of it and the word before
abbrev back : ℕ → ℕ → ℕ → ℕ
back k now before = bit_or (left k now) (before / 2 ^ (64 - k))

module _ {F : ℕ → Bool} {b before : ℕ} (now k : ℕ) (l : k ≤ 64) (p : (m : ℕ) → k + m < 64 → bit now m ≡ F (b + 64 + m)) (q : Holds F b before) where
  early : (i : ℕ) → i < 64 → i < k → bit (back k now before) i ≡ F (b + (64 - k) + i)
  early i h j =
      bit-or (left k now) (before / 2 ^ (64 - k)) i
      ∙ ap₂ ◌||◌ (left-low k now i h j) (bit-shr before (64 - k) i)
      ∙ q.at (64 - k + i) (omega arith) ∙ ap F (sym (add_assoc b (64 - k) i))

  late : (m : ℕ) → k + m < 64 → bit (back k now before) (k + m) ≡ F (b + (64 - k) + (k + m))
  late m h =
      bit-or (left k now) (before / 2 ^ (64 - k)) (k + m)
      ∙ ap₂ ◌||◌ (left-high k now m h ∙ p m h)
      (bit-shr before (64 - k) (k + m) ∙ bit-above before 64 (64 - k + (k + m)) q.below (omega arith))
      ∙ or_false (F (b + 64 + m))
      ∙ (let e : b + 64 + m ≡ b + (64 - k) + (k + m) = omega arith in ap F e)

  pub holds-part : Holds F (b + (64 - k)) (back k now before)
  holds-part = record {
    below = or_lt 64 _ _ (mod-lt (now * 2 ^ k) (pow_pos 64)) (lt_of_le_of_lt (shr_le before (64 - k)) q.below);
    at = λ i h. ⊎_elim
        (λ (g : k ≤ i). let e : k + (i - k) ≡ i = omega arith in
        subst (λ (n : ℕ). bit (back k now before) n ≡ F (b + (64 - k) + n)) e (late (i - k) (omega arith)))
        (λ (g : i < k). early i h g)
        (le_or_lt k i);
  }

-- of two words in a row, the word that starts k before the second
pub holds-back : {F : ℕ → Bool} {b now before x : ℕ} (k : ℕ) → k ≤ 64 → Slid before now (64 - k) x → Holds F (b + 64) now → Holds F b before → Holds F (b + (64 - k)) x
holds-back {F} {b} k l s p q = s.holds F b q (λ m h. p.at m (omega arith))

-- r new ticks, 1 to 64, at the low end of `now`, by the shifts that the code has
pub holds-slide : {F : ℕ → Bool} {b before : ℕ} (now r : ℕ) → 0 < r → r ≤ 64 → ((m : ℕ) → m < r → bit now m ≡ F (b + 64 + m)) → Holds F b before
    → Holds F (b + r) (bit_or (left (64 - r) now) (before / 2 ^ 1 / 2 ^ (r - 1)))
holds-slide {F} {b} {before} now r g l p q =
    let e : 64 - (64 - r) ≡ r = omega arith in
    let d : r ≡ 1 + (r - 1) = omega arith in
    subst (λ (x : ℕ). Holds F (b + r) (bit_or (left (64 - r) now) x)) (ap (λ (n : ℕ). before / 2 ^ n) d ∙ sym (shr-shr before 1 (r - 1)))
    (subst (λ (n : ℕ). Holds F (b + n) (bit_or (left (64 - r) now) (before / 2 ^ n))) e
    (holds-part now (64 - r) (omega arith) (λ m h. p m (omega arith)) q))

-- a plane with nothing
pub holds-none : {F : ℕ → Bool} {b : ℕ} → ((i : ℕ) → i < 64 → F (b + i) ≡ false) → Holds F b 0
holds-none {F} {b} f = record { below = pow_pos 64; at = λ i h. zero_bit i ∙ sym (f i h) }

-- the plane d ticks ahead, from two words in a row: as the word that starts k before `now`, and as `now`
module _ {F : ℕ → Bool} {b now before : ℕ} (p : Holds F (b + 64) now) (q : Holds F b before) where
  pub place : {x : ℕ} (d k : ℕ) → d + k ≤ 64 → Slid before now (64 - k) x → Holds (λ t. F (t + d)) (b + (64 - k - d)) x
  place {x} d k l s =
      holds_ahead d (b + (64 - k - d))
      (let e : b + (64 - k) ≡ b + (64 - k - d) + d = omega arith in
      subst (λ (n : ℕ). Holds F n x) e (holds-back k (omega arith) s p q))

  pub newest : (d : ℕ) → d ≤ 64 → Holds (λ t. F (t + d)) (b + (64 - d)) now
  newest d l = holds_ahead d (b + (64 - d)) (let e : b + 64 ≡ b + (64 - d) + d = omega arith in subst (λ (n : ℕ). Holds F n now) e p)

-- 64 ticks on, the word is the new one
pub holds-next : (F : ℕ → Bool) (b now r : ℕ) → r ≡ 64 → now < 2 ^ 64 → ((m : ℕ) → m < r → bit now m ≡ F (b + 64 + m)) → Holds F (b + r) now
holds-next F b now r e h q = record { below = h; at = λ i l. let z : b + 64 + i ≡ b + r + i = omega arith in q i (omega arith) ∙ ap F z }
