-- The reference is an exact number: a whole number of 255 × 2 ^ k at most over 2 ^ k, with k up to 15, so no sum, half or difference is rounded.
-- An operation on two values rounds the fraction that their fractions make (`add_at`, `half_at`), and a fraction of so few digits is kept as it is.
use Prim.Native.Nat.{ℕ, suc, ◌+◌, ◌-◌, ◌*◌, ◌^◌, ◌≤◌, ◌<◌}
use native.Mathlib.Nat.{lt_of_not-le, not-le_of_lt, add-mul, mul-sub, mul-one, mul_comm, mul_assoc, mul_right_comm, mul-pos, mul-le-mul_right, le_of_mul-le-mul_right, le_trans, le_of_eq, lt_of_lt_of_le, pow-suc}
use native.Mathlib.Omega.{arith}
use mathlib.Core.Path.{◌≡◌, refl, sym, ap, ap₂, ◌∙◌, subst}
use mathlib.Core.Bool.{Bool, true, false, not, ◌&&◌, ◌||◌, cond}
use lib.Dec.{leb, ltb, eqb}
use lib.Pow.{pow_pos, pow_mono, pow-add, shl_lt}
use lib.IntN.{ℤ, negsuc}
use lib.Arith.{lt_of_le-ne}
use lib.Ieee.{Float, nan, inf, fin, binary64, up, down, round, add, sub, mul, le, is_nan}
use lib.Ieee.Exact.{HasValue, round_exact}
use lib.Ieee.Fits.{down_pos}
use lib.Ieee.Scale.{round_same, finite}
use borrow.Author.Tests.{ltb-true, ltb-false, leb-true, leb-false, le-leb, lt-leb, lt-ltb, le-ltb, eq-eqb, eqb-true, eqb-false}
use Rattle.rules.specs.Replies.{number, averaged, near}
use Rattle.rules.specs.Ranges.{Between}

-- ---- fractions over 2 ^ k

-- a multiple of 2 ^ l is one of 2 ^ k, k up to l
parts : (a k l : ℕ) → k ≤ l → a * 2 ^ l ≡ a * 2 ^ (l - k) * 2 ^ k
parts a k l h =
    let e : l ≡ l - k + k = omega arith in
    ap (λ (j : ℕ). a * 2 ^ j) e ∙ ap (λ (x : ℕ). a * x) (pow-add 2 (l - k) k) ∙ sym (mul_assoc a (2 ^ (l - k)) (2 ^ k))

-- a fraction over 2 ^ k, k up to 1074, of at most 53 digits is kept as it is
kept : (s : Bool) (a k : ℕ) → k ≤ 1074 → a < 2 ^ 53 → HasValue (round binary64 s a (2 ^ k)) s a (2 ^ k)
kept s a k h l =
    round_exact binary64 s a (2 ^ k) a (1074 - k) (pow_pos k) l
    (lt_of_lt_of_le (shl_lt 53 (1074 - k) l) (pow_mono {i = 53 + (1074 - k)} {j = 2098} (omega arith)))
    (parts a k 1074 h)

-- a whole number up to 255 is exact
pub number-exact : (n : ℕ) → n ≤ 255 → HasValue (number n) false n 1
unfolding number
number-exact n h = kept false n 0 (omega arith) (omega arith)

-- and so it is as a fraction over any c
over : (x : Float) (n c : ℕ) → HasValue x false n 1 → HasValue x false (n * c) c
over nan n c h = h
over (inf s) n c h = h
over (fin s m e) n c h = (h.0, ap (λ (y : ℕ). y * c) (sym (mul-one (m * up e)) ∙ h.1) ∙ mul_right_comm n (down e) c)

-- ---- tests

-- tests of orders that follow from one another say the same
same_tests : (a b c d : ℕ) → (a ≤ b → c ≤ d) → (c ≤ d → a ≤ b) → leb a b ≡ leb c d
same_tests a b c d f g = go (leb c d) refl
  where
    go : (t : Bool) → leb c d ≡ t → leb a b ≡ t
    go true h = le-leb a b (g (leb-true c d h))
    go false h = lt-leb a b (lt_of_not-le (λ l. not-le_of_lt (leb-false c d h) (f l)))

-- less is not at least
less-is : (a b : ℕ) → ltb a b ≡ not (leb b a)
less-is a b = go (leb b a) refl
  where
    go : (t : Bool) → leb b a ≡ t → ltb a b ≡ not t
    go true h = le-ltb a b (leb-true b a h)
    go false h = lt-ltb a b (leb-false b a h)

-- less or equal is at most
most-is : (a b : ℕ) → ltb a b || (eqb a b && true) ≡ leb a b
most-is a b = go (ltb a b) (eqb a b) refl refl
  where
    go : (s t : Bool) → ltb a b ≡ s → eqb a b ≡ t → s || (t && true) ≡ leb a b
    go true t h k = sym (le-leb a b (omega (arith, ltb-true a b h)))
    go false true h k = sym (le-leb a b (omega (arith, eqb-true a b k)))
    go false false h k = sym (lt-leb a b (lt_of_le-ne (ltb-false a b h) (λ e. eqb-false a b k (sym e))))

-- ---- equal fractions: A / C is a / c, and B / C is b / c

-- the order of numerators over c is that over C
order : (A B C a b c : ℕ) → 0 < c → A * c ≡ a * C → B * c ≡ b * C → a ≤ b → A ≤ B
order A B C a b c z p q h = le_of_mul-le-mul_right (le_trans (le_of_eq p) (le_trans (mul-le-mul_right C h) (le_of_eq (sym q)))) z

module _ (A B C a b c : ℕ) (zc : 0 < c) (zC : 0 < C) (p : A * c ≡ a * C) (q : B * c ≡ b * C) where
  -- so is the outcome of a test
  same-order : leb A B ≡ leb a b
  same-order = same_tests A B a b (order a b c A B C zC (sym p) (sym q)) (order A B C a b c zc p q)

  -- their sums round alike
  same_sum : (s : Bool) → round binary64 s (A + B) C ≡ round binary64 s (a + b) c
  same_sum s = round_same binary64 s (A + B) C (a + b) c zC zc (add-mul A B c ∙ ap₂ (λ (x y : ℕ). x + y) p q ∙ sym (add-mul a b C))

  -- so do their differences
  same_difference : (s : Bool) → round binary64 s (A - B) C ≡ round binary64 s (a - b) c
  same_difference s =
      round_same binary64 s (A - B) C (a - b) c zC zc
      (mul_comm (A - B) c ∙ mul-sub c A B ∙ ap₂ (λ (x y : ℕ). x - y) (mul_comm c A ∙ p ∙ mul_comm a C) (mul_comm c B ∙ q ∙ mul_comm b C) ∙ sym (mul-sub C a b) ∙ mul_comm C (a - b))

-- ---- operations, by the fractions a / c and b / c that x and y equal

-- a value of the sign s and the size a / c, as it is written
record Written (x : Float) (s : Bool) (a c : ℕ) : Type 0 where
  m : ℕ
  e : ℤ
  is : x ≡ fin s m e
  size : m * up e * c ≡ a * down e

-- each value that has a size is so written
written : (x : Float) (s : Bool) (a c : ℕ) → HasValue x s a c → Written x s a c
written nan s a c h = absurd h
written (inf t) s a c h = absurd h
written (fin t m e) s a c h = record { m = m; e = e; is = ap (λ (b : Bool). fin b m e) h.0; size = h.1 }

-- x's fraction over the denominator of both
cross : (u d a e c : ℕ) → u * c ≡ a * e → u * d * c ≡ a * (e * d)
cross u d a e c h = mul_right_comm u d c ∙ ap (λ (y : ℕ). y * d) h ∙ mul_assoc a e d

-- and y's
crossed : (u d a e c : ℕ) → u * c ≡ a * e → u * d * c ≡ a * (d * e)
crossed u d a e c h = cross u d a e c h ∙ ap (λ (y : ℕ). a * y) (mul_comm e d)

-- a - b over c, with the sign of the difference
difference : ℕ → ℕ → ℕ → Float
difference a b c = cond (ltb a b) (round binary64 true (b - a) c) (round binary64 false (a - b) c)

-- x and y as they are written
module _ (a b c : ℕ) (z : 0 < c) (m : ℕ) (e : ℤ) (n : ℕ) (d : ℤ) (h : m * up e * c ≡ a * down e) (k : n * up d * c ≡ b * down d) where
  -- a sum is that of the fractions, rounded
  open-add : add binary64 (fin false m e) (fin false n d) ≡ round binary64 false (a + b) c
  unfolding add
  open-add =
      same_sum (m * up e * down d) (n * up d * down e) (down e * down d) a b c z (mul-pos (down_pos e) (down_pos d))
      (cross (m * up e) (down d) a (down e) c h) (crossed (n * up d) (down e) b (down d) c k) false

  -- the order is that of the numerators
  open_le : le (fin false m e) (fin false n d) ≡ leb a b
  unfolding le
  open_le =
      most-is (m * up e * down d) (n * up d * down e)
      ∙ same-order (m * up e * down d) (n * up d * down e) (down e * down d) a b c z (mul-pos (down_pos e) (down_pos d))
      (cross (m * up e) (down d) a (down e) c h) (crossed (n * up d) (down e) b (down d) c k)

  -- a difference is that of the fractions, rounded
  open-sub : sub binary64 (fin false m e) (fin false n d) ≡ difference a b c
  unfolding sub difference
  open-sub =
      let A = m * up e * down d in
      let B = n * up d * down e in
      let C = down e * down d in
      let zC : 0 < C = mul-pos (down_pos e) (down_pos d) in
      let p : A * c ≡ a * C = cross (m * up e) (down d) a (down e) c h in
      let q : B * c ≡ b * C = crossed (n * up d) (down e) b (down d) c k in
      rw (less-is A B, less-is a b, same-order B A C b a c z zC q p, same_difference A B C a b c z zC p q false, same_difference B A C b a c z zC q p true)

-- x and y however they are written
module _ (x y : Float) (a b c : ℕ) (z : 0 < c) (h : HasValue x false a c) (k : HasValue y false b c) where
  -- a sum is that of the fractions, rounded
  add_at : add binary64 x y ≡ round binary64 false (a + b) c
  add_at =
      let X = written x false a c h in
      let Y = written y false b c k in
      ap₂ (add binary64) X.is Y.is ∙ open-add a b c z X.m X.e Y.m Y.e X.size Y.size

  -- the order is that of the numerators
  le_at : le x y ≡ leb a b
  le_at =
      let X = written x false a c h in
      let Y = written y false b c k in
      ap₂ le X.is Y.is ∙ open_le a b c z X.m X.e Y.m Y.e X.size Y.size

  -- a difference is that of the fractions, rounded
  sub_at : sub binary64 x y ≡ difference a b c
  sub_at =
      let X = written x false a c h in
      let Y = written y false b c k in
      ap₂ (sub binary64) X.is Y.is ∙ open-sub a b c z X.m X.e Y.m Y.e X.size Y.size

-- of -a and b one is not 0 and -a is less, or both are 0 and equal
signs : (a b : ℕ) → ltb 0 (a + b) || (eqb a b && eqb a 0) ≡ true
signs a b = go (ltb 0 (a + b)) refl
  where
    go : (t : Bool) → ltb 0 (a + b) ≡ t → t || (eqb a b && eqb a 0) ≡ true
    go true h = refl
    go false h =
        let e : a + b ≤ 0 = ltb-false 0 (a + b) h in
        rw (eq-eqb a b (omega arith), eq-eqb a 0 (omega arith))

-- a value with the negative sign is no larger than one without it
le_negative : (x y : Float) (a b c : ℕ) → HasValue x true a c → HasValue y false b c → le x y ≡ true
le_negative x y a b c h k =
    let X = written x true a c h in
    let Y = written y false b c k in
    ap₂ le X.is Y.is ∙ unfold le in signs (X.m * up X.e * down Y.e) (Y.m * up Y.e * down X.e)

-- the half of a / c, rounded, for x as it is written
open_half : (a c m : ℕ) (e : ℤ) → 0 < c → m * up e * c ≡ a * down e → mul binary64 (fin false m e) (fin false 1 (negsuc 0)) ≡ round binary64 false a (c * 2)
unfolding mul
open_half a c m e z h =
    round_same binary64 false (m * up e * 1) (down e * 2) a (c * 2) (mul-pos (down_pos e) (omega arith)) (mul-pos z (omega arith))
    (ap (λ (y : ℕ). y * (c * 2)) (mul-one (m * up e)) ∙ sym (mul_assoc (m * up e) c 2) ∙ ap (λ (y : ℕ). y * 2) h ∙ mul_assoc a (down e) 2)

-- and however it is written
half_at : (x : Float) (a c : ℕ) → 0 < c → HasValue x false a c → mul binary64 x (fin false 1 (negsuc 0)) ≡ round binary64 false a (c * 2)
half_at x a c z h =
    let X = written x false a c h in
    ap (λ (w : Float). mul binary64 w (fin false 1 (negsuc 0))) X.is ∙ open_half a c X.m X.e z X.size

-- ---- references

-- 2 ^ k for a k up to 15
power : (k : ℕ) → k ≤ 15 → 2 ^ k ≤ 32768
power k h = pow_mono {i = k} {j = 15} h

-- an average of values up to 255 is no larger
pub averaged_bound : (k m v : ℕ) → m ≤ 255 * 2 ^ k → v ≤ 255 → m + v * 2 ^ k ≤ 255 * 2 ^ suc k
averaged_bound k m v h l = omega (arith, mul-le-mul_right (2 ^ k) l)

-- an average is a sum and a product
averaged_is : (x : Float) (v : ℕ) → averaged x v ≡ mul binary64 (add binary64 x (number v)) (fin false 1 (negsuc 0))
unfolding averaged
averaged_is x v = refl

-- "(reference + value) × 0.5 in binary64": neither the sum nor the half is rounded
pub averaged-exact : (k m v : ℕ) (x : Float) → k ≤ 15 → m ≤ 255 * 2 ^ k → v ≤ 255 → HasValue x false m (2 ^ k)
    → HasValue (averaged x v) false (m + v * 2 ^ k) (2 ^ suc k)
averaged-exact k m v x g h l e =
    let a = m + v * 2 ^ k in
    let y = add binary64 x (number v) in
    let small : a < 2 ^ 53 = omega (arith, averaged_bound k m v h l, power k g) in
    let sum : y ≡ round binary64 false a (2 ^ k) = add_at x (number v) m (v * 2 ^ k) (2 ^ k) (pow_pos k) e (over (number v) v (2 ^ k) (number-exact v l)) in
    let exact : HasValue y false a (2 ^ k) = subst (λ (z : Float). HasValue z false a (2 ^ k)) (sym sum) (kept false a k (omega arith) small) in
    let half : averaged x v ≡ round binary64 false a (2 ^ suc k) =
    averaged_is x v ∙ half_at y a (2 ^ k) (pow_pos k) exact ∙ ap (round binary64 false a) (sym (pow-suc 2 k)) in
    subst (λ (z : Float). HasValue z false a (2 ^ suc k)) (sym half) (kept false a (suc k) (omega arith) small)

-- a is larger than b by at most w, all over 2 ^ k
within : (k a b w : ℕ) → k ≤ 15 → a ≤ 255 * 2 ^ k → b ≤ 255 * 2 ^ k → w ≤ 64 → le (difference a b (2 ^ k)) (number w) ≡ leb a (b + w * 2 ^ k)
unfolding difference
within k a b w g h l j = go (ltb a b) refl
  where
    go : (t : Bool) → ltb a b ≡ t → le (cond t (round binary64 true (b - a) (2 ^ k)) (round binary64 false (a - b) (2 ^ k))) (number w) ≡ leb a (b + w * 2 ^ k)
    go true e =
        le_negative (round binary64 true (b - a) (2 ^ k)) (number w) (b - a) (w * 2 ^ k) (2 ^ k)
        (kept true (b - a) k (omega arith) (omega (arith, power k g))) (over (number w) w (2 ^ k) (number-exact w (omega arith)))
        ∙ sym (le-leb a (b + w * 2 ^ k) (omega (arith, ltb-true a b e)))
    go false e =
        le_at (round binary64 false (a - b) (2 ^ k)) (number w) (a - b) (w * 2 ^ k) (2 ^ k) (pow_pos k)
        (kept false (a - b) k (omega arith) (omega (arith, power k g))) (over (number w) w (2 ^ k) (number-exact w (omega arith)))
        ∙ same_tests (a - b) (w * 2 ^ k) a (b + w * 2 ^ k) (λ i. omega arith) (λ i. omega arith)

-- to agree is to be at most w larger, and at most w smaller
near-is : (w : ℕ) (x : Float) (v : ℕ) → near w x v ≡ le (sub binary64 x (number v)) (number w) && le (sub binary64 (number v) x) (number w)
unfolding near
near-is w x v = refl

-- "A value agrees with a reference if they differ by at most 8": the test is exact, for any window up to 64
pub near-exact : (k m v w : ℕ) (x : Float) → k ≤ 15 → m ≤ 255 * 2 ^ k → v ≤ 255 → w ≤ 64 → HasValue x false m (2 ^ k)
    → near w x v ≡ leb m (v * 2 ^ k + w * 2 ^ k) && leb (v * 2 ^ k) (m + w * 2 ^ k)
near-exact k m v w x g h l j e =
    let b = v * 2 ^ k in
    let y : HasValue (number v) false b (2 ^ k) = over (number v) v (2 ^ k) (number-exact v l) in
    let small : b ≤ 255 * 2 ^ k = mul-le-mul_right (2 ^ k) l in
    near-is w x v
    ∙ ap₂ ◌&&◌
    (ap (λ (z : Float). le z (number w)) (sub_at x (number v) m b (2 ^ k) (pow_pos k) e y) ∙ within k m b w g h small j)
    (ap (λ (z : Float). le z (number w)) (sub_at (number v) x b m (2 ^ k) (pow_pos k) y e) ∙ within k b m w g small h j)

-- a reference is a number from 0 to 255
pub reference-range : (k m : ℕ) (x : Float) → m ≤ 255 * 2 ^ k → HasValue x false m (2 ^ k) → Between x
reference-range k m x h e =
    let X = written x false m (2 ^ k) e in
    record {
      defined = ap is_nan X.is ∙ unfold is_nan in refl;
      finite = ap finite X.is;
      least = le_at (number 0) x (0 * 2 ^ k) m (2 ^ k) (pow_pos k) (over (number 0) 0 (2 ^ k) (number-exact 0 (omega arith))) e ∙ le-leb (0 * 2 ^ k) m (omega arith);
      most = le_at x (number 255) m (255 * 2 ^ k) (2 ^ k) (pow_pos k) e (over (number 255) 255 (2 ^ k) (number-exact 255 (omega arith))) ∙ le-leb m (255 * 2 ^ k) h;
    }
