-- The words of ticks: bit n of the five words in a row is a sentence on n, tried for each n; a mask is 64 of these bits.
use Prim.Native.Nat.{ℕ, zero, suc, ◌+◌, ◌-◌, ◌*◌, ◌/◌, ◌%◌, ◌^◌, ◌≤◌, ◌<◌}
use native.Mathlib.Omega.{arith}
use mathlib.Core.Path.{◌≡◌, refl, sym, ap, ◌∙◌}
use mathlib.Core.Bool.{Bool, true, false, not, ◌&&◌, cond, and-false}
use mathlib.Core.List.{List}
use lib.Bits.{bit_or}
use lib.Dec.{leb, ltb, eqb}
use lib.ListN.{length, get_or, get_or-eq_default}
use borrow.Author.Tests.{ltb-true, ltb-false, leb-true, leb-false, eqb-true, eqb-false, le-leb, lt-leb, ne_eqb}
use Rattle.rules.specs.Replies.{position, is_position}
use Rattle.rules.proofs.Truth.{impossible, and_left, and_right}
use Rattle.plane.specs.Words.{bit, Holds, Slid}
use Rattle.plane.proofs.BitLaws.{zero_bit}
use Rattle.masks.specs.declared.TheConstants.{COVERED, REMOVED}
use Rattle.masks.specs.Masks.{covers_from, phantom_from, row_bit, Across, Shown, CoverMask, PhantomMask}

-- ---- all numbers below n pass
below : ℕ → (ℕ → Bool) → Bool
below zero p = true
below (suc n) p = p n && below n p

below_at : (n : ℕ) (p : ℕ → Bool) → below n p ≡ true → (i : ℕ) → i < n → p i ≡ true
unfolding below
below_at zero p h i l = absurd (omega arith)
below_at (suc n) p h i l = go (λ m. below_at n p (and_right (p n) (below n p) h) i m) (eqb i n) refl
  where
    go : (i < n → p i ≡ true) → (c : Bool) → eqb i n ≡ c → p i ≡ true
    go f true e = ap p (eqb-true i n e) ∙ and_left (p n) (below n p) h
    go f false e = f (omega (arith, eqb-false i n e))

same : Bool → Bool → Bool
same true b = b
same false b = not b

same-is : (a b : Bool) → same a b ≡ true → a ≡ b
unfolding same
same-is true b h = sym h
same-is false true h = absurd (impossible (sym h))
same-is false false h = refl

-- ---- two words in a row

pub across-none : (a b : ℕ) → Across a b 0 a
across-none a b =
    record {
      near = λ i h. let e : i ≡ i + 0 = omega arith in ap (bit a) e;
      far = λ i l h. absurd (omega arith);
    }

both : ℕ → ℕ → ℕ → Bool
both a b n = cond (ltb n 64) (bit a n) (bit b (n - 64))

both-near : (a b n : ℕ) → n < 64 → both a b n ≡ bit a n
unfolding both
both-near a b n h = go (ltb n 64) refl
  where
    go : (c : Bool) → ltb n 64 ≡ c → cond c (bit a n) (bit b (n - 64)) ≡ bit a n
    go true e = refl
    go false e = absurd (omega (arith, ltb-false n 64 e))

both-far : (a b n : ℕ) → 64 ≤ n → both a b n ≡ bit b (n - 64)
unfolding both
both-far a b n h = go (ltb n 64) refl
  where
    go : (c : Bool) → ltb n 64 ≡ c → cond c (bit a n) (bit b (n - 64)) ≡ bit b (n - 64)
    go true e = absurd (omega (arith, ltb-true n 64 e))
    go false e = refl

pub across_slid : (a b r x : ℕ) → a < 2 ^ 64 → r < 64 → Slid a b r x → Across a b r x
across_slid a b r x h l s =
    let F = both a b in
    let old : Holds F 0 a = record { below = h; at = λ i k. let e : i ≡ 0 + i = omega arith in sym (both-near a b i k) ∙ ap F e } in
    let new : (m : ℕ) → m < r → bit b m ≡ F (0 + 64 + m) =
    λ m k. let e : m ≡ 0 + 64 + m - 64 = omega arith in ap (bit b) e ∙ sym (both-far a b (0 + 64 + m) (omega arith)) in
    let z = s.holds F 0 old new in
    record {
      near = λ i k. let e : 0 + r + i ≡ i + r = omega arith in z.at i (omega arith) ∙ ap F e ∙ both-near a b (i + r) k;
      far = λ i k m. let e : 0 + r + i ≡ i + r = omega arith in z.at i k ∙ ap F e ∙ both-far a b (i + r) m;
    }

-- 64 bits of words in a row, from bit g on
row_across : (w : List ℕ) (g i a b x : ℕ) → i < 64 → a ≡ get_or w (g / 64) 0 → b ≡ get_or w (g / 64 + 1) 0 → Across a b (g % 64) x → bit x i ≡ row_bit w (g + i)
unfolding row_bit
row_across w g i a b x h ea eb s = go (ltb (i + g % 64) 64) refl
  where
    go : (c : Bool) → ltb (i + g % 64) 64 ≡ c → bit x i ≡ bit (get_or w ((g + i) / 64) 0) ((g + i) % 64)
    go true e =
        let l = ltb-true (i + g % 64) 64 e in
        let p : g / 64 ≡ (g + i) / 64 = omega arith in
        let q : i + g % 64 ≡ (g + i) % 64 = omega arith in
        s.near i l ∙ ap (λ (z : ℕ). bit z (i + g % 64)) (ea ∙ ap (λ (k : ℕ). get_or w k 0) p) ∙ ap (bit (get_or w ((g + i) / 64) 0)) q
    go false e =
        let l = ltb-false (i + g % 64) 64 e in
        let p : g / 64 + 1 ≡ (g + i) / 64 = omega arith in
        let q : i + g % 64 - 64 ≡ (g + i) % 64 = omega arith in
        s.far i h (omega arith) ∙ ap (λ (z : ℕ). bit z (i + g % 64 - 64)) (eb ∙ ap (λ (k : ℕ). get_or w k 0) p) ∙ ap (bit (get_or w ((g + i) / 64) 0)) q

row_first : (w : List ℕ) (n : ℕ) → get_or w 0 0 ≡ 0 → n < 64 → row_bit w n ≡ false
unfolding row_bit
row_first w n e h = let z : n / 64 ≡ 0 = omega arith in ap (λ (k : ℕ). bit (get_or w k 0) (n % 64)) z ∙ ap (λ (x : ℕ). bit x (n % 64)) e ∙ zero_bit (n % 64)

row_last : (w : List ℕ) (k n : ℕ) → length w ≡ k → k * 64 ≤ n → row_bit w n ≡ false
unfolding row_bit
row_last w k n e h = ap (λ (x : ℕ). bit x (n % 64)) (get_or-eq_default w 0 {n = n / 64} (omega arith)) ∙ zero_bit (n % 64)

pub shown_law : (w : List ℕ) (q t g a b x : ℕ) → q + 177 ≤ t → g ≡ t - q - 177 → a ≡ get_or w (g / 64) 0 → b ≡ get_or w (g / 64 + 1) 0 → Across a b (g % 64) x → Shown w q t x
shown_law w q t g a b x h e ea eb s =
    record {
      at = λ i u n l y z. let p : g + i ≡ n = omega arith in row_across w g i a b x l ea eb s ∙ ap (row_bit w) p;
      before = λ i u l y z. absurd (omega arith);
    }

pub shown_none : (w : List ℕ) (q t : ℕ) → get_or w 0 0 ≡ 0 → ((i u : ℕ) → i < 64 → t + i ≡ u + 242 → u + 1 < q) → Shown w q t 0
shown_none w q t e h =
    record {
      at = λ i u n l y z. let p : u + 1 < q = h i u l y in zero_bit i ∙ sym (row_first w n e (omega arith));
      before = λ i u l y z. zero_bit i;
    }

-- ---- covering: n is u + 65 - q

cover_at : ℕ → Bool
cover_at n = leb 64 n && (leb ((n - 64) % 12) 2 && is_position ((n - 64) / 12))

cover_tried_lem : ℕ → Bool
unfolding row_bit cover_at same
cover_tried_lem n = same (row_bit COVERED n) (cover_at n)

cover_tried : below 320 cover_tried_lem ≡ true
unfolding below cover_tried_lem
cover_tried = refl

not-position : (k : ℕ) → 18 ≤ k → is_position k ≡ false
not-position k h = rw (lt-leb k 14 (omega arith), ne_eqb k 17 (λ e. omega arith))

cover-far : (n : ℕ) → 320 ≤ n → row_bit COVERED n ≡ cover_at n
unfolding cover_at
cover-far n h =
    row_last COVERED 5 n refl (omega arith)
    ∙ sym (rw (not-position ((n - 64) / 12) (omega arith), and-false (leb ((n - 64) % 12) 2), and-false (leb 64 n)))

cover_all : (n : ℕ) → row_bit COVERED n ≡ cover_at n
unfolding cover_tried_lem
cover_all n = go (ltb n 320) refl
  where
    go : (c : Bool) → ltb n 320 ≡ c → row_bit COVERED n ≡ cover_at n
    go true e = same-is (row_bit COVERED n) (cover_at n) (below_at 320 cover_tried_lem cover_tried n (ltb-true n 320 e))
    go false e = cover-far n (ltb-false n 320 e)

position-cond : (b : Bool) (k : ℕ) → is_position (cond b k 15) ≡ (b && is_position k)
position-cond true k = refl
position-cond false k = refl

leb-same : (a b c d : ℕ) → (a ≤ b → c ≤ d) → (c ≤ d → a ≤ b) → leb a b ≡ leb c d
leb-same a b c d f g = go (leb a b) refl
  where
    go : (x : Bool) → leb a b ≡ x → x ≡ leb c d
    go true e = sym (le-leb c d (f (leb-true a b e)))
    go false e = sym (lt-leb c d (not_yet (leb c d) refl))
      where
        not_yet : (y : Bool) → leb c d ≡ y → d < c
        not_yet true q = absurd (omega (arith, g (leb-true c d q), leb-false a b e))
        not_yet false q = leb-false c d q

-- the sentence on u and q
covers_as : (q u n : ℕ) → q + n ≡ u + 65 → covers_from q u ≡ cover_at n
unfolding covers_from position cover_at
covers_as q u n z = go (leb 64 n) refl
  where
    go : (c : Bool) → leb 64 n ≡ c
        → is_position (cond (leb q (u + 1) && leb ((u + 1 - q) % 12) 2) ((u + 1 - q) / 12) 15) ≡ (c && (leb ((n - 64) % 12) 2 && is_position ((n - 64) / 12)))
    go true e =
        let d : u + 1 - q ≡ n - 64 = omega (arith, leb-true 64 n e) in
        position-cond (leb q (u + 1) && leb ((u + 1 - q) % 12) 2) ((u + 1 - q) / 12)
        ∙ rw (le-leb q (u + 1) (omega (arith, leb-true 64 n e)), d)
    go false e =
        position-cond (leb q (u + 1) && leb ((u + 1 - q) % 12) 2) ((u + 1 - q) / 12)
        ∙ rw (lt-leb q (u + 1) (omega (arith, leb-false 64 n e)))

-- what lies too far off is not covered
not_covered : (q u : ℕ) → u + 1 < q → covers_from q u ≡ false
unfolding covers_from position
not_covered q u h = rw (lt-leb q (u + 1) (omega arith))

pub cover_mask_law : (q t x : ℕ) → Shown COVERED q t x → CoverMask q t x
cover_mask_law q t x s = record { at = λ i u l z. go i u l z (leb q (u + 65)) refl }
  where
    go : (i u : ℕ) → i < 64 → t + i ≡ u + 242 → (c : Bool) → leb q (u + 65) ≡ c → bit x i ≡ covers_from q u
    go i u l z true e =
        let y : q + (u + 65 - q) ≡ u + 65 = omega (arith, leb-true q (u + 65) e) in
        s.at i u (u + 65 - q) l z y ∙ cover_all (u + 65 - q) ∙ sym (covers_as q u (u + 65 - q) y)
    go i u l z false e = let f = leb-false q (u + 65) e in s.before i u l z f ∙ sym (not_covered q u (omega arith))

-- ---- phantoms

phantom_at : ℕ → Bool
phantom_at n = leb 75 n && leb n 235 && leb ((n - 63) % 12) 4

phantom_tried_lem : ℕ → Bool
unfolding row_bit phantom_at same
phantom_tried_lem n = same (row_bit REMOVED n) (phantom_at n)

phantom_tried : below 256 phantom_tried_lem ≡ true
unfolding below phantom_tried_lem
phantom_tried = refl

phantom-far : (n : ℕ) → 256 ≤ n → row_bit REMOVED n ≡ phantom_at n
unfolding phantom_at
phantom-far n h = row_last REMOVED 4 n refl (omega arith) ∙ sym (rw (le-leb 75 n (omega arith), lt-leb n 235 (omega arith)))

phantom-all : (n : ℕ) → row_bit REMOVED n ≡ phantom_at n
unfolding phantom_tried_lem
phantom-all n = go (ltb n 256) refl
  where
    go : (c : Bool) → ltb n 256 ≡ c → row_bit REMOVED n ≡ phantom_at n
    go true e = same-is (row_bit REMOVED n) (phantom_at n) (below_at 256 phantom_tried_lem phantom_tried n (ltb-true n 256 e))
    go false e = phantom-far n (ltb-false n 256 e)

phantoms_as : (q u n : ℕ) → q + n ≡ u + 65 → phantom_from true q u ≡ phantom_at n
unfolding phantom_from phantom_at
phantoms_as q u n z = go (leb 75 n) refl
  where
    go : (c : Bool) → leb 75 n ≡ c → (leb (q + 10) u && leb u (q + 170) && leb ((u + 2 - q) % 12) 4) ≡ (c && leb n 235 && leb ((n - 63) % 12) 4)
    go true e =
        let d : u + 2 - q ≡ n - 63 = omega (arith, leb-true 75 n e) in
        rw (le-leb (q + 10) u (omega (arith, leb-true 75 n e)), leb-same u (q + 170) n 235 (λ l. omega arith) (λ l. omega arith), d)
    go false e = rw (lt-leb (q + 10) u (omega (arith, leb-false 75 n e)))

not-phantom : (q u : ℕ) → u + 1 < q → phantom_from true q u ≡ false
unfolding phantom_from
not-phantom q u h = rw (lt-leb (q + 10) u (omega arith))

pub phantom_mask_law : (q t x : ℕ) (s : Bool) → s ≡ true → Shown REMOVED q t x → PhantomMask q s t x
phantom_mask_law q t x s es h = record { at = λ i u l z. go i u l z (leb q (u + 65)) refl ∙ ap (λ (y : Bool). phantom_from y q u) (sym es) }
  where
    go : (i u : ℕ) → i < 64 → t + i ≡ u + 242 → (c : Bool) → leb q (u + 65) ≡ c → bit x i ≡ phantom_from true q u
    go i u l z true e =
        let y : q + (u + 65 - q) ≡ u + 65 = omega (arith, leb-true q (u + 65) e) in
        h.at i u (u + 65 - q) l z y ∙ phantom-all (u + 65 - q) ∙ sym (phantoms_as q u (u + 65 - q) y)
    go i u l z false e = let f = leb-false q (u + 65) e in h.before i u l z f ∙ sym (not-phantom q u (omega arith))

pub no_suspect : (q t : ℕ) (s : Bool) → s ≡ false → PhantomMask q s t 0
unfolding phantom_from
no_suspect q t s es = record { at = λ i u l z. zero_bit i ∙ sym (rw es) }

-- ---- a reply that opens at tick i of the block

abbrev open_cover_lem : ℕ → ℕ
open_cover_lem i = bit_or (0x3803803803803803 * 2 ^ i % 2 ^ 64) (1 * 2 ^ i % 2 ^ 64 / 2)

open_cover_tried : ℕ → Bool
unfolding bit cover_at same
open_cover_tried n = same (bit (open_cover_lem (n / 64)) (n % 64)) (cover_at (n % 64 + 65 - n / 64))

open-cover_tried : below 4096 open_cover_tried ≡ true
unfolding below open_cover_tried bit
open-cover_tried = refl

pub open-cover_law : (i q t : ℕ) → i < 64 → t + i ≡ q + 242 → CoverMask q t (open_cover_lem i)
unfolding open_cover_tried
open-cover_law i q t li z =
    record {
      at = λ m u lm y.
          let n = i * 64 + m in
          let a : n / 64 ≡ i = omega arith in
          let b : n % 64 ≡ m = omega arith in
          sym (λ e. bit (open_cover_lem (a e)) (b e)) ∙ same-is (bit (open_cover_lem (n / 64)) (n % 64)) (cover_at (n % 64 + 65 - n / 64)) (below_at 4096 open_cover_tried open-cover_tried n (omega arith))
          ∙ sym (covers_as q u (n % 64 + 65 - n / 64) (omega arith));
    }

abbrev open_phantom_lem : ℕ → ℕ
open_phantom_lem i = 0x7c07c07c07c07c00 * 2 ^ i % 2 ^ 64

open_phantom_tried : ℕ → Bool
unfolding bit phantom_at same
open_phantom_tried n = same (bit (open_phantom_lem (n / 64)) (n % 64)) (phantom_at (n % 64 + 65 - n / 64))

open-phantom_tried : below 4096 open_phantom_tried ≡ true
unfolding below open_phantom_tried bit
open-phantom_tried = refl

pub open-phantom_law : (i q t : ℕ) (s : Bool) → s ≡ true → i < 64 → t + i ≡ q + 242 → PhantomMask q s t (open_phantom_lem i)
unfolding open_phantom_tried
open-phantom_law i q t s es li z =
    record {
      at = λ m u lm y.
          let n = i * 64 + m in
          let a : n / 64 ≡ i = omega arith in
          let b : n % 64 ≡ m = omega arith in
          sym (λ e. bit (open_phantom_lem (a e)) (b e)) ∙ same-is (bit (open_phantom_lem (n / 64)) (n % 64)) (phantom_at (n % 64 + 65 - n / 64)) (below_at 4096 open_phantom_tried open-phantom_tried n (omega arith))
          ∙ sym (phantoms_as q u (n % 64 + 65 - n / 64) (omega arith)) ∙ ap (λ (x : Bool). phantom_from x q u) (sym es);
    }
