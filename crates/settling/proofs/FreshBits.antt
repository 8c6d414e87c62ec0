-- The bit of a position that an edge settles: one of 16, read from the complement of the settled positions.
use Rattle.std.proofs.Common.{◌≡◌, ℕ, zero, suc, ◌+◌, ◌-◌, ◌*◌, ◌/◌, ◌%◌, ◌^◌, ◌<◌, ◌≤◌, Bool, true, false, cond, not, ◌||◌, eqb, leb, sym, refl, ap, ◌∙◌, mod-lt, arith, pow_mono, ne_eqb, eqb-true, le-leb, leb-false, leb-true}
use mathlib.Core.Bool.{or-true}
use borrow.Author.Tests.{eqb-false}
use Rattle.rules.specs.Samples.{bit as digit}
use Rattle.rules.specs.Replies.{is_position, is_inside, bit_of, takes}
use Rattle.rules.proofs.Truth.{impossible}
use Rattle.plane.specs.Words.{bit}
use Rattle.plane.proofs.BitLaws.{bit_not, bit-mod, bit-above}
use Rattle.settling.specs.Hearing.{place_of, position_of_bit, fresh_in}

-- ---- one bit of a word

-- a factor 0 or 1
once : (x p : ℕ) → x < 2 → x * p ≡ cond (eqb x 1) p 0
once zero p h = omega arith
once (suc zero) p h = omega arith
once (suc (suc x)) p h = absurd (omega arith)

digit_by : (x : ℕ) → x < 2 → x ≡ cond (eqb x 1) 1 0
digit_by zero h = refl
digit_by (suc zero) h = refl
digit_by (suc (suc x)) h = absurd (omega (arith, h))

least_of : (b : Bool) (p : ℕ) → cond b p 0 ≤ p
least_of true p = omega arith
least_of false p = omega arith

bit-digit : (x i : ℕ) → bit x i ≡ digit i x
unfolding bit
bit-digit x i = refl

-- ---- what is not settled yet

module _ (s j : ℕ) where
  digit_value : fresh_in s j ≡ cond (bit (32767 - s % 32768) j) 1 0
  unfolding bit
  digit_value = digit_by (fresh_in s j) (mod-lt ((32767 - s % 32768) / 2 ^ j) (omega arith))

  bit-value : j < 16 → (fresh_in s j * 2 ^ j) % 2 ^ 16 ≡ cond (bit (32767 - s % 32768) j) (2 ^ j) 0
  unfolding bit
  bit-value h =
      let l : 2 ^ j ≤ 32768 = pow_mono {i = j} {j = 15} (omega arith) in
      let o = once (fresh_in s j) (2 ^ j) (mod-lt ((32767 - s % 32768) / 2 ^ j) (omega arith)) in
      let m = least_of (eqb (fresh_in s j) 1) (2 ^ j) in
      omega (arith, o, m, l)

  -- bit 15 is none of the positions'
  fresh-none : j ≡ 15 → bit (32767 - s % 32768) j ≡ false
  fresh-none e = bit-above (32767 - s % 32768) 15 j (omega arith) (omega arith)

  fresh-some : j < 15 → bit (32767 - s % 32768) j ≡ not (digit j s)
  fresh-some h = bit_not (s % 32768) 15 j (omega arith) h ∙ ap not (bit-mod s 15 j h ∙ bit-digit s j)

-- ---- positions and their bits

own_place : (k : ℕ) → 1 ≤ k → k ≤ 14 → place_of k ≡ k - 1
own_place k y z =
    let m : k % 32 ≡ k = omega arith in
    let d : k % 32 / 16 ≡ 0 = omega (arith, m) in
    let n : k % 32 + 15 - 2 * (k % 32 / 16) ≡ k - 1 + 16 = omega (arith, m, d) in
    let o : (k - 1 + 16) % 16 ≡ k - 1 = omega arith in
    ap (λ (x : ℕ). x % 16) n ∙ o

position_some : (p : ℕ) → p < 14 → position_of_bit p ≡ p + 1
position_some p l = rw (ne_eqb p 15 (λ e. omega arith), ne_eqb p 14 (λ e. omega arith))

-- the position of a position's bit
pub place-position : (k : ℕ) → is_position k ≡ true → position_of_bit (place_of k) ≡ k
place-position k h = go (leb k 14) refl (eqb k 17) refl (leb 1 k) refl
  where
    go : (a : Bool) → leb k 14 ≡ a → (b : Bool) → eqb k 17 ≡ b → (c : Bool) → leb 1 k ≡ c → position_of_bit (place_of k) ≡ k
    go a ea true eb c ec =
        let z : k ≡ 17 = eqb-true k 17 eb in
        ap (λ (x : ℕ). position_of_bit (place_of x)) z ∙ sym z
    go true ea false eb true ec =
        let y = leb-true 1 k ec in
        let e = own_place k y (leb-true k 14 ea) in
        ap position_of_bit e ∙ position_some (k - 1) (omega (arith, leb-true k 14 ea)) ∙ omega arith
    go true ea false eb false ec =
        let z : k ≡ 0 = omega (arith, leb-false 1 k ec) in
        ap (λ (x : ℕ). position_of_bit (place_of x)) z ∙ sym z
    go false ea false eb c ec = absurd (impossible (sym h ∙ rw (ea, eb)))

-- bit p is that of a position
pub record BitOf (p : ℕ) : Type 0 where
  pub is : is_position (position_of_bit p) ≡ true
  pub place : place_of (position_of_bit p) ≡ p

pub position-place : (p : ℕ) → p < 16 → BitOf p
position-place p l = go (eqb p 15) refl (eqb p 14) refl
  where
    at : (n : ℕ) → p ≡ n → BitOf n → BitOf p
    at n e h = rw e h

    go : (a : Bool) → eqb p 15 ≡ a → (b : Bool) → eqb p 14 ≡ b → BitOf p
    go true ea b eb = at 15 (eqb-true p 15 ea) (record { is = refl; place = refl })
    go false ea true eb = at 14 (eqb-true p 14 eb) (record { is = refl; place = refl })
    go false ea false eb =
        let s : p < 14 = omega (arith, eqb-false p 15 ea, eqb-false p 14 eb) in
        let e = position_some p s in
        let n : leb (p + 1) 14 ≡ true = le-leb (p + 1) 14 (omega arith) in
        record { is = ap is_position e ∙ rw n; place = ap place_of e ∙ own_place (p + 1) (omega arith) (omega arith) ∙ omega arith }

-- ---- the position's own bit

module _ (s k : ℕ) where
  -- bit place_of k is that of the position, and says whether an edge settles it
  record Own : Type 0 where
    tells : bit (32767 - s % 32768) (place_of k) ≡ takes k s
    same : takes k s ≡ true → place_of k ≡ bit_of k

  own_some : (is_inside k || eqb k 17) ≡ true → place_of k ≡ bit_of k → place_of k < 15 → Own
  own_some h e l =
      record { tells = fresh-some s (place_of k) l ∙ ap (λ (z : ℕ). not (digit z s)) e ∙ sym (rw h); same = λ z. e }

  own_none : (is_inside k || eqb k 17) ≡ false → place_of k ≡ 15 → Own
  own_none h e =
      let n : takes k s ≡ false = rw h in
      record { tells = fresh-none s (place_of k) e ∙ sym n; same = λ z. absurd (impossible (sym z ∙ n)) }

  own : is_position k ≡ true → Own
  own h = go (leb k 14) refl (eqb k 17) refl (leb 1 k) refl
    where
      go : (a : Bool) → leb k 14 ≡ a → (b : Bool) → eqb k 17 ≡ b → (c : Bool) → leb 1 k ≡ c → Own
      go a ea true eb true ec =
          let f : place_of k ≡ 14 = ap place_of (eqb-true k 17 eb) in
          own_some (rw (eb, ec, ea) (or-true a)) (f ∙ sym (rw eb)) (omega (arith, f))
      go a ea true eb false ec = absurd (omega (arith, eqb-true k 17 eb, leb-false 1 k ec))
      go true ea false eb true ec =
          let y = leb-true k 14 ea in
          let z = leb-true 1 k ec in
          let f = own_place k z y in
          own_some (rw (eb, ec, ea)) (f ∙ sym (rw eb)) (omega (arith, f))
      go true ea false eb false ec =
          let z : k ≡ 0 = omega (arith, leb-false 1 k ec) in
          own_none (rw (eb, ec)) (ap place_of z)
      go false ea false eb c ec = absurd (impossible (sym h ∙ rw (ea, eb)))

  -- the digit that says so, and the position's bit
  pub fresh-digit : is_position k ≡ true → fresh_in s (place_of k) ≡ cond (takes k s) 1 0
  fresh-digit h = digit_value s (place_of k) ∙ ap (λ (y : Bool). cond y 1 0) (own h).tells

  pub fresh-bit : is_position k ≡ true → (fresh_in s (place_of k) * 2 ^ place_of k) % 2 ^ 16 ≡ cond (takes k s) (2 ^ bit_of k) 0
  fresh-bit h =
      bit-value s (place_of k) (omega arith) ∙ ap (λ (y : Bool). cond y (2 ^ place_of k) 0) (own h).tells ∙ go (takes k s) refl
    where
      go : (y : Bool) → takes k s ≡ y → cond y (2 ^ place_of k) 0 ≡ cond y (2 ^ bit_of k) 0
      go true e = ap (λ (z : ℕ). 2 ^ z) ((own h).same e)
      go false e = refl
