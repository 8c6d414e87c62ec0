-- What holds of every reply, by how a reply opens and what an edge makes of it: a position is settled once, so at most 15 are, and N is at most 16.
-- With each averaged value the reference's denominator doubles, so 15 halvings at most leave it exact.
use Prim.Native.Nat.{ℕ, suc, ◌+◌, ◌-◌, ◌*◌, ◌^◌, ◌≤◌, ◌<◌}
use native.Mathlib.Omega.{arith}
use mathlib.Core.Path.{◌≡◌, refl, sym}
use mathlib.Core.Bool.{Bool, true, false, not, ◌&&◌, ◌||◌, cond, true≢false}
use mathlib.Core.List.{List}
use lib.Dec.{leb, eqb}
use lib.Ieee.{Float}
use lib.Ieee.Exact.{HasValue}
use borrow.Author.Tests.{le-leb, leb-true, not-true}
use Rattle.rules.specs.declared.Tick.{Tick}
use Rattle.rules.specs.declared.Marks.{Marks}
use Rattle.rules.specs.declared.Word.{Word}
use Rattle.rules.specs.declared.Reply.{Reply}
use Rattle.rules.specs.declared.Pulse.{Pulse}
use Rattle.rules.specs.Settings.{Settings}
use Rattle.rules.specs.Lists.{any}
use Rattle.rules.specs.Samples.{bit}
use Rattle.rules.specs.Replies.{Verdict, f1, position, is_inside, covers, inside, military, level, lone, average, averaged, agrees, verdict, bit_of, settle, takes, heard_at, hear}
use Rattle.rules.specs.Machine.{opened_by_lem, opened}
use Rattle.rules.specs.Ranges.{ones, Ranged, InRange}
use Rattle.rules.proofs.Ones.{ones-add, ones-most, add-below}
use Rattle.rules.proofs.References.{number-exact, averaged_bound, averaged-exact, reference-range}

-- either of two numbers, both at most n
pub cond-most : (b : Bool) (x y n : ℕ) → x ≤ n → y ≤ n → cond b x y ≤ n
cond-most true x y n h k = h
cond-most false x y n h k = k

-- ---- a reply that opens

-- a reply whose reference is a lone pulse
ranged-lone : (t : Tick) (m : Marks) (w : Word) (v : ℕ) → v ≤ 255 → w.settled < 2 ^ 15 → w.code ≤ w.settled → w.unsure ≤ w.settled
    → Ranged (record { f1 = t; marks = m; word = w; reference = lone v })
unfolding lone
ranged-lone t m w v h s c u =
    record {
      least = omega arith;
      filled = omega arith;
      sum = omega arith;
      settled = s;
      code = c;
      unsure = u;
      averages = refl;
      whole = v;
      bounded = omega arith;
      exact = number-exact v h;
    }

-- a reply whose reference is F1, or F2 where F1 is covered
ranged-opened_by : (covered suspect military : Bool) (e f : Pulse) → e.value ≤ 255 → f.value ≤ 255 → Ranged (opened_by_lem covered suspect military e f)
unfolding opened_by_lem
ranged-opened_by true suspect military e f h k =
    let m : Marks = record { suspect = suspect; military = military; second = true; main = f.main } in
    let w : Word = record { settled = 2 ^ 13; code = 2 ^ 13; unsure = cond (not f.main) (2 ^ 13) 0 } in
    ranged-lone e.tick m w f.value k (omega arith) (omega arith) (cond-most (not f.main) (2 ^ 13) 0 (2 ^ 13) (omega arith) (omega arith))
ranged-opened_by false suspect military e f h k =
    let m : Marks = record { suspect = suspect; military = military; second = false; main = e.main } in
    ranged-lone e.tick m (record { settled = 0; code = 0; unsure = 0 }) e.value h (omega arith) (omega arith) (omega arith)

-- a reply is in range when it opens
pub ranged-opened : (e f : Pulse) (live : List Reply) → e.value ≤ 255 → f.value ≤ 255 → Ranged (opened e f live)
unfolding opened
ranged-opened e f live h k = ranged-opened_by (any (covers e.tick.0) live) (any (inside e.tick.0) live) (any (military e.tick.0) live) e f h k

-- ---- an edge that goes to a reply

-- N is one more than the number of positions settled, at most
most-averaged : (r : Reply) → Ranged r → r.reference.n ≤ 16
most-averaged r a = omega (arith, ones-most 15 r.word.settled, a.filled)

-- two tests that pass together pass each
and_both : (a b : Bool) → a && b ≡ true → (a ≡ true) × (b ≡ true)
and_both true b h = (refl, h)
and_both false b h = absurd (true≢false (sym h))

-- one of two tests passes, and not the second
or-first : (a : Bool) → a || false ≡ true → a ≡ true
or-first true h = refl
or-first false h = h

-- a position that is taken has one of the 15 bits
pub takes-bit : (k w : ℕ) → takes k w ≡ true → bit_of k < 15
takes-bit k w h = go (eqb k 17) (and_both (is_inside k || eqb k 17) (not (bit (bit_of k) w)) h).0
  where
    go : (b : Bool) → is_inside k || b ≡ true → cond b 14 (k - 1) < 15
    go true e = omega arith
    go false e = omega (arith, leb-true k 14 (and_both (leb 1 k) (leb k 14) (or-first (is_inside k) e)).1)

-- and its bit is 0
takes-free : (k w : ℕ) → takes k w ≡ true → bit (bit_of k) w ≡ false
takes-free k w h = not-true (bit (bit_of k) w) (and_both (is_inside k || eqb k 17) (not (bit (bit_of k) w)) h).1

-- an average is as exact as the reference before it
exact-average : (n m v : ℕ) (x : Float) → 1 ≤ n → n ≤ 16 → m ≤ 255 * 2 ^ (n - 1) → v ≤ 255 → HasValue x false m (2 ^ (n - 1))
    → (m + v * 2 ^ (n - 1) ≤ 255 * 2 ^ (n + 1 - 1)) × HasValue (averaged x v) false (m + v * 2 ^ (n - 1)) (2 ^ (n + 1 - 1))
exact-average n m v x l g b h e =
    let next : n + 1 - 1 ≡ suc (n - 1) = omega arith in
    rw next (averaged_bound (n - 1) m v b h, averaged-exact (n - 1) m v x (omega arith) b h e)

-- position k, not yet settled, is settled with the verdict x
module _ (k : ℕ) (e : Pulse) (h : e.value ≤ 255) (x : Verdict) (r : Reply) (t : takes k r.word.settled ≡ true) (a : Ranged r) where
  -- a position is settled that was not
  one_more : ones 15 (r.word.settled + 2 ^ bit_of k) ≡ suc (ones 15 r.word.settled)
  one_more = ones-add 15 (bit_of k) r.word.settled (takes-bit k r.word.settled t) (takes-free k r.word.settled t)

  -- the word of positions settled stays one of 15 bits
  still_below : r.word.settled + 2 ^ bit_of k < 2 ^ 15
  still_below = add-below 15 (bit_of k) r.word.settled (takes-bit k r.word.settled t) a.settled (takes-free k r.word.settled t)

  -- a position with code 1 is settled
  code-settled : r.word.code + cond x.code (2 ^ bit_of k) 0 ≤ r.word.settled + 2 ^ bit_of k
  code-settled = omega (arith, a.code, cond-most x.code (2 ^ bit_of k) 0 (2 ^ bit_of k) (omega arith) (omega arith))

  -- a position with confidence 0 is settled
  unsure-settled : r.word.unsure + cond x.confidence 0 (2 ^ bit_of k) ≤ r.word.settled + 2 ^ bit_of k
  unsure-settled = omega (arith, a.unsure, cond-most x.confidence 0 (2 ^ bit_of k) (2 ^ bit_of k) (omega arith) (omega arith))

  -- the reply stays in range, with its value averaged or not
  ranged-heard : (c : Bool)
      → Ranged (record { f1 = r.f1; marks = r.marks; word = settle ◌+◌ k x r.word; reference = cond c (average ◌+◌ r.reference e.value) r.reference })
  unfolding average
  ranged-heard true =
      let f = r.reference in
      let y = exact-average f.n a.whole e.value (level f.estimate) a.least (most-averaged r a) a.bounded h a.exact in
      record {
        least = omega arith;
        filled = omega (arith, a.filled, one_more);
        sum = omega (arith, a.sum);
        settled = still_below;
        code = code-settled;
        unsure = unsure-settled;
        averages = sym (le-leb 2 (f.n + 1) (omega (arith, a.least)));
        whole = a.whole + e.value * 2 ^ (f.n - 1);
        bounded = y.0;
        exact = y.1;
      }
  ranged-heard false =
      record {
        least = a.least;
        filled = omega (arith, a.filled, one_more);
        sum = a.sum;
        settled = still_below;
        code = code-settled;
        unsure = unsure-settled;
        averages = a.averages;
        whole = a.whole;
        bounded = a.bounded;
        exact = a.exact;
      }

-- a reply stays in range, whatever edge goes to it
pub ranged-hear : (set : Settings) (e : Pulse) (other : Bool) (r : Reply) → e.value ≤ 255 → Ranged r → Ranged (hear ◌+◌ set e other r)
unfolding hear
ranged-hear set e other r h a = go (takes k r.word.settled) refl
  where
    k : ℕ
    k = position (f1 r) e.tick.0

    x : Verdict
    x = verdict e.main (agrees set e.value r) other

    go : (b : Bool) → takes k r.word.settled ≡ b → Ranged (cond b (heard_at ◌+◌ k e x r) r)
    go true t = ranged-heard k e h x r t a x.confidence
    go false t = a

-- ---- what follows

-- a reply's numbers are in the ranges of its record
pub in_range : (r : Reply) → Ranged r → InRange r
in_range r a =
    record {
      n = most-averaged r a;
      s = omega (arith, a.sum, most-averaged r a);
      code = omega (arith, a.code, a.settled);
      unsure = omega (arith, a.unsure, a.settled);
      confidence = omega arith;
      reference = reference-range (r.reference.n - 1) a.whole (level r.reference.estimate) a.bounded a.exact;
    }
