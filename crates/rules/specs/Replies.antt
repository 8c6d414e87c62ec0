-- A reply, and what an edge makes of it. `plus` is how sums are formed: `◌+◌` by the rules, and in the code a sum that cannot overflow.
use Rattle.std.specs.Prelude.{ℕ, ◌+◌, ◌-◌, ◌/◌, ◌%◌, ◌^◌, Bool, true, false, not, ◌&&◌, ◌||◌, cond, leb, ltb, eqb, pos, negsuc, Float}
use Rattle.std.specs.Float.{fin, binary64}
use Rattle.std.specs.Float.Ieee.{add, sub, mul, le, of_int}
use Rattle.rules.specs.declared.Estimate.{Estimate}
use Rattle.rules.specs.declared.Estimate.TheVariants.{Lone, Average}
use Rattle.rules.specs.declared.Reference.{Reference}
use Rattle.rules.specs.declared.Word.{Word}
use Rattle.rules.specs.declared.Reply.{Reply}
use Rattle.rules.specs.declared.Pulse.{Pulse}
use Rattle.rules.specs.Settings.{Settings}
use Rattle.rules.specs.Samples.{bit}

abbrev pub f1 : Reply → ℕ
f1 r = r.f1.0

-- ---- positions

-- "Position k (0 to 14, and 17) of a reply with F1 at q covers ticks q+12k-1 to q+12k+1."
-- The k that covers tick u, or 15, which covers nothing, where no k does.
unfoldable pub position : ℕ → ℕ → ℕ
position q u = cond (leb q (u + 1) && leb ((u + 1 - q) % 12) 2) ((u + 1 - q) / 12) 15

-- one of positions 1 to 14
abbrev pub is_inside : ℕ → Bool
is_inside k = leb 1 k && leb k 14

-- one of positions 0 to 14, and 17
abbrev pub is_position : ℕ → Bool
is_position k = leb k 14 || eqb k 17

-- an open reply covers u
unfoldable pub covers : ℕ → Reply → Bool
unfolding position
covers u r = is_position (position (f1 r) u)

-- it covers u at position 1 to 14
unfoldable pub inside : ℕ → Reply → Bool
unfolding position
inside u r = is_inside (position (f1 r) u)

-- "Replies with q+205 < u are no longer open."
unfoldable pub ended : ℕ → Reply → Bool
ended u r = ltb (f1 r + 205) u

-- "It is military if an open q has u-q from 203 to 205."
unfoldable pub military : ℕ → Reply → Bool
military u r = leb (f1 r + 203) u && leb u (f1 r + 205)

-- "Each open potential phantom q with u-q within 2 of 12k, k 1 to 14, is removed"
unfoldable pub is_phantom : ℕ → Reply → Bool
is_phantom u r = r.marks.suspect && leb (f1 r + 10) u && leb u (f1 r + 170) && leb ((u + 2 - f1 r) % 12) 4

-- ---- references

-- a whole number in binary64
unfoldable pub number : ℕ → Float
unfolding of_int
number n = of_int binary64 (pos n)

-- "The estimate is a lone pulse's reference (N = 1) or an average (N of 2 or more)."
abbrev pub level : Estimate → Float
level (Lone x) = x
level (Average x) = x

-- "(reference + value) × 0.5 in binary64, one rounding each"
unfoldable pub averaged : Float → ℕ → Float
unfolding number add mul
averaged x v = mul binary64 (add binary64 x (number v)) (fin false 1 (negsuc 0))

-- "A value agrees with a reference if they differ by at most 8."
unfoldable pub near : ℕ → Float → ℕ → Bool
unfolding number sub le
near w x v = le (sub binary64 x (number v)) (number w) && le (sub binary64 (number v) x) (number w)

unfoldable pub agrees : Settings → ℕ → Reply → Bool
unfolding near
agrees set v r = near set.window (level r.reference.estimate) v

-- "N counts the reference pulse and each averaged value, so 1 to 16 [..] S is the sum of those N values."
unfoldable pub lone : ℕ → Reference
unfolding number
lone v = record { estimate = Lone (number v); n = 1; s = v }

unfoldable pub average : (ℕ → ℕ → ℕ) → Reference → ℕ → Reference
unfolding averaged
average plus f v = record { estimate = Average (averaged (level f.estimate) v); n = plus f.n 1; s = plus f.s v }

-- ---- settling

-- code and confidence of a position
pub record Verdict : Type 0 where
  pub code : Bool
  pub confidence : Bool

-- By whether the edge has M, whether its value agrees with the reply's own reference, and whether with that of another open reply which covers u:
-- "no M: code 0, confidence 0. agrees with its own, with no other: 1, 1. With another too: 1, 0. fails its own, agrees with another: 0, 0. Fails all: 1, 0."
abbrev pub verdict : Bool → Bool → Bool → Verdict
verdict false own other = record { code = false; confidence = false }
verdict true true false = record { code = true; confidence = true }
verdict true true true = record { code = true; confidence = false }
verdict true false true = record { code = false; confidence = false }
verdict true false false = record { code = true; confidence = false }

-- "bits 0 to 12 are positions 1 to 13 [..], bit 13 position 14, bit 14 SPI (17)"
abbrev pub bit_of : ℕ → ℕ
bit_of k = cond (eqb k 17) 14 (k - 1)

-- position k with this verdict
abbrev pub settle : (ℕ → ℕ → ℕ) → ℕ → Verdict → Word → Word
settle plus k x w =
    record {
      settled = plus w.settled (2 ^ bit_of k);
      code = plus w.code (cond x.code (2 ^ bit_of k) 0);
      unsure = plus w.unsure (cond x.confidence 0 (2 ^ bit_of k));
    }

-- "a position 1 to 14 or 17 not yet settled": k, where `settled` has a bit for each position settled
abbrev pub takes : ℕ → ℕ → Bool
takes k settled = (is_inside k || eqb k 17) && not (bit (bit_of k) settled)

-- r with position k settled by the edge e. "At 1, 1 the reference becomes (reference + value) × 0.5"
abbrev pub heard_at : (ℕ → ℕ → ℕ) → ℕ → Pulse → Verdict → Reply → Reply
unfolding average
heard_at plus k e x r =
    record {
      f1 = r.f1;
      marks = r.marks;
      word = settle plus k x r.word;
      reference = cond x.confidence (average plus r.reference e.value) r.reference;
    }

-- an open reply covers the edge's tick, and its reference agrees with the edge's value
unfoldable pub speaks : Settings → Pulse → Reply → Bool
unfolding covers agrees
speaks set e r = covers e.tick.0 r && agrees set e.value r

-- "Then the edge goes to each open reply that covers u at a position 1 to 14 or 17 not yet settled, and settles it."
-- `other` says whether another open reply speaks.
unfoldable pub hear : (ℕ → ℕ → ℕ) → Settings → Pulse → Bool → Reply → Reply
unfolding position agrees heard_at
hear plus set e other r =
    let k = position (f1 r) e.tick.0 in
    cond (takes k r.word.settled) (heard_at plus k e (verdict e.main (agrees set e.value r) other) r) r
