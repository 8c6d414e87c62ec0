-- How large the numbers of a reply can be, and that its reference is an exact number.
-- `Ranged` is kept by each edge; `InRange` is what follows for a record.
use Rattle.std.specs.Prelude.{ℕ, zero, suc, ◌+◌, ◌-◌, ◌*◌, ◌/◌, ◌%◌, ◌^◌, ◌≤◌, ◌<◌, ◌≡◌, true, false, ◌&&◌, leb, Float}
use Rattle.std.specs.Float.Ieee.{is_nan, le}
use Rattle.std.specs.Float.Ieee.Exact.{HasValue}
use Rattle.std.specs.Float.Ieee.Scale.{finite as is_finite}
use Rattle.rules.specs.declared.Reply.{Reply}
use Rattle.rules.specs.Settings.{Settings}
use Rattle.rules.specs.Samples.{bit}
use Rattle.rules.specs.Replies.{number, level, agrees}
use Rattle.rules.specs.Records.{is_average_lem, flags_of, confidence}

-- how many of the n lowest bits of a number are 1
unfoldable pub ones : ℕ → ℕ → ℕ
ones zero x = 0
ones (suc n) x = x % 2 + ones n (x / 2)

-- a number from 0 to 255 in binary64: neither a NaN nor an infinity
pub record Between (x : Float) : Type 0 where
  pub defined : is_nan x ≡ false
  pub finite : is_finite x ≡ true
  pub least : le (number 0) x ≡ true
  pub most : le x (number 255) ≡ true

-- What holds of every reply: each averaged value has a settled position of its own, and the reference is `whole` / 2 ^ (N - 1).
pub record Ranged (r : Reply) : Type 0 where
  pub least : 1 ≤ r.reference.n
  pub filled : r.reference.n ≤ suc (ones 15 r.word.settled)
  pub sum : r.reference.s ≤ 255 * r.reference.n
  pub settled : r.word.settled < 2 ^ 15
  pub code : r.word.code ≤ r.word.settled
  pub unsure : r.word.unsure ≤ r.word.settled
  pub averages : is_average_lem r.reference.estimate ≡ leb 2 r.reference.n
  pub whole : ℕ
  pub bounded : whole ≤ 255 * 2 ^ (r.reference.n - 1)
  pub exact : HasValue (level r.reference.estimate) false whole (2 ^ (r.reference.n - 1))

-- "N [..] 1 to 16", S at most 16 × 255, words of 15 bits, and a reference from 0 to 255
pub record InRange (r : Reply) : Type 0 where
  pub n : r.reference.n ≤ 16
  pub s : r.reference.s ≤ 4080
  pub code : r.word.code < 2 ^ 15
  pub unsure : r.word.unsure < 2 ^ 15
  pub confidence : confidence r.word.unsure < 2 ^ 15
  pub reference : Between (level r.reference.estimate)

-- What is known of every reply of every trace whose values are bytes.
pub record ReplyFacts (set : Settings) (r : Reply) : Type 0 where
  -- "N [..] 1 to 16", S at most 16 × 255, the reference from 0 to 255
  pub n-least : 1 ≤ r.reference.n
  pub n-most : r.reference.n ≤ 16
  pub s-most : r.reference.s ≤ 4080
  pub reference : Between (level r.reference.estimate)
  -- "bit 15 zero"
  pub code : r.word.code < 2 ^ 15
  pub confidence : confidence r.word.unsure < 2 ^ 15
  -- "bit 0 N of 2 or more"
  pub averaged : bit 0 (flags_of r.marks r.reference.estimate) ≡ leb 2 r.reference.n
  -- "A value agrees with a reference if they differ by at most 8": the reference is `whole` / 2 ^ (N - 1), and no difference is rounded
  pub whole : ℕ
  pub exact : HasValue (level r.reference.estimate) false whole (2 ^ (r.reference.n - 1))
  pub agrees : (v : ℕ) → v ≤ 255
      → agrees set v r
      ≡ (leb whole ((v + set.window) * 2 ^ (r.reference.n - 1)) && leb (v * 2 ^ (r.reference.n - 1)) (whole + set.window * 2 ^ (r.reference.n - 1)))
