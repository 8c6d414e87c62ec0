-- What is handed out: a record of 18 bytes for each reply, and six totals.
use Rattle.std.specs.Prelude.{ℕ, zero, suc, ◌+◌, ◌-◌, ◌*◌, ◌/◌, ◌%◌, ◌^◌, Bool, true, false, cond, List, [], ◌∷◌, ◌++◌, map, length, take}
use Rattle.std.specs.Float.{binary64}
use Rattle.std.specs.Float.Ieee.{to_bits}
use Rattle.rules.specs.declared.Tick.{Tick}
use Rattle.rules.specs.declared.Range.{Range}
use Rattle.rules.specs.declared.Estimate.{Estimate}
use Rattle.rules.specs.declared.Estimate.TheVariants.{Lone, Average}
use Rattle.rules.specs.declared.Marks.{Marks}
use Rattle.rules.specs.declared.Reply.{Reply}
use Rattle.rules.specs.declared.Totals.{Totals}
use Rattle.rules.specs.Lists.{joined}
use Rattle.rules.specs.Replies.{level}
use Rattle.rules.specs.Machine.{State}

-- n bytes of a number, "high byte first"
unfoldable pub bytes : ℕ → ℕ → List ℕ
bytes zero x = []
bytes (suc n) x = x / 256 ^ n % 256 ∷ bytes n x

-- "a range is twice a tick number"
abbrev pub range_of : Tick → Range
range_of t = record { 0 = 2 * t.0 }

abbrev pub is_average_lem : Estimate → Bool
is_average_lem (Lone x) = false
is_average_lem (Average x) = true

-- "Flags: bit 0 N of 2 or more; 1 reference is F2; 2 reference pulse lacks M; 3 military; others zero."
abbrev pub flags_of : Marks → Estimate → ℕ
flags_of m e = cond (is_average_lem e) 1 0 + (cond m.second 2 0 + (cond m.main 0 4 + cond m.military 8 0))

-- "A position with no edge is 0, 1." and "bit 15 zero": confidence is 1 at each of the 15 positions that is not unsure
abbrev pub confidence : ℕ → ℕ
confidence unsure = 2 ^ 15 - 1 - unsure

-- "18 bytes"
abbrev pub record_size : ℕ
record_size = 18

-- "18 bytes, high byte first: range (2), code (2), confidence (2), flags (1), N (1), S (2), reference as binary64 bits (8)."
unfoldable pub record_of : Reply → List ℕ
unfolding bytes to_bits
record_of r =
    bytes 2 (range_of r.f1).0 ++ bytes 2 r.word.code ++ bytes 2 (confidence r.word.unsure)
    ++ bytes 1 (flags_of r.marks r.reference.estimate) ++ bytes 1 r.reference.n ++ bytes 2 r.reference.s
    ++ bytes 8 (to_bits binary64 (level r.reference.estimate))

-- the records of some replies, end to end
unfoldable pub records : List Reply → List ℕ
unfolding record_of
records l = joined (map record_of l)

-- The first records of a buffer, as many as a count says.
abbrev pub first_records : ℕ → List ℕ → List ℕ
first_records n b = take (record_size * n) b

-- the replies opened and not removed, in order of F1
abbrev pub replies : State → List Reply
replies s = s.done ++ s.live

-- six totals of 2 bytes
abbrev pub totals_size : ℕ
totals_size = 12

-- "the totals found, replies (opened and not removed), sidelobe, garbled, lost, phantoms"
unfoldable pub totals : State → Totals
totals s =
    let c = s.counts in
    record { found = c.found; replies = length (replies s); sidelobe = c.sidelobe; garbled = c.garbled; lost = c.lost; phantoms = c.phantoms }
