-- What an edge makes of a reply that covers it.
use Rattle.std.specs.Prelude.{ℕ, ◌+◌, ◌-◌, ◌*◌, ◌/◌, ◌%◌, ◌^◌, cond, ◌==◌, Float}
use Rattle.rules.specs.declared.Estimate.{Estimate}
use Rattle.rules.specs.declared.Estimate.TheVariants.{Lone, Average}
use Rattle.rules.specs.declared.Reply.{Reply}
use Rattle.rules.specs.declared.Pulse.{Pulse}
use Rattle.rules.specs.Replies.{Verdict, takes, heard_at}
use Rattle.replies.specs.Sums.{wrapped}

-- the number of the position of a reply with F1 at q that covers u, where one does: 12 ticks apart, counted in 256 ticks
abbrev pub position_number : ℕ → ℕ → ℕ
position_number q u = (u + 1 + 2 ^ 32 - q) % 256 / 12

-- the number of the bit of position k, which covers; 15 for position 0, which no edge settles
abbrev pub place_of : ℕ → ℕ
place_of k = (k % 32 + 15 - 2 * (k % 32 / 16)) % 16

-- the position whose bit has number p; 0 for 15
abbrev pub position_of_bit : ℕ → ℕ
position_of_bit p = cond (p == 15) 0 (cond (p == 14) 17 (p + 1))

-- the position to which an edge at u goes in a reply with F1 at q: the one that covers u, where one does
unfoldable pub goes_to : ℕ → ℕ → ℕ
goes_to q u = position_of_bit (place_of (position_number q u))

-- 1 where bit p, of the 15 that positions have, is not settled
abbrev pub fresh_in : ℕ → ℕ → ℕ
fresh_in settled p = (32767 - settled % 32768) / 2 ^ p % 2

abbrev pub kind_of : Estimate → ℕ
kind_of (Lone x) = 0
kind_of (Average x) = 1

abbrev pub estimate_of_lem : ℕ → Float → Estimate
estimate_of_lem k x = cond (k == 0) (Lone x) (Average x)

-- position k settled with the verdict x, if it is to be
abbrev pub hear_by : ℕ → Pulse → Verdict → Reply → Reply
hear_by k e x r = cond (takes k r.word.settled) (heard_at wrapped k e x r) r
