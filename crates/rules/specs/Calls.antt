-- Opening, taking, closing: the refusal numbers in their order, the sizes of buffers, and what is handed out when.
use Rattle.std.specs.Prelude.{Result, Ok, Err, ℕ, ◌+◌, ◌*◌, ◌/◌, Bool, not, ◌&&◌, cond, List, [], ◌∷◌, leb, ltb, eqb, length, replicate}
use Rattle.rules.specs.declared.Opening.{Opening}
use Rattle.rules.specs.declared.Refusal.{Refusal}
use Rattle.rules.specs.declared.Refusal.TheVariants.{Mode, Azimuth, NotOpen, Unequal, PieceLength, SweepLength, NoRoom, BadFlag, Malformed, NoFrame}
use Rattle.rules.specs.declared.Reply.{Reply}
use Rattle.rules.specs.Settings.{Settings}
use Rattle.rules.specs.Lists.{any, filter, reject}
use Rattle.rules.specs.Samples.{Trace, ◌⧺◌, bad, piece_limit, sweep_limit}
use Rattle.rules.specs.Replies.{f1}
use Rattle.rules.specs.Machine.{final}
use Rattle.rules.specs.Records.{record_size, replies}

-- the number of each refusal: 1 to 8 of calls, 9 and 10 of lines
abbrev pub number_of : Refusal → ℕ
number_of Mode = 1
number_of Azimuth = 2
number_of NotOpen = 3
number_of Unequal = 4
number_of PieceLength = 5
number_of SweepLength = 6
number_of NoRoom = 7
number_of BadFlag = 8
number_of Malformed = 9
number_of NoFrame = 10

-- a call is carried out, or turned down
pub data Answer : Type 0 where
  accepted : Answer
  refused : Refusal → Answer

-- the same, as the code answers it
abbrev pub answer_from : Result Unit Refusal → Answer
answer_from (Ok _) = accepted
answer_from (Err r) = refused r

-- a refusal, and whether it holds
pub record Check : Type 0 where
  pub refusal : Refusal
  pub holds : Bool

abbrev pub check : Refusal → Bool → Check
check r b = record { refusal = r; holds = b }

-- "Each call tries its numbers in the order listed; the first that holds is returned, and without one the call is carried out."
abbrev pub first_of : List Check → Answer
first_of [] = accepted
first_of (c ∷ cs) = cond c.holds (refused c.refusal) (first_of cs)

-- ---- the checks that more than one call makes

-- "Mode is 1 (A), 2 (2) or 3 (C); azimuth 0 to 16,383". "1: mode not 1 to 3. 2: azimuth above 16,383."
abbrev pub open_checks : Opening → List Check
open_checks ω = check Mode (not (leb 1 ω.mode && leb ω.mode 3)) ∷ check Azimuth (ltb 16383 ω.azimuth) ∷ []

-- "3: no sweep open."
abbrev pub not_open : Bool → Check
not_open running = check NotOpen (not running)

-- "4: flag and value slices differ in length."
abbrev pub unequal : Trace → Check
unequal P = check Unequal (not (eqb (length P.flags) (length P.values)))

-- "6: sweep would pass 32,768."
abbrev pub overlong : ℕ → Check
overlong n = check SweepLength (ltb sweep_limit n)

-- "8: a bad flag byte."
abbrev pub bad_flag : List ℕ → Check
bad_flag flags = check BadFlag (any bad flags)

-- ---- the calls

-- "Open. 1: mode not 1 to 3. 2: azimuth above 16,383."
unfoldable pub open_answer : Opening → Answer
open_answer ω = first_of (open_checks ω)

-- at most four replies have their F1 in 206 ticks
abbrev pub most_replies : ℕ → ℕ
most_replies n = 4 * ((n + 205) / 206)

-- "72 × ceil(n/206) bytes for n ticks": room for four replies in each 206 ticks
abbrev pub take_room : ℕ → ℕ
take_room n = record_size * most_replies n

-- the most replies that a close hands out, and "144 bytes", the room for them
abbrev pub most_left : ℕ
most_left = 8

abbrev pub close_room : ℕ
close_room = record_size * most_left

-- "Take. 3: no sweep open. 4: flag and value slices differ in length. 5: piece over 4,096. 6: sweep would pass 32,768. 7: reply buffer under
-- 72 × ceil(n/206) bytes for n ticks. 8: a bad flag byte."
-- `running` says that a sweep is open, `taken` is how many ticks it has taken, and `room` is the length of the reply buffer.
unfoldable pub take_answer : Bool → ℕ → Trace → ℕ → Answer
take_answer running taken P room =
    first_of
    (not_open running
    ∷ unequal P
    ∷ check PieceLength (ltb piece_limit (length P.flags))
    ∷ overlong (taken + length P.flags)
    ∷ check NoRoom (ltb room (take_room (length P.flags)))
    ∷ bad_flag P.flags
    ∷ [])

-- "Close. 3, then 7 for under 144 bytes."
unfoldable pub close_answer : Bool → ℕ → Answer
close_answer running room = first_of (not_open running ∷ check NoRoom (ltb room close_room) ∷ [])

-- "A reply with F1 at q, unless removed, is written by the first call after which at least q+385 ticks have been taken, in order of q"
-- n is how many ticks have been taken.
abbrev pub due : ℕ → Reply → Bool
due n r = leb (f1 r + 385) n

-- what has been handed out once the trace T is taken
unfoldable pub handed : Settings → Trace → List Reply
unfolding final
handed set T = filter (due (length T.flags)) (replies (final set T))

-- what a take of P hands out after T
unfoldable pub fresh : Settings → Trace → Trace → List Reply
unfolding final
fresh set T P = reject (due (length T.flags)) (filter (due (length T.flags + length P.flags)) (replies (final set (T ⧺ P))))

-- "Close [..] Writes what is left, in order of q"
unfoldable pub rest : Settings → Trace → List Reply
unfolding final
rest set T = reject (due (length T.flags)) (replies (final set T))

-- "Samples outside the trace count as all zero.": n such ticks
abbrev pub silence : ℕ → Trace
silence n = record { flags = replicate n 0; values = replicate n 0 }
