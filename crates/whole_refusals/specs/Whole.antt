-- The refusals of a whole sweep in one call.
use Rattle.std.specs.Prelude.{ℕ, ◌+◌, not, ◌&&◌, ◌||◌, List, [], ◌∷◌, ◌++◌, leb, ltb, length}
use Rattle.rules.specs.declared.Refusal.TheVariants.{PieceLength, NoRoom}
use Rattle.rules.specs.declared.Opening.{Opening}
use Rattle.rules.specs.Samples.{Trace, piece_limit}
use Rattle.rules.specs.Records.{totals_size}
use Rattle.rules.specs.Calls.{Answer, Check, check, first_of, open_checks, unequal, overlong, bad_flag, take_room, close_room}

-- room for what the pieces hand out, each into the rest of the buffer, and for what is left at the close
abbrev pub whole_room_lem : ℕ → ℕ
whole_room_lem n = take_room n + close_room

-- The refusals of opening and of taking, each the same check: those of what is lent come behind those of the opening. 5 is for a length of pieces that
-- no take accepts, or 0; 7 for a buffer that the pieces and the close, or the totals, do not fit.
abbrev pub lent_checks : Trace → ℕ → ℕ → ℕ → List Check
lent_checks T piece room totalsRoom =
    unequal T
    ∷ check PieceLength (not (leb 1 piece && leb piece piece_limit))
    ∷ overlong (length T.flags)
    ∷ check NoRoom (ltb room (whole_room_lem (length T.flags)) || ltb totalsRoom totals_size)
    ∷ bad_flag T.flags
    ∷ []

unfoldable pub whole_answer : Opening → Trace → ℕ → ℕ → ℕ → Answer
whole_answer ω T piece room totalsRoom = first_of (open_checks ω ++ lent_checks T piece room totalsRoom)
