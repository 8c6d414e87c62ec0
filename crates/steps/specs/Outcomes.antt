-- What one line makes of a sweep, and what it prints.
use Rattle.std.specs.Prelude.{ℕ, List, [], ◌++◌}
use Rattle.rules.specs.declared.Opening.{Opening}
use Rattle.rules.specs.declared.Refusal.{Refusal}
use Rattle.rules.specs.declared.Reply.{Reply}
use Rattle.rules.specs.Settings.{standard}
use Rattle.rules.specs.Samples.{Trace, nothing}
use Rattle.rules.specs.Calls.{number_of, Answer, accepted, refused, open_answer, fresh, rest, take_room, close_room}
use Rattle.processor.specs.State.{Sweep, none, running}
use Rattle.calls.specs.Post.{longer, take_answer_at, close_answer_at, totals_of_lem}
use Rattle.reading.specs.Frames.{Reading, opening, samples, closing, reading, refused as unread}
use Rattle.frames.specs.Writing.{reply_lines_lem, totals_line_lem, refusal_line_lem}

-- The survey goes on with a sweep (or none) and prints bytes, or stops with a refusal.
pub data Outcome : Type 0 where
  goes : Sweep → List ℕ → Outcome
  stops : Refusal → Outcome

-- "`01` during a sweep starts afresh": whatever the sweep was
abbrev pub opened_as : Answer → Opening → Outcome
opened_as accepted ω = goes (running ω nothing) []
opened_as (refused k) ω = stops k

abbrev pub fresh_of : Sweep → Trace → List Reply
fresh_of none P = []
fresh_of (running ω T) P = fresh standard T P

abbrev pub taken_as : Answer → Sweep → Trace → Outcome
taken_as accepted σ P = goes (longer σ P) (reply_lines_lem (fresh_of σ P))
taken_as (refused k) σ P = stops k

abbrev pub rest_of : Sweep → List Reply
rest_of none = []
rest_of (running ω T) = rest standard T

abbrev pub closed_as : Answer → Sweep → Outcome
closed_as accepted σ = goes none (reply_lines_lem (rest_of σ) ++ totals_line_lem (totals_of_lem σ))
closed_as (refused k) σ = stops k

-- the buffer lent to a take: enough for the 64 samples of a line
abbrev pub line_room : ℕ
line_room = take_room 64

-- what each frame makes of a sweep. With the lent buffers number 7 never holds.
abbrev pub opened_at : Opening → Sweep → Outcome
opened_at ω σ = opened_as (open_answer ω) ω

abbrev pub taken_at : Trace → Sweep → Outcome
taken_at P σ = taken_as (take_answer_at σ P line_room) σ P

abbrev pub closed_at : Sweep → Outcome
closed_at σ = closed_as (close_answer_at σ close_room) σ

abbrev pub outcome_at : Sweep → Reading → Outcome
outcome_at σ (opening ω) = opened_at ω σ
outcome_at σ (samples P) = taken_at P σ
outcome_at σ closing = closed_at σ
outcome_at σ (unread k) = stops k

-- what a line makes of a sweep
unfoldable pub line_at : Sweep → List ℕ → Outcome
unfolding reading open_answer take_answer_at close_answer_at
line_at σ l = outcome_at σ (reading l)

-- "Out: [..] `1f` and a refusal number"
abbrev pub printed : Outcome → List ℕ
printed (goes σ l) = l
printed (stops k) = refusal_line_lem (number_of k)
