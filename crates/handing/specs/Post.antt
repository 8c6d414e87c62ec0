-- What handing out writes.
use Rattle.std.specs.Prelude.{ℕ, ◌+◌, ◌*◌, ◌≤◌, ◌<◌, ◌≡◌, cond, List, [], ◌∷◌, length}
use Rattle.rules.specs.declared.Reply.{Reply}
use Rattle.rules.specs.declared.Slot.{Slot}
use Rattle.rules.specs.declared.Slot.TheVariants.{Idle, Open}
use Rattle.rules.specs.Lists.{All}
use Rattle.rules.specs.Replies.{f1, ended}
use Rattle.rules.specs.Machine.{State}
use Rattle.rules.specs.Records.{records, record_size}
use Rattle.rules.specs.Buffers.{over-at}

-- ---- the places

-- the reply of a place, if it is no longer open at u
abbrev pub due_slot : ℕ → Slot → List Reply
due_slot u Idle = []
due_slot u (Open r) = cond (ended u r) (r ∷ []) []

-- The records of l, n at most, are written from place at on, if the buffer has room for them, else nothing; r is the place behind what is written.
pub record HandedPost (n : ℕ) (l : List Reply) (at : ℕ) (b : List ℕ) (r : ℕ) (b' : List ℕ) : Type 0 where
  pub from : at ≤ r
  pub most : r ≤ at + record_size * n
  pub inside : at ≤ length b → r ≤ length b
  pub place : at + record_size * length l ≤ length b → r ≡ at + record_size * length l
  pub buffer : at + record_size * length l ≤ length b → b' ≡ over-at (records l) at b
  pub short : length b < at + record_size * length l → r ≡ at
  pub unwritten : length b < at + record_size * length l → b' ≡ b

-- ---- the rules

-- the replies stand in order of F1
abbrev pub InOrder : List Reply → Type 0
InOrder [] = Unit {0}
InOrder (r ∷ l) = All (λ x. f1 r ≤ f1 x) l × InOrder l

pub record Queue (s : State) : Type 0 where
  pub four : length s.live ≤ 4
  pub order : InOrder s.live
