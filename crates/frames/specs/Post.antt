-- What writing a line leaves in the output buffer.
use Rattle.std.specs.Prelude.{ℕ, ◌+◌, Bool, true, false, List, ◌≡◌, leb, length}
use Rattle.rules.specs.Buffers.{over-at}

-- the place behind the bytes l, written from place at on, and the buffer then; where they do not fit, nothing is written
abbrev pub place_behind : Bool → List ℕ → ℕ → ℕ
place_behind true l at = at + length l
place_behind false l at = at

abbrev pub buffer_with : Bool → List ℕ → ℕ → List ℕ → List ℕ
buffer_with true l at b = over-at l at b
buffer_with false l at b = b

pub record WritePost (l : List ℕ) (at : ℕ) (b : List ℕ) (r : ℕ) (b' : List ℕ) : Type 0 where
  pub result : r ≡ place_behind (leb (at + length l) (length b)) l at
  pub buffer : b' ≡ buffer_with (leb (at + length l) (length b)) l at b
