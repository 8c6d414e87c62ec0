-- What the ticks of F1 say of the four places, and what becomes of a bracket.
use Rattle.std.specs.Prelude.{◌≡◌, ℕ, ◌+◌, ◌<◌, ◌≤◌, Bool, cond, not, List, slice_index_or}
use Rattle.rules.specs.declared.Tick.{Tick}
use Rattle.rules.specs.declared.Reply.{Reply}
use Rattle.rules.specs.declared.Slot.{Slot}
use Rattle.rules.specs.declared.Slot.TheVariants.{Idle, Open}
use Rattle.rules.specs.declared.Place.{Place}
use Rattle.rules.specs.declared.Pulse.{Pulse}
use Rattle.rules.specs.Replies.{f1, covers, inside}
use Rattle.places.specs.Places.{test, always, idle, any_in, opened_in}
use Rattle.marking.specs.declared.Words.{Words}
use Rattle.marking.specs.Marks.{four, Marked}
use Rattle.firsts.specs.declared.Firsts.{Firsts}

-- the F1 of a place; that of an idle one is the highest number
abbrev pub first_slot : Slot → Tick
first_slot Idle = record { 0 = 4294967295 }
first_slot (Open r) = r.f1

abbrev pub first_of : Place → Tick
first_of p = first_slot p.slot

abbrev pub firsts_of_lem : List Place → Firsts
firsts_of_lem l = record { a = first_of (slice_index_or l 0 idle); b = first_of (slice_index_or l 1 idle); c = first_of (slice_index_or l 2 idle); d = first_of (slice_index_or l 3 idle) }

-- the place's reply, if there is one, began early enough that a bracket with its F2 at w can come after it
pub record Early (w : ℕ) (y : Place) : Type 0 where
  pub at : (r : Reply) → y.slot ≡ Open r → f1 r + 167 ≤ w

pub record AllEarly (w : ℕ) (l : List Place) : Type 0 where
  pub a : Early w (slice_index_or l 0 idle)
  pub b : Early w (slice_index_or l 1 idle)
  pub c : Early w (slice_index_or l 2 idle)
  pub d : Early w (slice_index_or l 3 idle)

-- x tells by the tick of F1 whether a place passes the test
pub record Tells (p : Reply → Bool) (q : Tick) (x : Bool) : Type 0 where
  pub at : (y : Place) → q ≡ first_of y → x ≡ test p y

pub record AnyTells (p : Reply → Bool) (f : Firsts) (x : Bool) : Type 0 where
  pub at : (l : List Place) → f ≡ firsts_of_lem l → x ≡ any_in p (four l)

-- whether it is idle
pub record NonePost (q : Tick) (x : Bool) : Type 0 where
  pub at : (y : Place) (w : ℕ) → w < 4294967296 → Early w y → q ≡ first_of y → x ≡ not (test always y)

-- whether it covers w, where a later F2 stands
pub record HidesPost (q : Tick) (w : ℕ) (x : Bool) : Type 0 where
  pub at : (y : Place) → Early w y → q ≡ first_of y → x ≡ test (covers w) y

pub record AnyHidesPost (f : Firsts) (w : ℕ) (x : Bool) : Type 0 where
  pub at : (l : List Place) → AllEarly w l → f ≡ firsts_of_lem l → x ≡ any_in (covers w) (four l)

-- whether it covers u at position 1 to 14, where c says whether it covers u
pub record InsidePost (c : Bool) (q : Tick) (u : ℕ) (x : Bool) : Type 0 where
  pub at : (y : Place) → c ≡ test (covers u) y → q ≡ first_of y → x ≡ test (inside u) y

pub record AnyInsidePost (f : Firsts) (on : Words) (i u : ℕ) (x : Bool) : Type 0 where
  pub at : (l : List Place) → Marked on i (covers u) l → f ≡ firsts_of_lem l → x ≡ any_in (inside u) (four l)

-- the first idle place, or the last
abbrev pub free_by : Bool → Bool → Bool → ℕ
free_by a b c = cond a (cond b (cond c 3 2) 1) 0

abbrev pub free_on : List Place → ℕ
free_on l = free_by (test always (slice_index_or l 0 idle)) (test always (slice_index_or l 1 idle)) (test always (slice_index_or l 2 idle))

pub record FreePost (f : Firsts) (j : ℕ) : Type 0 where
  pub at : (l : List Place) (w : ℕ) → w < 4294967296 → AllEarly w l → f ≡ firsts_of_lem l → j ≡ free_on l

-- whether no place is idle
pub record BusyPost (f : Firsts) (x : Bool) : Type 0 where
  pub at : (l : List Place) (w : ℕ) → w < 4294967296 → AllEarly w l → f ≡ firsts_of_lem l → x ≡ test always (slice_index_or l 3 idle)

-- the reply that it opens
pub record OpenedPost (f : Firsts) (on : Words) (i : ℕ) (e f2 : Pulse) (y : Reply) : Type 0 where
  pub at : (l : List Place) → Marked on i (covers e.tick.0) l → f ≡ firsts_of_lem l → y ≡ opened_in e f2 (four l)
