-- Words of a block's ticks, whose tick i is t+i-242, that say where a place passes a test.
use Rattle.std.specs.Prelude.{ℕ, ◌+◌, ◌<◌, ◌≡◌, Bool, List, get_or}
use Rattle.rules.specs.declared.Reply.{Reply}
use Rattle.rules.specs.declared.Slot.{Slot}
use Rattle.rules.specs.declared.Slot.TheVariants.{Idle, Open}
use Rattle.rules.specs.declared.Place.{Place}
use Rattle.plane.specs.Words.{bit}
use Rattle.places.specs.Places.{test, idle}
use Rattle.marking.specs.declared.Words.{Words}
use Rattle.marking.specs.Marks.{Marked}

-- what P says of a reply and its word holds of the slot's; an idle slot has no tick
abbrev pub OfSlot : (Reply → ℕ → Type 0) → Slot → ℕ → Type 0
OfSlot P Idle x = x ≡ 0
OfSlot P (Open r) x = P r x

-- and so of the four places
pub record OfSlots (P : Reply → ℕ → Type 0) (w : Words) (l : List Place) : Type 0 where
  pub a : OfSlot P (get_or l 0 idle).slot w.a
  pub b : OfSlot P (get_or l 1 idle).slot w.b
  pub c : OfSlot P (get_or l 2 idle).slot w.c
  pub d : OfSlot P (get_or l 3 idle).slot w.d

pub record Tells (p : ℕ → Reply → Bool) (t x : ℕ) (y : Place) : Type 0 where
  pub at : (i u : ℕ) → i < 64 → t + i ≡ u + 242 → bit x i ≡ test (p u) y

-- the first two parts of AllMarked are of this form
pub record AllTell (p : ℕ → Reply → Bool) (t : ℕ) (w : Words) (l : List Place) : Type 0 where
  pub at : (i u : ℕ) → i < 64 → t + i ≡ u + 242 → Marked w i (p u) l
