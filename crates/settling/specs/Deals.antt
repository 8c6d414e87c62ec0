-- An edge that goes to the places that cover it.
use Rattle.std.specs.Prelude.{◌≡◌, ℕ, Bool, List}
use Rattle.rules.specs.declared.Place.{Place}
use Rattle.rules.specs.declared.Pulse.{Pulse}
use Rattle.rules.specs.declared.Slot.{Slot}
use Rattle.rules.specs.declared.Slot.TheVariants.{Idle, Open}
use Rattle.rules.specs.Replies.{f1, verdict, covers}
use Rattle.rules.specs.Settings.{standard}
use Rattle.replies.specs.Sums.{wrapped}
use Rattle.places.specs.Places.{position_in, hear_at, dealt}
use Rattle.marking.specs.declared.Words.{Words}
use Rattle.marking.specs.Marks.{four, Marked}
use Rattle.settling.specs.Hearing.{goes_to}

-- the position of a place's reply to which an edge at u goes
abbrev pub goes_to_slot : ℕ → Slot → ℕ
goes_to_slot u Idle = 0
goes_to_slot u (Open r) = goes_to (f1 r) u

-- the place after the edge e goes to it, whether it covers e or not
abbrev pub heard_by : Pulse → Bool → Bool → Place → Place
heard_by e own other x = hear_at wrapped (goes_to_slot e.tick.0 x.slot) e (verdict e.main own other) x

-- the place after the edge e, which it covers
abbrev pub hearing : Pulse → Bool → Bool → Place → Place
hearing e own other x = hear_at wrapped (position_in e.tick.0 x) e (verdict e.main own other) x

-- the edge e goes to the four places
pub record DealPost (l : List Place) (w : Words) (i : ℕ) (e : Pulse) (r : List Place) : Type 0 where
  pub at : Marked w i (covers e.tick.0) l → four r ≡ dealt wrapped standard e (four l)
