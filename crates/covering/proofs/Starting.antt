-- The words of ticks of a place, and of the four.
use Prim.Native.Nat.{ℕ, ◌+◌, ◌<◌}
use mathlib.Core.Path.{◌≡◌, refl, sym, ap, ◌∙◌}
use mathlib.Core.Bool.{Bool}
use mathlib.Core.List.{List}
use lib.ListN.{get_or}
use Rattle.rules.specs.declared.Reply.{Reply}
use Rattle.rules.specs.declared.Slot.{Slot}
use Rattle.rules.specs.declared.Slot.TheVariants.{Idle, Open}
use Rattle.rules.specs.declared.Place.{Place}
use Rattle.rules.specs.Replies.{f1, covers, is_phantom}
use Rattle.plane.specs.Words.{bit}
use Rattle.plane.proofs.BitLaws.{zero_bit}
use Rattle.places.specs.Places.{test_slot, idle}
use Rattle.masks.specs.Masks.{covers_from, phantom_from, CoverMask, PhantomMask}
use Rattle.marking.specs.declared.Words.{Words}
use Rattle.marking.specs.Marks.{AllMarked}
use Rattle.covering.specs.Starts.{OfSlot, OfSlots, Tells, AllTell}

covers_by : (u : ℕ) (r : Reply) → covers_from (f1 r) u ≡ covers u r
unfolding covers covers_from
covers_by u r = refl

phantom_by : (u : ℕ) (r : Reply) → phantom_from r.marks.suspect (f1 r) u ≡ is_phantom u r
unfolding is_phantom phantom_from
phantom_by u r = refl

idle_tells : (p : ℕ → Reply → Bool) (t x : ℕ) (y : Place) → y.slot ≡ Idle → x ≡ 0 → Tells p t x y
idle_tells p t x y h e = record { at = λ i u li z. ap (λ (x : ℕ). bit x i) e ∙ zero_bit i ∙ sym (ap (test_slot (p u)) h) }

open_tells : (p : ℕ → Reply → Bool) (t x : ℕ) (y : Place) (r : Reply) → y.slot ≡ Open r → ((i u : ℕ) → i < 64 → t + i ≡ u + 242 → bit x i ≡ p u r) → Tells p t x y
open_tells p t x y r h m = record { at = λ i u li z. m i u li z ∙ sym (ap (test_slot (p u)) h) }

-- a word of each open reply, by what P says of the two
module _ (p : ℕ → Reply → Bool) (P : Reply → ℕ → Type 0) (t : ℕ) (h : (r : Reply) (x : ℕ) → P r x → (i u : ℕ) → i < 64 → t + i ≡ u + 242 → bit x i ≡ p u r) where
  tells : (x : ℕ) (y : Place) (s : Slot) → y.slot ≡ s → OfSlot P s x → Tells p t x y
  tells x y Idle e o = idle_tells p t x y e o
  tells x y (Open r) e o = open_tells p t x y r e (h r x o)

  pub all_tell : (w : Words) (l : List Place) → OfSlots P w l → AllTell p t w l
  all_tell w l o =
      let a = tells w.a (get_or l 0 idle) (get_or l 0 idle).slot refl o.a in
      let b = tells w.b (get_or l 1 idle) (get_or l 1 idle).slot refl o.b in
      let c = tells w.c (get_or l 2 idle) (get_or l 2 idle).slot refl o.c in
      let d = tells w.d (get_or l 3 idle) (get_or l 3 idle).slot refl o.d in
      record { at = λ i u li z. record { a = a.at i u li z; b = b.at i u li z; c = c.at i u li z; d = d.at i u li z } }

pub cover_tells : (t x : ℕ) (r : Reply) → CoverMask (f1 r) t x → (i u : ℕ) → i < 64 → t + i ≡ u + 242 → bit x i ≡ covers u r
cover_tells t x r m i u li z = m.at i u li z ∙ covers_by u r

pub risk_tells : (t x : ℕ) (r : Reply) → PhantomMask (f1 r) r.marks.suspect t x → (i u : ℕ) → i < 64 → t + i ≡ u + 242 → bit x i ≡ is_phantom u r
risk_tells t x r m i u li z = m.at i u li z ∙ phantom_by u r

pub all-marked : (t : ℕ) (on risk : Words) (l : List Place) → AllTell covers t on l → AllTell is_phantom t risk l → AllMarked t on risk l
all-marked t on risk l a b = record { cover = a.at; phantom = b.at }
