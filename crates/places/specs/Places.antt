-- Four places, what the code does to them, and the places that hold a list of open replies.
use Rattle.std.specs.Prelude.{ℕ, zero, suc, ◌+◌, Bool, true, false, not, ◌&&◌, ◌||◌, cond, List, [], ◌∷◌, Option, Some, None}
use Rattle.rules.specs.declared.Reply.{Reply}
use Rattle.rules.specs.declared.Slot.{Slot}
use Rattle.rules.specs.declared.Slot.TheVariants.{Idle, Open}
use Rattle.rules.specs.declared.Place.{Place}
use Rattle.places.specs.Four.{Places, Machine}
use Rattle.rules.specs.declared.Pulse.{Pulse}
use Rattle.rules.specs.declared.Fate.{Fate}
use Rattle.rules.specs.declared.Fate.TheVariants.{Sidelobe, Garbled, Lost, Opens}
use Rattle.rules.specs.Settings.{Settings}
use Rattle.rules.specs.Replies.{Verdict, f1, position, takes, heard_at, hear, speaks, covers, inside, military, is_phantom}
use Rattle.rules.specs.Machine.{State, opened_by_lem, fate_by, tally}

-- ---- tests on a place, and on the four

-- an idle place passes no test
abbrev pub test_slot : (Reply → Bool) → Slot → Bool
test_slot p Idle = false
test_slot p (Open r) = p r

abbrev pub test : (Reply → Bool) → Place → Bool
test p x = test_slot p x.slot

abbrev pub always : Reply → Bool
always r = true

abbrev pub any_in : (Reply → Bool) → Places → Bool
any_in p f = test p f.p0 || (test p f.p1 || (test p f.p2 || (test p f.p3 || false)))

abbrev pub count_in_lem : (Reply → Bool) → Places → ℕ
count_in_lem p f = cond (test p f.p0) 1 0 + (cond (test p f.p1) 1 0 + (cond (test p f.p2) 1 0 + cond (test p f.p3) 1 0))

-- the position of a place's reply that covers u, or 15, which covers nothing
abbrev pub position_slot : ℕ → Slot → ℕ
position_slot u Idle = 15
position_slot u (Open r) = position (f1 r) u

abbrev pub position_in : ℕ → Place → ℕ
position_in u x = position_slot u x.slot

-- ---- an edge that goes to the places

module _ (plus : ℕ → ℕ → ℕ) where
  -- position k of a place's reply is settled with the verdict x, if it is to be
  abbrev pub hear_slot_at : ℕ → Pulse → Verdict → Slot → Slot
  hear_slot_at k e x Idle = Idle
  hear_slot_at k e x (Open r) = Open (cond (takes k r.word.settled) (heard_at plus k e x r) r)

  abbrev pub hear_at : ℕ → Pulse → Verdict → Place → Place
  hear_at k e x p = record { slot = hear_slot_at k e x p.slot }

  module _ (set : Settings) where
    abbrev pub hear_slot : Pulse → Bool → Slot → Slot
    hear_slot e other Idle = Idle
    hear_slot e other (Open r) = Open (hear plus set e other r)

    abbrev pub hear_in : Pulse → Bool → Place → Place
    hear_in e other x = record { slot = hear_slot e other x.slot }

abbrev pub any3 : Bool → Bool → Bool → Bool
any3 a b c = a || (b || (c || false))

-- the edge e goes to the four places
unfoldable pub dealt : (ℕ → ℕ → ℕ) → Settings → Pulse → Places → Places
dealt plus set e f =
    let s0 = test (speaks set e) f.p0 in
    let s1 = test (speaks set e) f.p1 in
    let s2 = test (speaks set e) f.p2 in
    let s3 = test (speaks set e) f.p3 in
    record {
      p0 = hear_in plus set e (any3 s1 s2 s3) f.p0;
      p1 = hear_in plus set e (any3 s0 s2 s3) f.p1;
      p2 = hear_in plus set e (any3 s0 s1 s3) f.p2;
      p3 = hear_in plus set e (any3 s0 s1 s2) f.p3;
    }

-- ---- opening and removing

abbrev pub idle : Place
idle = record { slot = Idle }

abbrev pub no_places_lem : Places
no_places_lem = record { p0 = idle; p1 = idle; p2 = idle; p3 = idle }

-- r in the first idle place
unfoldable pub pushed : Reply → Places → Places
pushed r f =
    cond (test always f.p0)
    (cond (test always f.p1)
    (cond (test always f.p2)
    (cond (test always f.p3) f (record { p0 = f.p0; p1 = f.p1; p2 = f.p2; p3 = record { slot = Open r } }))
    (record { p0 = f.p0; p1 = f.p1; p2 = record { slot = Open r }; p3 = f.p3 }))
    (record { p0 = f.p0; p1 = record { slot = Open r }; p2 = f.p2; p3 = f.p3 }))
    (record { p0 = record { slot = Open r }; p1 = f.p1; p2 = f.p2; p3 = f.p3 })

-- a place's reply goes, or is put behind those of f
abbrev pub sift_slot : Bool → Slot → Places → Places
sift_slot true s f = f
sift_slot false Idle f = f
sift_slot false (Open r) f = pushed r f

abbrev pub sifted : Bool → Place → Places → Places
sifted gone x f = sift_slot gone x.slot f

unfoldable pub without_by : Bool → Bool → Bool → Bool → Places → Places
unfolding pushed
without_by g0 g1 g2 g3 f =
    cond (g0 || (g1 || (g2 || (g3 || false))))
    (sifted g3 f.p3 (sifted g2 f.p2 (sifted g1 f.p1 (sifted g0 f.p0 no_places_lem))))
    f

-- the replies that pass the test go, the rest move up
abbrev pub without_in : (Reply → Bool) → Places → Places
without_in p f = without_by (test p f.p0) (test p f.p1) (test p f.p2) (test p f.p3) f

-- ---- brackets: F1 is e and F2 is f2

unfoldable pub opened_in : Pulse → Pulse → Places → Reply
unfolding opened_by_lem
opened_in e f2 f = opened_by_lem (any_in (covers e.tick.0) f) (any_in (inside e.tick.0) f) (any_in (military e.tick.0) f) e f2

unfoldable pub fate_in : Pulse → Pulse → Places → Fate
fate_in e f2 f =
    fate_by (e.main || f2.main)
    ((e.main && not (any_in (covers e.tick.0) f)) || (f2.main && not (any_in (covers f2.tick.0) f)))
    (test always f.p3)

-- f are the places before, ks those without the phantoms, and r is the reply to open
abbrev pub places_after : Fate → Places → Places → Reply → Places
places_after Sidelobe f ks r = f
places_after Garbled f ks r = ks
places_after Lost f ks r = ks
places_after Opens f ks r = pushed r ks

module _ (plus : ℕ → ℕ → ℕ) where
  unfoldable pub bracket_on : Pulse → Pulse → Machine → Machine
  unfolding opened_in fate_in without_by pushed is_phantom
  bracket_on e f2 m =
      let ks = without_in (is_phantom e.tick.0) m.places in
      record {
        places = places_after (fate_in e f2 ks) m.places ks (opened_in e f2 ks);
        counts = tally plus (fate_in e f2 ks) (count_in_lem (is_phantom e.tick.0) m.places) m.counts;
      }

  abbrev pub bracket_if : Pulse → Option Pulse → Machine → Machine
  bracket_if e None m = m
  bracket_if e (Some f) m = bracket_on e f m

  -- the edge e, where the bracket b stands, if one does
  unfoldable pub step_on : Settings → Pulse → Option Pulse → Machine → Machine
  unfolding bracket_on dealt
  step_on set e b m =
      let n = bracket_if e b m in
      record { places = dealt plus set e n.places; counts = n.counts }

-- ---- the places that hold the open replies, in order of F1, the idle ones last

abbrev pub place_at : ℕ → List Reply → Place
place_at n [] = idle
place_at zero (r ∷ l) = record { slot = Open r }
place_at (suc n) (r ∷ l) = place_at n l

abbrev pub placed : List Reply → Places
placed l = record { p0 = place_at 0 l; p1 = place_at 1 l; p2 = place_at 2 l; p3 = place_at 3 l }

abbrev pub machine_of : State → Machine
machine_of s = record { places = placed s.live; counts = s.counts }
