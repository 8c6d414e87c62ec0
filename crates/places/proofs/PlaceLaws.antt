-- What the code computes of a place and of the four is what the definitions of Places say: laws that the functions' proofs cite.
use Prim.Native.Nat.{ℕ}
use mathlib.Core.Path.{◌≡◌, refl, ap, ◌∙◌}
use mathlib.Core.Bool.{Bool, true, false, not, ◌&&◌, ◌||◌, cond}
use lib.Dec.{leb, eqb}
use Rattle.rules.specs.declared.Reply.{Reply}
use Rattle.rules.specs.declared.Pulse.{Pulse}
use Rattle.rules.specs.declared.Slot.{Slot}
use Rattle.rules.specs.declared.Slot.TheVariants.{Idle, Open}
use Rattle.rules.specs.declared.Place.{Place}
use Rattle.places.specs.Four.{Places}
use Rattle.rules.specs.Settings.{Settings}
use Rattle.rules.specs.Samples.{bit}
use Rattle.rules.specs.Replies.{f1, position, is_position, covers, agrees, speaks, verdict, bit_of, takes, heard_at, hear}
use Rattle.places.specs.Places.{test, test_slot, position_slot, position_in, hear_slot_at, hear_at, hear_slot, hear_in, any3, dealt}

-- ---- truth values

or_false : (a : Bool) → a ≡ (a || false)
or_false true = refl
or_false false = refl

any-three : (a b c : Bool) → (a || (b || c)) ≡ any3 a b c
any-three a b c = ap (λ (z : Bool). a || (b || z)) (or_false c)

pub any-four : (a b c d : Bool) → (a || (b || (c || d))) ≡ (a || any3 b c d)
any-four a b c d = ap (λ (z : Bool). a || z) (any-three b c d)

-- one after the other, as the code asks
pub three-in-turn : (a b c : Bool) → (a || b || c) ≡ any3 a b c
three-in-turn true b c = refl
three-in-turn false true c = refl
three-in-turn false false c = or_false c

pub four-in-turn : (a b c d : Bool) → (a || b || c || d) ≡ (a || any3 b c d)
four-in-turn true b c d = refl
four-in-turn false b c d = three-in-turn b c d

-- ---- tests of a place by its position

covers_slot : (u : ℕ) (s : Slot) → is_position (position_slot u s) ≡ test_slot (covers u) s
unfolding covers
covers_slot u Idle = refl
covers_slot u (Open r) = refl

pub covers-in : (u : ℕ) (p : Place) → is_position (position_in u p) ≡ test (covers u) p
covers-in u p = covers_slot u p.slot

-- ---- an edge that goes to a place

-- a position that is taken covers its ticks
taken-covers : (k w : ℕ) → takes k w ≡ true → is_position k ≡ true
taken-covers k w h = go (leb 1 k) (leb k 14) (eqb k 17) (not (bit (bit_of k) w)) h
  where
    go : (a b c d : Bool) → ((a && b || c) && d) ≡ true → (b || c) ≡ true
    go a true c d h = refl
    go a false true d h = refl
    go true false false d h = h
    go false false false d h = h

module _ (plus : ℕ → ℕ → ℕ) (set : Settings) (e : Pulse) where
  speaks_slot : (s : Slot) → (is_position (position_slot e.tick.0 s) && test_slot (agrees set e.value) s) ≡ test_slot (speaks set e) s
  unfolding speaks covers
  speaks_slot Idle = refl
  speaks_slot (Open r) = refl

  speaks_in : (p : Place) (k : ℕ) (s : Bool) → k ≡ position_in e.tick.0 p → s ≡ (is_position k && test (agrees set e.value) p) → s ≡ test (speaks set e) p
  speaks_in p k s ek es = es ∙ ap (λ (z : ℕ). is_position z && test (agrees set e.value) p) ek ∙ speaks_slot p.slot

  -- where a reply takes the edge, that it speaks says that the value agrees with its own reference
  heard-same : (other : Bool) (r : Reply) → (k : ℕ) → k ≡ position (f1 r) e.tick.0
      → cond (takes k r.word.settled) (heard_at plus k e (verdict e.main (is_position k && agrees set e.value r) other) r) r ≡ hear plus set e other r
  unfolding hear
  heard-same other r k ek = go (takes k r.word.settled) refl ∙ ap (λ (z : ℕ). cond (takes z r.word.settled) (heard_at plus z e (verdict e.main (agrees set e.value r) other) r) r) ek
    where
      go : (b : Bool) → takes k r.word.settled ≡ b
          → cond b (heard_at plus k e (verdict e.main (is_position k && agrees set e.value r) other) r) r ≡ cond b (heard_at plus k e (verdict e.main (agrees set e.value r) other) r) r
      go true t = ap (λ (z : Bool). heard_at plus k e (verdict e.main (z && agrees set e.value r) other) r) (taken-covers k r.word.settled t)
      go false t = refl

  hear-slot : (other : Bool) (s : Slot)
      → hear_slot_at plus (position_slot e.tick.0 s) e (verdict e.main (is_position (position_slot e.tick.0 s) && test_slot (agrees set e.value) s) other) s ≡ hear_slot plus set e other s
  hear-slot other Idle = refl
  hear-slot other (Open r) = ap Open (heard-same other r (position (f1 r) e.tick.0) refl)

  hear-by : (p : Place) (k : ℕ) (s o : Bool) (x : Place) → k ≡ position_in e.tick.0 p → s ≡ (is_position k && test (agrees set e.value) p)
      → x ≡ hear_at plus k e (verdict e.main s o) p → x ≡ hear_in plus set e o p
  hear-by p k s o x ek es ex =
      let h : hear_at plus k e (verdict e.main s o) p ≡ hear_in plus set e o p = rw (es, ek) (λ i. record { slot = hear-slot o p.slot i }) in
      ex ∙ h

  pub deal_by : (f : Places) (k0 k1 k2 k3 : ℕ) (s0 s1 s2 s3 o0 o1 o2 o3 : Bool) (x0 x1 x2 x3 : Place)
      → k0 ≡ position_in e.tick.0 f.p0 → k1 ≡ position_in e.tick.0 f.p1 → k2 ≡ position_in e.tick.0 f.p2 → k3 ≡ position_in e.tick.0 f.p3
      → s0 ≡ (is_position k0 && test (agrees set e.value) f.p0) → s1 ≡ (is_position k1 && test (agrees set e.value) f.p1)
      → s2 ≡ (is_position k2 && test (agrees set e.value) f.p2) → s3 ≡ (is_position k3 && test (agrees set e.value) f.p3)
      → o0 ≡ any3 s1 s2 s3 → o1 ≡ any3 s0 s2 s3 → o2 ≡ any3 s0 s1 s3 → o3 ≡ any3 s0 s1 s2
      → x0 ≡ hear_at plus k0 e (verdict e.main s0 o0) f.p0 → x1 ≡ hear_at plus k1 e (verdict e.main s1 o1) f.p1
      → x2 ≡ hear_at plus k2 e (verdict e.main s2 o2) f.p2 → x3 ≡ hear_at plus k3 e (verdict e.main s3 o3) f.p3
      → record { p0 = x0; p1 = x1; p2 = x2; p3 = x3 } ≡ dealt plus set e f
  unfolding dealt
  deal_by f k0 k1 k2 k3 s0 s1 s2 s3 o0 o1 o2 o3 x0 x1 x2 x3 a0 a1 a2 a3 b0 b1 b2 b3 c0 c1 c2 c3 d0 d1 d2 d3 =
      let t0 = speaks_in f.p0 k0 s0 a0 b0 in
      let t1 = speaks_in f.p1 k1 s1 a1 b1 in
      let t2 = speaks_in f.p2 k2 s2 a2 b2 in
      let t3 = speaks_in f.p3 k3 s3 a3 b3 in
      let g0 = hear-by f.p0 k0 s0 o0 x0 a0 b0 d0 in
      let g1 = hear-by f.p1 k1 s1 o1 x1 a1 b1 d1 in
      let g2 = hear-by f.p2 k2 s2 o2 x2 a2 b2 d2 in
      let g3 = hear-by f.p3 k3 s3 o3 x3 a3 b3 d3 in
      rw (g0, g1, g2, g3, c0, c1, c2, c3, t0, t1, t2, t3)
