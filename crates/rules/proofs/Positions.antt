-- The positions, the phantom test and the other tests by tick say what document 01's sentences say.
-- Quotient and remainder by 12 give the one k for which q+12k-1 to q+12k+1 holds the tick.
use Prim.Native.Nat.{ℕ, ◌+◌, ◌-◌, ◌/◌, ◌%◌, ◌≤◌}
use native.Mathlib.Omega.{arith}
use mathlib.Core.Path.{◌≡◌, refl, sym, ap, ◌∙◌}
use mathlib.Core.Bool.{Bool, true, false, ◌&&◌, cond}
use lib.Dec.{leb}
use borrow.Author.Tests.{le-leb, leb-true}
use Rattle.rules.specs.declared.Reply.{Reply}
use Rattle.rules.specs.Replies.{f1, position, is_position, covers, inside, is_phantom}
use Rattle.rules.specs.Sentences.{Covered, Within}
use Rattle.rules.proofs.Truth.{impossible, and_left, and_right}

-- position k covers u: then k is the position that the rules give
pub position-is : (q k u : ℕ) → Covered q k u → position q u ≡ k
unfolding position
position-is q k u c =
    let l : q ≤ u + 1 = omega arith in
    let m : (u + 1 - q) % 12 ≤ 2 = omega arith in
    let n : (u + 1 - q) / 12 ≡ k = omega arith in
    rw (le-leb q (u + 1) l, le-leb ((u + 1 - q) % 12) 2 m) n

-- and a position that the rules give covers u; 15 is none
pub position-only : (q u : ℕ) → is_position (position q u) ≡ true → Covered q (position q u) u
unfolding position
position-only q u = go (leb q (u + 1)) (leb ((u + 1 - q) % 12) 2) refl refl
  where
    go : (b c : Bool) → leb q (u + 1) ≡ b → leb ((u + 1 - q) % 12) 2 ≡ c
        → is_position (cond (b && c) ((u + 1 - q) / 12) 15) ≡ true → Covered q (cond (b && c) ((u + 1 - q) / 12) 15) u
    go true true e f h =
        let l = leb-true q (u + 1) e in
        let m = leb-true ((u + 1 - q) % 12) 2 f in
        record { from = omega arith; to = omega arith }
    go true false e f h = absurd (impossible (sym h))
    go false c e f h = absurd (impossible (sym h))

-- "Position k (0 to 14, and 17) of a reply with F1 at q covers ticks q+12k-1 to q+12k+1."
pub covers-is : (r : Reply) (k u : ℕ) → is_position k ≡ true → Covered (f1 r) k u → covers u r ≡ true
unfolding covers
covers-is r k u p c = ap is_position (position-is (f1 r) k u c) ∙ p

pub covers-only : (r : Reply) (u : ℕ) → covers u r ≡ true → Covered (f1 r) (position (f1 r) u) u
unfolding covers
covers-only r u h = position-only (f1 r) u h

-- at position 1 to 14
pub inside_is : (r : Reply) (k u : ℕ) → 1 ≤ k → k ≤ 14 → Covered (f1 r) k u → inside u r ≡ true
unfolding inside
inside_is r k u l m c = rw (position-is (f1 r) k u c, le-leb 1 k l, le-leb k 14 m)

pub inside-only : (r : Reply) (u : ℕ) → inside u r ≡ true → Covered (f1 r) (position (f1 r) u) u
unfolding inside
inside-only r u h =
    let k = position (f1 r) u in
    position-only (f1 r) u (rw (and_right (leb 1 k) (leb k 14) h))

-- "potential phantom q with u-q within 2 of 12k, k 1 to 14"
pub phantom-is : (r : Reply) (k u : ℕ) → r.marks.suspect ≡ true → Within (f1 r) k u → is_phantom u r ≡ true
unfolding is_phantom
phantom-is r k u s w =
    let m : (u + 2 - f1 r) % 12 ≤ 4 = omega arith in
    rw (s, le-leb (f1 r + 10) u (omega arith), le-leb u (f1 r + 170) (omega arith), le-leb ((u + 2 - f1 r) % 12) 4 m)

pub phantom-only : (r : Reply) (u : ℕ) → is_phantom u r ≡ true → (r.marks.suspect ≡ true) × Within (f1 r) ((u + 2 - f1 r) / 12) u
unfolding is_phantom
phantom-only r u h =
    let a = r.marks.suspect in
    let b = leb (f1 r + 10) u in
    let c = leb u (f1 r + 170) in
    let d = leb ((u + 2 - f1 r) % 12) 4 in
    let abc = and_left (a && b && c) d h in
    let ab = and_left (a && b) c abc in
    let l = leb-true (f1 r + 10) u (and_right a b ab) in
    let m = leb-true u (f1 r + 170) (and_right (a && b) c abc) in
    let n = leb-true ((u + 2 - f1 r) % 12) 4 (and_right (a && b && c) d h) in
    (and_left a b ab, record { least = omega arith; most = omega arith; from = omega arith; to = omega arith })
