-- Tests of a place by the tick of its F1, and what becomes of a bracket.
use Rattle.std.proofs.Common.{◌≡◌, ℕ, ◌+◌, ◌-◌, ◌/◌, ◌%◌, ◌^◌, ◌<◌, ◌≤◌, Bool, true, false, cond, not, ◌&&◌, ◌||◌, eqb, ltb, leb, get_or, sym, refl, ap, ◌∙◌, arith, ltb-false, ltb-true, le-ltb, ne_eqb, eqb-true, le-leb, leb-false, leb-true}
use mathlib.Core.Bool.{and-false}
use lib.Ieee.{nan}
use borrow.Author.Tests.{lt-leb}
use Rattle.rules.specs.declared.Tick.{Tick}
use Rattle.rules.specs.declared.Reply.{Reply}
use Rattle.rules.specs.declared.Estimate.TheVariants.{Lone}
use Rattle.rules.specs.declared.Slot.{Slot}
use Rattle.rules.specs.declared.Slot.TheVariants.{Idle, Open}
use Rattle.rules.specs.declared.Place.{Place}
use Rattle.rules.specs.declared.Pulse.{Pulse}
use Rattle.rules.specs.Replies.{f1, position, is_position, is_inside, covers, inside, ended, military}
use Rattle.rules.specs.Machine.{opened_by_lem}
use Rattle.replies.proofs.ReplyLaws.{within}
use Rattle.places.specs.Places.{test, test_slot, always, idle, any3, opened_in}
use Rattle.marking.specs.declared.Words.{Words}
use Rattle.marking.specs.Marks.{AnyWord}
use Rattle.marking.proofs.Marking.{any-marked}
use Rattle.plane.specs.Words.{bit}
use Rattle.firsts.specs.declared.Firsts.{Firsts}
use Rattle.firsts.specs.Ticks.{first_slot, first_of, Early, Tells, AnyTells, NonePost, HidesPost, AnyHidesPost, InsidePost, AnyInsidePost, FreePost, BusyPost, OpenedPost}

abbrev none : ℕ
none = 4294967295

-- a reply with F1 at q, of which nothing else matters
abbrev some : Tick → Reply
some q =
    record {
      f1 = q;
      marks = record { suspect = false; military = false; second = false; main = false };
      word = record { settled = 0; code = 0; unsure = 0 };
      reference = record { estimate = Lone nan; n = 0; s = 0 };
    }

-- a test p of a reply that goes by F1 alone, as P does, and fails where F1 is that of an idle place
by_first : (p : Reply → Bool) (P : ℕ → Bool) → ((r : Reply) → p r ≡ P (f1 r)) → P none ≡ false → (q : Tick) (x : Bool) → x ≡ P q.0 → (s : Slot) → q ≡ first_slot s
    → x ≡ test_slot p s
by_first p P same off q x e Idle h = e ∙ ap (λ (t : Tick). P t.0) h ∙ off
by_first p P same off q x e (Open r) h = e ∙ ap (λ (t : Tick). P t.0) h ∙ sym (same r)

pub over_law : (q u : Tick) (x : Bool) → u.0 < 2 ^ 32 → ((r : Reply) → r.f1 ≡ q → x ≡ ended u.0 r) → Tells (ended u.0) q x
unfolding ended
over_law q u x lu h =
    record {
      at = λ y e.
          by_first (ended u.0) (λ (n : ℕ). ltb (n + 205) u.0) (λ r. refl) (le-ltb (none + 205) u.0 (omega arith)) q x (h (some q) refl) y.slot e;
    }

pub military_law : (q u : Tick) (x : Bool) → u.0 < 2 ^ 32 → ((r : Reply) → r.f1 ≡ q → x ≡ military u.0 r) → Tells (military u.0) q x
unfolding military
military_law q u x lu h =
    let off : (leb (none + 203) u.0 && leb u.0 (none + 205)) ≡ false = rw (lt-leb (none + 203) u.0 (omega arith)) in
    record {
      at = λ y e.
          by_first (military u.0) (λ (n : ℕ). leb (n + 203) u.0 && leb u.0 (n + 205)) (λ r. refl) off q x (h (some q) refl) y.slot e;
    }

pub any_law : (p : Reply → Bool) (f : Firsts) (a b c d x : Bool) → Tells p f.a a → Tells p f.b b → Tells p f.c c → Tells p f.d d → x ≡ (a || any3 b c d) → AnyTells p f x
any_law p f a b c d x ta tb tc td e =
    record {
      at = λ l h.
          let ka = ta.at (get_or l 0 idle) (ap (λ (z : Firsts). z.a) h) in
          let kb = tb.at (get_or l 1 idle) (ap (λ (z : Firsts). z.b) h) in
          let kc = tc.at (get_or l 2 idle) (ap (λ (z : Firsts). z.c) h) in
          let kd = td.at (get_or l 3 idle) (ap (λ (z : Firsts). z.d) h) in
          e ∙ (λ i. ka i || any3 (kb i) (kc i) (kd i));
    }

-- ---- idle

none_slot : (s : Slot) (w : ℕ) → w < 4294967296 → ((r : Reply) → s ≡ Open r → f1 r + 167 ≤ w) → eqb (first_slot s).0 none ≡ not (test_slot always s)
none_slot Idle w l h = refl
none_slot (Open r) w l h = ne_eqb (f1 r) none (λ e. omega (arith, h r refl))

pub none_law : (q : Tick) → NonePost q (eqb q.0 none)
none_law q = record { at = λ y w l h e. ap (λ (t : Tick). eqb t.0 none) e ∙ none_slot y.slot w l h.at }

-- ---- an F2 that is covered

position-cond : (b : Bool) (k : ℕ) → is_position (cond b k 15) ≡ (b && is_position k)
position-cond true k = refl
position-cond false k = refl

beyond : (d g : ℕ) → g < 2 ^ 64 → d < 2 ^ 64 → (g + 36) % 2 ^ 64 ≡ d → 3 ≤ g → 36 ≤ d → 39 ≤ d
beyond d g lg ld eg h l = omega arith

no_spi : (d g n : ℕ) → g < 2 ^ 64 → d < 2 ^ 64 → (g + 36) % 2 ^ 64 ≡ d → 3 ≤ g → n ≡ d + 168 → n / 12 ≡ 17 → n % 12 ≤ 2 → ⊥
no_spi d g n lg ld eg h m e n2 =
    let k : 36 ≤ d = omega (arith, m, e) in
    let z = beyond d g lg ld eg h k in
    let y : 207 ≤ n = omega (arith, z, m) in
    omega (arith, y, e, n2)

hidden : (q w d g : ℕ) → q < 2 ^ 32 → w < 2 ^ 32 → d < 2 ^ 64 → g < 2 ^ 64 → (d + (q + 167)) % 2 ^ 64 ≡ w → (g + 36) % 2 ^ 64 ≡ d → q + 167 ≤ w
    → (ltb d 3 || ltb g 3) ≡ is_position (position q w)
unfolding position
hidden q w d g lq lw ld lg ed eg h =
    go (ltb d 3) refl (ltb g 3) refl (leb ((w + 1 - q) % 12) 2) refl
    ∙ sym (position-cond (leb q (w + 1) && leb ((w + 1 - q) % 12) 2) ((w + 1 - q) / 12) ∙ rw (le-leb q (w + 1) (omega arith)))
  where
    go : (a : Bool) → ltb d 3 ≡ a → (b : Bool) → ltb g 3 ≡ b → (c : Bool) → leb ((w + 1 - q) % 12) 2 ≡ c → (a || b) ≡ (c && is_position ((w + 1 - q) / 12))
    go true ea b eb true ec =
        let z : (w + 1 - q) / 12 ≡ 14 = omega (arith, ltb-true d 3 ea) in rw z
    go true ea b eb false ec = absurd (omega (arith, ltb-true d 3 ea, leb-false ((w + 1 - q) % 12) 2 ec))
    go false ea true eb true ec =
        let z : (w + 1 - q) / 12 ≡ 17 = omega (arith, ltb-true g 3 eb) in rw z
    go false ea true eb false ec = absurd (omega (arith, ltb-true g 3 eb, leb-false ((w + 1 - q) % 12) 2 ec))
    go false ea false eb false ec = refl
    go false ea false eb true ec =
        let d3 = ltb-false d 3 ea in
        let g3 = ltb-false g 3 eb in
        let n2 = leb-true ((w + 1 - q) % 12) 2 ec in
        let m : w + 1 - q ≡ d + 168 = omega arith in
        rw (lt-leb ((w + 1 - q) / 12) 14 (omega arith), ne_eqb ((w + 1 - q) / 12) 17 (λ e. no_spi d g (w + 1 - q) lg ld eg g3 m e n2))

hides-none : (w d g : ℕ) → w < 2 ^ 32 → d < 2 ^ 64 → g < 2 ^ 64 → (d + (none + 167)) % 2 ^ 64 ≡ w → (g + 36) % 2 ^ 64 ≡ d → (ltb d 3 || ltb g 3) ≡ false
hides-none w d g lw ld lg ed eg = rw (le-ltb d 3 (omega arith), le-ltb g 3 (omega arith))

pub hides_law : (q : Tick) (w d g : ℕ) → q.0 < 2 ^ 32 → w < 2 ^ 32 → d < 2 ^ 64 → g < 2 ^ 64 → (d + (q.0 + 167)) % 2 ^ 64 ≡ w → (g + 36) % 2 ^ 64 ≡ d → HidesPost q w (ltb d 3 || ltb g 3)
unfolding covers
hides_law q w d g lq lw ld lg ed eg = record { at = λ y h e. go y.slot h.at e }
  where
    go : (s : Slot) → ((r : Reply) → s ≡ Open r → f1 r + 167 ≤ w) → q ≡ first_slot s → (ltb d 3 || ltb g 3) ≡ test_slot (covers w) s
    go Idle h e = hides-none w d g lw ld lg (ap (λ (t : Tick). (d + (t.0 + 167)) % 2 ^ 64) (sym e) ∙ ed) eg
    go (Open r) h e =
        let z : f1 r ≡ q.0 = ap (λ (t : Tick). t.0) (sym e) in
        hidden q.0 w d g lq lw ld lg ed eg (omega (arith, h r refl, z)) ∙ ap (λ (n : ℕ). is_position (position n w)) (sym z)

pub any-hides_law : (f : Firsts) (w : ℕ) (a b c d x : Bool) → HidesPost f.a w a → HidesPost f.b w b → HidesPost f.c w c → HidesPost f.d w d → x ≡ (a || any3 b c d)
    → AnyHidesPost f w x
any-hides_law f w a b c d x ta tb tc td e =
    record {
      at = λ l k h.
          let ka = ta.at (get_or l 0 idle) k.a (ap (λ (z : Firsts). z.a) h) in
          let kb = tb.at (get_or l 1 idle) k.b (ap (λ (z : Firsts). z.b) h) in
          let kc = tc.at (get_or l 2 idle) k.c (ap (λ (z : Firsts). z.c) h) in
          let kd = td.at (get_or l 3 idle) k.d (ap (λ (z : Firsts). z.d) h) in
          e ∙ (λ i. ka i || any3 (kb i) (kc i) (kd i));
    }

-- ---- position 1 to 14 covers u: the ticks of position 0 are too early, those of 17 too late

abbrev inside_if : Bool → ℕ → ℕ → Bool
inside_if c u q = c && (leb (q + 2) u && leb u (q + 202))

inside_late : (q u k : ℕ) → k ≡ (u + 1 - q) / 12 → q ≤ u + 1 → (u + 1 - q) % 12 ≤ 2 → inside_if (is_position k) u q ≡ is_inside k
inside_late q u k ek h l = go (leb k 14) refl (eqb k 17) refl (leb 1 k) refl
  where
    go : (a : Bool) → leb k 14 ≡ a → (b : Bool) → eqb k 17 ≡ b → (c : Bool) → leb 1 k ≡ c → inside_if (a || b) u q ≡ (c && a)
    go true ea b eb true ec =
        rw (le-leb (q + 2) u (omega (arith, leb-true 1 k ec)), le-leb u (q + 202) (omega (arith, leb-true k 14 ea)))
    go true ea b eb false ec = rw (lt-leb (q + 2) u (omega (arith, leb-false 1 k ec)))
    go false ea true eb c ec = rw (lt-leb u (q + 202) (omega (arith, eqb-true k 17 eb)), and-false (leb (q + 2) u), and-false c)
    go false ea false eb c ec = sym (and-false c)

inside_reply : (u : ℕ) (c : Bool) (r : Reply) → c ≡ covers u r → inside_if c u (f1 r) ≡ inside u r
unfolding covers inside position
inside_reply u c r e = ap (λ (z : Bool). inside_if z u (f1 r)) e ∙ go (leb (f1 r) (u + 1)) refl (leb ((u + 1 - f1 r) % 12) 2) refl
  where
    go : (a : Bool) → leb (f1 r) (u + 1) ≡ a → (b : Bool) → leb ((u + 1 - f1 r) % 12) 2 ≡ b
        → inside_if (is_position (cond (a && b) ((u + 1 - f1 r) / 12) 15)) u (f1 r) ≡ is_inside (cond (a && b) ((u + 1 - f1 r) / 12) 15)
    go true ea true eb = inside_late (f1 r) u ((u + 1 - f1 r) / 12) refl (leb-true (f1 r) (u + 1) ea) (leb-true ((u + 1 - f1 r) % 12) 2 eb)
    go true ea false eb = refl
    go false ea b eb = refl

pub inside_law : (c : Bool) (q : Tick) (u d : ℕ) → q.0 < 2 ^ 32 → u < 2 ^ 32 → d < 2 ^ 64 → (d + (q.0 + 2)) % 2 ^ 64 ≡ u → InsidePost c q u (c && ltb d 201)
inside_law c q u d lq lu ld w = record { at = λ y k e. go y.slot k e }
  where
    by : (c && ltb d 201) ≡ inside_if c u q.0
    by =
        let z : q.0 + 2 + 200 ≡ q.0 + 202 = omega arith in
        ap (λ (y : Bool). c && y) (within (q.0 + 2) u d 200 (omega arith) (omega arith) (omega arith) ld w ∙ ap (λ (y : ℕ). leb (q.0 + 2) u && leb u y) z)

    go : (s : Slot) → c ≡ test_slot (covers u) s → q ≡ first_slot s → (c && ltb d 201) ≡ test_slot (inside u) s
    go Idle k e = ap (λ (y : Bool). y && ltb d 201) k
    go (Open r) k e = by ∙ ap (λ (t : Tick). inside_if c u t.0) e ∙ inside_reply u c r k

pub any-inside_law : (f : Firsts) (on : Words) (i u : ℕ) (ma mb mc md a b c d x : Bool) → ma ≡ bit on.a i → mb ≡ bit on.b i → mc ≡ bit on.c i → md ≡ bit on.d i
    → InsidePost ma f.a u a → InsidePost mb f.b u b → InsidePost mc f.c u c → InsidePost md f.d u d → x ≡ (a || any3 b c d) → AnyInsidePost f on i u x
any-inside_law f on i u ma mb mc md a b c d x ea eb ec ed ta tb tc td e =
    record {
      at = λ l k h.
          let ka = ta.at (get_or l 0 idle) (ea ∙ k.a) (ap (λ (z : Firsts). z.a) h) in
          let kb = tb.at (get_or l 1 idle) (eb ∙ k.b) (ap (λ (z : Firsts). z.b) h) in
          let kc = tc.at (get_or l 2 idle) (ec ∙ k.c) (ap (λ (z : Firsts). z.c) h) in
          let kd = td.at (get_or l 3 idle) (ed ∙ k.d) (ap (λ (z : Firsts). z.d) h) in
          e ∙ (λ i. ka i || any3 (kb i) (kc i) (kd i));
    }

-- ---- the first idle place

not-not : (b : Bool) → not (not b) ≡ b
not-not true = refl
not-not false = refl

told : (q : Tick) (x b : Bool) → x ≡ b → NonePost q x → (y : Place) (w : ℕ) → w < 4294967296 → Early w y → q ≡ first_of y → test always y ≡ not b
told q x b e p y w l h z = sym (not-not (test always y)) ∙ ap not (sym (p.at y w l h z) ∙ e)

module _ (f : Firsts) where
  pub free_0 : (a : Bool) → NonePost f.a a → a ≡ true → FreePost f 0
  free_0 a pa ea = record { at = λ l w lw k h. sym (rw (told f.a a true ea pa (get_or l 0 idle) w lw k.a (ap (λ (z : Firsts). z.a) h))) }

  pub free_1 : (a b : Bool) → NonePost f.a a → a ≡ false → NonePost f.b b → b ≡ true → FreePost f 1
  free_1 a b pa ea pb eb =
      record {
        at = λ l w lw k h.
            sym (rw (told f.a a false ea pa (get_or l 0 idle) w lw k.a (ap (λ (z : Firsts). z.a) h), told f.b b true eb pb (get_or l 1 idle) w lw k.b (ap (λ (z : Firsts). z.b) h)));
      }

  pub free_23 : (a b c : Bool) → NonePost f.a a → a ≡ false → NonePost f.b b → b ≡ false → NonePost f.c c → (d : Bool) → c ≡ d → FreePost f (cond d 2 3)
  free_23 a b c pa ea pb eb pc d ec =
      record {
        at = λ l w lw k h.
            flip d
            ∙ sym
            (rw
            (told f.a a false ea pa (get_or l 0 idle) w lw k.a (ap (λ (z : Firsts). z.a) h), told f.b b false eb pb (get_or l 1 idle) w lw k.b (ap (λ (z : Firsts). z.b) h), told f.c c d ec pc (get_or l 2 idle) w lw k.c (ap (λ (z : Firsts). z.c) h)));
      }
    where
      flip : (d : Bool) → ◌≡◌ {A = ℕ} (cond d 2 3) (cond (not d) 3 2)
      flip true = refl
      flip false = refl

pub busy_law : (f : Firsts) (x : Bool) → NonePost f.d x → BusyPost f (not x)
busy_law f x p =
    record {
      at = λ l w lw k h.
          ap not (p.at (get_or l 3 idle) w lw k.d (ap (λ (z : Firsts). z.d) h)) ∙ not-not (test always (get_or l 3 idle));
    }

-- ---- the reply that opens

pub opened_law : (f : Firsts) (on : Words) (i : ℕ) (e f2 : Pulse) (w : ℕ) (c s m : Bool) (y : Reply) → AnyWord on w → c ≡ bit w i → AnyInsidePost f on i e.tick.0 s
    → AnyTells (military e.tick.0) f m → y ≡ opened_by_lem c s m e f2 → OpenedPost f on i e f2 y
unfolding opened_in
opened_law f on i e f2 w c s m y a ec ps pm ey =
    record {
      at = λ l k h.
          let cc' = ec ∙ a.at i ∙ any-marked on i (covers e.tick.0) l k in
          let ss = ps.at l k h in
          let mm = pm.at l h in
          ey ∙ (λ j. opened_by_lem (cc' j) (ss j) (mm j) e f2);
    }
