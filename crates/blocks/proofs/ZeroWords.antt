-- Words without a bit: they stay so while ticks without flags come, and no edge stands in their span.
use Prim.Native.Nat.{ℕ, ◌+◌, ◌-◌, ◌≤◌, ◌<◌}
use native.Mathlib.Omega.{arith}
use mathlib.Core.Path.{◌≡◌, refl, sym, ◌∙◌, subst}
use mathlib.Core.Bool.{Bool, true, false}
use lib.Dec.{eqb, leb}
use borrow.Author.Tests.{eqb-true, leb-true, leb-false}
use Rattle.rules.proofs.Truth.{and_left, and_right}
use Rattle.packing.specs.declared.Planes.{Planes}
use Rattle.plane.specs.Words.{Holds, Slid}
use Rattle.edges.specs.Detection.{Detected}
use Rattle.brackets.specs.Brackets.{Due}
use Rattle.plane.proofs.BitLaws.{zero_bit}
use Rattle.plane.proofs.PlaneLaws.{holds-none}
use Rattle.edges.proofs.LowTicks.{skipped}
use Rattle.front.specs.declared.words.Front.{Front}
use Rattle.span.specs.declared.Span.{Span}
use Rattle.front.specs.Post.{AdvancePost, blank}
use Rattle.span.specs.Spans.{SpanPost, TopPost}
use Rattle.blocks.specs.Steps.{flagless}
use Rattle.front.proofs.Advancing.{advance_law}
use Rattle.span.proofs.Spans.{span_law}

-- ---- zero words

unfoldable pub zero_front : Front
zero_front = record { a = 0; a1 = 0; p = 0; p1 = 0; n = 0; n1 = 0; l = 0; l1 = 0; k = 0; k1 = 0; h = 0; h1 = 0; e = 0; e1 = 0; e2 = 0; e3 = 0; m = 0; m1 = 0; m2 = 0; m3 = 0 }

pub blank-zero : (f : Front) → blank f ≡ true → f ≡ zero_front
unfolding zero_front
blank-zero f t-a =
    let e-a = eqb-true f.a 0 (and_left (eqb f.a 0) _ t-a) in
    let t-a1 = and_right (eqb f.a 0) _ t-a in
    let e-a1 = eqb-true f.a1 0 (and_left (eqb f.a1 0) _ t-a1) in
    let t-p = and_right (eqb f.a1 0) _ t-a1 in
    let e-p = eqb-true f.p 0 (and_left (eqb f.p 0) _ t-p) in
    let t-p1 = and_right (eqb f.p 0) _ t-p in
    let e-p1 = eqb-true f.p1 0 (and_left (eqb f.p1 0) _ t-p1) in
    let t-n = and_right (eqb f.p1 0) _ t-p1 in
    let e-n = eqb-true f.n 0 (and_left (eqb f.n 0) _ t-n) in
    let t-n1 = and_right (eqb f.n 0) _ t-n in
    let e-n1 = eqb-true f.n1 0 (and_left (eqb f.n1 0) _ t-n1) in
    let t-l = and_right (eqb f.n1 0) _ t-n1 in
    let e-l = eqb-true f.l 0 (and_left (eqb f.l 0) _ t-l) in
    let t-l1 = and_right (eqb f.l 0) _ t-l in
    let e-l1 = eqb-true f.l1 0 (and_left (eqb f.l1 0) _ t-l1) in
    let t-k = and_right (eqb f.l1 0) _ t-l1 in
    let e-k = eqb-true f.k 0 (and_left (eqb f.k 0) _ t-k) in
    let t-k1 = and_right (eqb f.k 0) _ t-k in
    let e-k1 = eqb-true f.k1 0 (and_left (eqb f.k1 0) _ t-k1) in
    let t-h = and_right (eqb f.k1 0) _ t-k1 in
    let e-h = eqb-true f.h 0 (and_left (eqb f.h 0) _ t-h) in
    let t-h1 = and_right (eqb f.h 0) _ t-h in
    let e-h1 = eqb-true f.h1 0 (and_left (eqb f.h1 0) _ t-h1) in
    let t-e = and_right (eqb f.h1 0) _ t-h1 in
    let e-e = eqb-true f.e 0 (and_left (eqb f.e 0) _ t-e) in
    let t-e1 = and_right (eqb f.e 0) _ t-e in
    let e-e1 = eqb-true f.e1 0 (and_left (eqb f.e1 0) _ t-e1) in
    let t-e2 = and_right (eqb f.e1 0) _ t-e1 in
    let e-e2 = eqb-true f.e2 0 (and_left (eqb f.e2 0) _ t-e2) in
    let t-e3 = and_right (eqb f.e2 0) _ t-e2 in
    let e-e3 = eqb-true f.e3 0 (and_left (eqb f.e3 0) _ t-e3) in
    let t-m = and_right (eqb f.e3 0) _ t-e3 in
    let e-m = eqb-true f.m 0 (and_left (eqb f.m 0) _ t-m) in
    let t-m1 = and_right (eqb f.m 0) _ t-m in
    let e-m1 = eqb-true f.m1 0 (and_left (eqb f.m1 0) _ t-m1) in
    let t-m2 = and_right (eqb f.m1 0) _ t-m1 in
    let e-m2 = eqb-true f.m2 0 (and_left (eqb f.m2 0) _ t-m2) in
    let t-m3 = and_right (eqb f.m2 0) _ t-m2 in
    let e-m3 = eqb-true f.m3 0 t-m3 in
    λ i. record { a = e-a i; a1 = e-a1 i; p = e-p i; p1 = e-p1 i; n = e-n i; n1 = e-n1 i; l = e-l i; l1 = e-l1 i; k = e-k i; k1 = e-k1 i; h = e-h i; h1 = e-h1 i; e = e-e i; e1 = e-e1 i; e2 = e-e2 i; e3 = e-e3 i; m = e-m i; m1 = e-m1 i; m2 = e-m2 i; m3 = e-m3 i }

unfoldable pub zero_planes : Planes
zero_planes = record { a = 0; p = 0; n = 0; m = 0 }

pub flagless-zero : (x : Planes) → flagless x ≡ true → x ≡ zero_planes
unfolding zero_planes
flagless-zero x t-a =
    let e-a = eqb-true x.a 0 (and_left (eqb x.a 0) _ t-a) in
    let t-p = and_right (eqb x.a 0) _ t-a in
    let e-p = eqb-true x.p 0 (and_left (eqb x.p 0) _ t-p) in
    let t-n = and_right (eqb x.p 0) _ t-p in
    let e-n = eqb-true x.n 0 (and_left (eqb x.n 0) _ t-n) in
    let e-m = eqb-true x.m 0 (and_right (eqb x.n 0) _ t-n) in
    λ i. record { a = e-a i; p = e-p i; n = e-n i; m = e-m i }

-- ---- they go on as zero words

none_in : (F : ℕ → Bool) (b : ℕ) → Holds F b 0 → (i : ℕ) → i < 64 → F (b + i) ≡ false
none_in F b h i l = sym (h.at i l) ∙ zero_bit i

-- 64 ticks from k ticks on, of two words in a row without a bit
both-none : (F : ℕ → Bool) (b k r : ℕ) → k ≤ r → r ≤ 64 → Holds F b 0 → ((m : ℕ) → m < r → F (b + 64 + m) ≡ false) → Holds F (b + k) 0
both-none F b k r h l p q = holds-none (λ i s. go i s (leb 64 (k + i)) refl)
  where
    go : (i : ℕ) → i < 64 → (t : Bool) → leb 64 (k + i) ≡ t → F (b + k + i) ≡ false
    go i s true e =
        let z : b + 64 + (k + i - 64) ≡ b + k + i = omega (arith, leb-true 64 (k + i) e) in
        subst (λ (n : ℕ). F n ≡ false) z (q (k + i - 64) (omega (arith, leb-true 64 (k + i) e)))
    go i s false e =
        let z : b + (k + i) ≡ b + k + i = omega arith in
        subst (λ (n : ℕ). F n ≡ false) z (none_in F b p (k + i) (leb-false 64 (k + i) e))

slid_zero : (r : ℕ) → r ≤ 64 → Slid 0 0 r 0
slid_zero r h = record { holds = λ F b p q. both-none F b r r (omega arith) h p (λ m l. sym (q m l) ∙ zero_bit m) }

detected_zero : Detected (record { a = 0; p = 0; n = 0; lead = 0; calm = 0; chain = 0 }) 0 0 0 (record { lead = 0; calm = 0; chain = 0; edge = 0 })
detected_zero = record { holds = λ F g q ha hp hn. skipped (record { a = 0; p = 0; n = 0; lead = 0; calm = 0; chain = 0 }) 0 refl F g q ha }

pub advance-zero : (r : ℕ) → r ≤ 64 → AdvancePost zero_front zero_planes r zero_front
unfolding zero_front zero_planes
advance-zero r h = advance_law zero_front zero_front zero_planes r h (record { a = slid_zero r h; a1 = slid_zero r h; p = slid_zero r h; p1 = slid_zero r h; n = slid_zero r h; n1 = slid_zero r h; l1 = slid_zero r h; k1 = slid_zero r h; h1 = slid_zero r h; e1 = slid_zero r h; e2 = slid_zero r h; e3 = slid_zero r h; m = slid_zero r h; m1 = slid_zero r h; m2 = slid_zero r h; m3 = slid_zero r h; found = detected_zero })

-- ---- the span of zero words

two-words : (F : ℕ → Bool) (b : ℕ) → Holds F b 0 → Holds F (b + 64) 0 → (k : ℕ) → k ≤ 64 → Holds F (b + k) 0
two-words F b p q k h = both-none F b k 64 h (omega arith) p (λ m l. none_in F (b + 64) q m l)

ahead : (F : ℕ → Bool) (b d : ℕ) → Holds F (b + d) 0 → Holds (λ u. F (u + d)) b 0
ahead F b d h = holds-none (λ i l. let z : b + d + i ≡ b + i + d = omega arith in subst (λ (n : ℕ). F n ≡ false) z (none_in F (b + d) h i l))

due-zero : Due 0 0 0
due-zero = record { holds = λ E b p q. two-words E b p q 23 (omega arith) }

later-zero : (d : ℕ) → 105 ≤ d → d ≤ 169 → (E : ℕ → Bool) (b : ℕ) → Holds E (b + 128) 0 → Holds E (b + 192) 0 → Holds (λ u. E (u + d)) (b + 23) 0
later-zero d l h E b p q =
    let z : b + 128 + (d - 105) ≡ b + 23 + d = omega arith in
    let y : b + 192 ≡ b + 128 + 64 = omega arith in
    ahead E (b + 23) d (subst (λ (n : ℕ). Holds E n 0) z (two-words E (b + 128) p (subst (λ (n : ℕ). Holds E n 0) y q) (d - 105) (omega arith)))

unfoldable pub zero_span : Span
zero_span = record { due = 0; at168 = 0; at167 = 0; at169 = 0; main = 0; main168 = 0; main167 = 0; main169 = 0 }

pub span-zero : SpanPost zero_front zero_span
unfolding zero_front zero_span
span-zero =
    span_law zero_front zero_span
    (record {
      due = due-zero;
      at168 = record { holds = later-zero 168 (omega arith) (omega arith) };
      at167 = record { holds = later-zero 167 (omega arith) (omega arith) };
      at169 = refl;
      main = slid_zero 15 (omega arith);
      main168 = slid_zero 55 (omega arith);
      main167 = slid_zero 54 (omega arith);
      main169 = slid_zero 56 (omega arith);
    })

pub top-zero : (r : ℕ) → TopPost 0 r 0
top-zero r = record { below = omega arith; clear = λ i h. zero_bit i; same = λ i h l. refl }
