-- The ticks to visit: where a bracket stands, or an open reply covers an edge. At the others nothing is to be done but to retire.
use Prim.Native.Nat.{ℕ, ◌+◌, ◌-◌, ◌≤◌, ◌<◌}
use native.Mathlib.Omega.{arith}
use mathlib.Core.Path.{◌≡◌, refl, sym, ap, ◌∙◌, subst}
use mathlib.Core.Logic.{◌⊎◌, inl, inr}
use mathlib.Core.Bool.{Bool, true, false, ◌&&◌, ◌||◌, cond}
use mathlib.Core.List.{List, [], ◌∷◌}
use lib.Dec.{leb, ltb}
use lib.ListN.{length}
use borrow.Author.Tests.{leb-true, leb-false}
use Rattle.rules.specs.declared.Reply.{Reply}
use Rattle.rules.specs.declared.Place.{Place}
use Rattle.std.proofs.Common.{None}
use Rattle.rules.specs.Settings.{standard}
use Rattle.rules.specs.Lists.{any, All}
use Rattle.rules.specs.Samples.{Trace}
use Rattle.rules.specs.Replies.{covers}
use Rattle.rules.specs.Machine.{given, bracket_at}
use Rattle.rules.proofs.Truth.{impossible, same_or, and_left, or_left, or_right}
use Rattle.places.specs.Places.{any3, any_in, placed}
use Rattle.places.proofs.Placed.{any-placed}
use Rattle.plane.specs.Words.{bit, Lowest, WithoutLowest}
use Rattle.plane.proofs.BitLaws.{zero_bit}
use Rattle.marking.specs.declared.Words.{Words}
use Rattle.marking.specs.Marks.{four, Marked, any_at, without_word_lem}
use Rattle.marking.proofs.Marking.{any-marked}
use Rattle.span.specs.declared.Span.{Span}
use Rattle.span.specs.Spans.{TopPost, AbovePost, has_bracket_lem}
use Rattle.span.proofs.Spans.{span-bracket, bracket-none}
use Rattle.visits.specs.Visits.{wanted_in, Wanted}
use Rattle.blocks.specs.Steps.{Shows}

-- ---- the ticks that are left

-- All edges before tick `from` of the span are taken; of those behind it, the ones that are not in `todo` are not wanted.
pub record Todo (s : Span) (r : ℕ) (on : Words) (todo from : ℕ) : Type 0 where
  pub most : from ≤ 64
  pub least : 64 ≤ from + r
  pub clear : (j : ℕ) → j < from → bit todo j ≡ false
  pub sub : (j : ℕ) → j < 64 → bit todo j ≡ true → bit s.due j ≡ true
  pub rest : (j : ℕ) → from ≤ j → j < 64 → bit s.due j ≡ true → bit todo j ≡ false → wanted_in s on j ≡ false

module _ (s : Span) (r : ℕ) (on : Words) where
  pub todo_start : (due todo : ℕ) → r ≤ 64 → TopPost s.due r due → Wanted s on due todo → Todo s r on todo (64 - r)
  todo_start due todo h top w =
      record {
        most = omega arith;
        least = omega arith;
        clear = λ j l. w.at j ∙ ap (λ (y : Bool). y && wanted_in s on j) (top.clear j (omega arith));
        sub = λ j l e. go j l (and_left (bit due j) (wanted_in s on j) (sym (w.at j) ∙ e)) (leb 64 (j + r)) refl;
        rest = λ j l m d o. ap (λ (y : Bool). y && wanted_in s on j) (sym (top.same j (omega arith) m ∙ d)) ∙ sym (w.at j) ∙ o;
      }
    where
      go : (j : ℕ) → j < 64 → bit due j ≡ true → (b : Bool) → leb 64 (j + r) ≡ b → bit s.due j ≡ true
      go j l e true q = sym (top.same j (leb-true 64 (j + r) q) l) ∙ e
      go j l e false q = absurd (impossible (sym e ∙ top.clear j (leb-false 64 (j + r) q)))

  module _ (todo from : ℕ) (h : Todo s r on todo from) where
    pub todo_first : (i : ℕ) → Lowest todo i → from ≤ i
    todo_first i k = go (leb from i) refl
      where
        go : (b : Bool) → leb from i ≡ b → from ≤ i
        go true q = leb-true from i q
        go false q = absurd (impossible (sym k.set ∙ h.clear i (leb-false from i q)))

    -- fewer words want no more
    any_left : (k j : ℕ) → any_at on j ≡ false → any_at (without_word_lem k on) j ≡ false
    any_left k j e =
        let a = bit on.a j in
        let b = bit on.b j in
        let c = bit on.c j in
        let d = bit on.d j in
        let e1 = or_right a (any3 b c d) e in
        let e2 = or_right b (c || (d || false)) e1 in
        let e3 = or_right c (d || false) e2 in
        let na = or_left a (any3 b c d) e in
        let nb = or_left b (c || (d || false)) e1 in
        let nc = or_left c (d || false) e2 in
        let nd = or_left d false e3 in
        go (ltb k 1) (ltb k 2) (ltb k 3) na nb nc nd
      where
        pick : (q : Bool) (x y : ℕ) → bit x j ≡ false → bit y j ≡ false → bit (cond q x y) j ≡ false
        pick true x y p o = p
        pick false x y p o = o

        four_off : (a b c d : Bool) → a ≡ false → b ≡ false → c ≡ false → d ≡ false → (a || any3 b c d) ≡ false
        four_off a b c d p q r s = rw (p, q, r, s)

        go : (x y z : Bool) → bit on.a j ≡ false → bit on.b j ≡ false → bit on.c j ≡ false → bit on.d j ≡ false
            → any_at (record { a = cond x on.b on.a; b = cond y on.c on.b; c = cond z on.d on.c; d = 0 }) j ≡ false
        go x y z na nb nc nd =
            four_off (bit (cond x on.b on.a) j) (bit (cond y on.c on.b) j) (bit (cond z on.d on.c) j) (bit 0 j) (pick x on.b on.a nb na) (pick y on.c on.b nc nb)
            (pick z on.d on.c nd nc) (zero_bit j)

    pub todo_left : (k : ℕ) (on' : Words) → on' ≡ without_word_lem k on → Todo s r on' todo from
    todo_left k on' e =
        subst (λ (w : Words). Todo s r w todo from) (sym e)
        (record {
          most = h.most;
          least = h.least;
          clear = h.clear;
          sub = h.sub;
          rest = λ j l m d o.
              let w = h.rest j l m d o in
              let off = any_left k j (or_right (has_bracket_lem s j) (any_at on j) w) in
              ap (λ (y : Bool). y || any_at (without_word_lem k on) j) (or_left (has_bracket_lem s j) (any_at on j) w) ∙ off;
        })

    pub todo_plain : (i todo' : ℕ) → Lowest todo i → WithoutLowest todo todo' → Todo s r on todo' (i + 1)
    todo_plain i todo' k w =
        record {
          most = omega (arith, k.below);
          least = omega (arith, h.least, todo_first i k);
          clear = λ j l. off j (omega arith);
          sub = λ j l e. h.sub j l (sym (w.kept i j k (λ q. impossible (sym e ∙ ap (bit todo') q ∙ w.cleared i k))) ∙ e);
          rest = λ j l m d o. h.rest j (omega (arith, todo_first i k)) m d (sym (w.kept i j k (λ q. omega arith)) ∙ o);
        }
      where
        off : (j : ℕ) → j ≤ i → bit todo' j ≡ false
        off j l = go (same_or j i)
          where
            go : (j ≡ i) ⊎ (j ≡ i → ⊥) → bit todo' j ≡ false
            go (inl q) = ap (bit todo') q ∙ w.cleared i k
            go (inr q) = w.kept i j k q ∙ k.clear j (omega arith)

    pub todo_bracket : (due i a todo' : ℕ) (on' : Words) → TopPost s.due r due → Lowest todo i → AbovePost due i a → Wanted s on' a todo' → Todo s r on' todo' (i + 1)
    todo_bracket due i a todo' on' top k ab w =
        let f = todo_first i k in
        let same : (j : ℕ) → i < j → j < 64 → bit a j ≡ bit s.due j = λ j l m. ab.same j l m ∙ top.same j (omega (arith, f, h.least)) m in
        record {
          most = omega (arith, k.below);
          least = omega (arith, h.least, f);
          clear = λ j l. w.at j ∙ ap (λ (y : Bool). y && wanted_in s on' j) (ab.clear j (omega arith));
          sub = λ j m e.
              let d = and_left (bit a j) (wanted_in s on' j) (sym (w.at j) ∙ e) in
              sym (same j (later j d) m) ∙ d;
          rest = λ j l m d o. ap (λ (y : Bool). y && wanted_in s on' j) (sym (same j (omega arith) m ∙ d)) ∙ sym (w.at j) ∙ o;
        }
      where
        later : (j : ℕ) → bit a j ≡ true → i < j
        later j d = go (leb j i) refl
          where
            go : (b : Bool) → leb j i ≡ b → i < j
            go true q = absurd (impossible (sym d ∙ ab.clear j (leb-true j i q)))
            go false q = leb-false j i q

-- ---- a tick that is not wanted

none_of : (p : Reply → Bool) (l : List Reply) → any p l ≡ false → All (λ r. p r ≡ false) l
none_of p [] h = tt
none_of p (r ∷ l) h = (or_left (p r) (any p l) h, none_of p l (or_right (p r) (any p l) h))

module _ (T : Trace) (s : Span) (t : ℕ) (recent : List ℕ) (base : ℕ) (values : List ℕ) (sh : Shows T t s recent base values) (i u : ℕ) (li : i < 64) (z : t + i ≡ u + 242) where
  pub bracketless : has_bracket_lem s i ≡ false → bracket_at (given standard T) u ≡ None
  bracketless h =
      sym (bracket-none s i u recent base values (has_bracket_lem s i) refl h ∙ span-bracket T s t sh.spanned recent base values sh.reads i u li z)

  pub unwanted : (on : Words) (l : List Place) (m : List Reply) → Marked on i (covers u) l → four l ≡ placed m → length m ≤ 4 → wanted_in s on i ≡ false
      → (bracket_at (given standard T) u ≡ None) × All (λ r. covers u r ≡ false) m
  unwanted on l m k e f h = (
    bracketless (or_left (has_bracket_lem s i) (any_at on i) h),
    none_of (covers u) m (sym (any-placed (covers u) m f) ∙ ap (any_in (covers u)) (sym e) ∙ sym (any-marked on i (covers u) l k) ∙ or_right (has_bracket_lem s i) (any_at on i) h),
  )
