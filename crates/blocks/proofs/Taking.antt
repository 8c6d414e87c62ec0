-- A bracket that removes no phantom, and the edge after it, on the places and their words of ticks: what the rules make of the machine.
use Prim.Native.Nat.{ℕ, zero, suc, ◌+◌, ◌≤◌, ◌<◌}
use native.Mathlib.Omega.{arith}
use mathlib.Core.Logic.{◌⊎◌, inl, inr}
use mathlib.Core.Path.{◌≡◌, refl, sym, ap, ◌∙◌, subst}
use mathlib.Core.Bool.{Bool, true, false, not, ◌&&◌, ◌||◌, cond}
use mathlib.Core.List.{List, [], ◌∷◌}
use lib.ListN.{length, get_or, set, length-set}
use Rattle.std.specs.Prelude.{None}
use Rattle.rules.specs.declared.Reply.{Reply}
use Rattle.rules.specs.declared.Slot.{Slot}
use Rattle.rules.specs.declared.Slot.TheVariants.{Idle, Open}
use Rattle.rules.specs.declared.Place.{Place}
use Rattle.places.specs.Four.{Places}
use Rattle.rules.specs.declared.Pulse.{Pulse}
use Rattle.rules.specs.declared.Counts.{Counts}
use Rattle.std.proofs.Common.{Option, Some, None}
use Rattle.rules.specs.declared.Fate.{Fate}
use Rattle.rules.specs.declared.Fate.TheVariants.{Sidelobe, Garbled, Lost, Opens}
use Rattle.rules.specs.Lists.{All}
use Rattle.rules.specs.Replies.{f1, position, covers, is_phantom, hear, takes, heard_at, verdict, agrees}
use Rattle.rules.specs.Machine.{opened_by_lem, fate_by, tally}
use Rattle.rules.specs.Settings.{standard}
use Rattle.rules.proofs.Truth.{impossible, or_left, or_right}
use Rattle.replies.specs.Sums.{wrapped}
use Rattle.places.specs.Places.{test, test_slot, always, idle, any3, any_in, count_in_lem, without_in, without_by, pushed, places_after, hear_slot, dealt, opened_in, fate_in, bracket_on, step_on, place_at, placed}
use Rattle.masks.specs.Masks.{covers_from, phantom_from, CoverMask, PhantomMask}
use Rattle.marking.specs.declared.Words.{Words}
use Rattle.marking.specs.Marks.{four, Marked, AllMarked, with_word_lem, last_on}
use Rattle.marking.proofs.Marking.{with_marked}
use Rattle.firsts.specs.declared.Firsts.{Firsts}
use Rattle.outcomes.specs.declared.Outcome.{Outcome}
use Rattle.firsts.specs.Ticks.{firsts_of_lem, Early, AllEarly, BusyPost, OpenedPost, FreePost, free_on}
use Rattle.outcomes.specs.Outcomes.{outcome_by, clear_in, OutcomePost, removed_by, is_opening, counted_by, is_opens}
use Rattle.outcomes.proofs.Outcomes.{none_last, fate_as, opens_as, stays_as, fate-in}
use Rattle.settling.specs.Deals.{DealPost}
use Rattle.processor.specs.Arrays.{machine_in}

-- the bracket removes none of the places: none is a phantom, or neither framing pulse has M
abbrev pub Spares : Pulse → Pulse → List Place → Type 0
Spares e f2 l = (any_in (is_phantom e.tick.0) (four l) ≡ false) ⊎ ((e.main || f2.main) ≡ false)

-- ---- a reply opens

push_law : (l : List Place) (r : Reply) → length l ≡ 4 → test always (get_or l 3 idle) ≡ false → four (set l (free_on l) (record { slot = Open r })) ≡ pushed r (four l)
unfolding pushed
push_law (a ∷ b ∷ c ∷ d ∷ []) r s h = go (test always a) refl (test always b) refl (test always c) refl
  where
    go : (x : Bool) → test always a ≡ x → (y : Bool) → test always b ≡ y → (z : Bool) → test always c ≡ z
        → four (set (a ∷ b ∷ c ∷ d ∷ []) (free_on (a ∷ b ∷ c ∷ d ∷ [])) (record { slot = Open r })) ≡ pushed r (four (a ∷ b ∷ c ∷ d ∷ []))
    go false ea y eb z ec = rw ea
    go true ea false eb z ec = rw (ea, eb)
    go true ea true eb false ec = rw (ea, eb, ec)
    go true ea true eb true ec = rw (ea, eb, ec, h)
push_law [] r s h = absurd (omega arith)
push_law (a ∷ []) r s h = absurd (omega arith)
push_law (a ∷ b ∷ []) r s h = absurd (omega arith)
push_law (a ∷ b ∷ c ∷ []) r s h = absurd (omega arith)
push_law (a ∷ b ∷ c ∷ d ∷ e ∷ l) r s h = absurd (omega arith)

-- ---- a bracket that removes none

none_in : (p : Reply → Bool) (f : Places) → any_in p f ≡ false → (without_in p f ≡ f) × (count_in_lem p f ≡ 0)
unfolding without_by
none_in p f h =
    let t = test p in
    let h₁ = or_right (t f.p0) (any3 (t f.p1) (t f.p2) (t f.p3)) h in
    let h₂ = or_right (t f.p1) (t f.p2 || (t f.p3 || false)) h₁ in
    let h₃ = or_right (t f.p2) (t f.p3 || false) h₂ in
    let a = or_left (t f.p0) (any3 (t f.p1) (t f.p2) (t f.p3)) h in
    let b = or_left (t f.p1) (t f.p2 || (t f.p3 || false)) h₁ in
    let c = or_left (t f.p2) (t f.p3 || false) h₂ in
    let d = or_left (t f.p3) false h₃ in
    (rw (a, b, c, d), rw (a, b, c, d))

side_by : (e f2 : Pulse) → (e.main || f2.main) ≡ false → (f : Places) → fate_in e f2 f ≡ Sidelobe
unfolding fate_in
side_by e f2 h f = rw h

spared : (e f2 : Pulse) (l : List Place) (c : Counts) → Spares e f2 l
    → bracket_on wrapped e f2 (machine_in l c) ≡ record { places = places_after (fate_in e f2 (four l)) (four l) (four l) (opened_in e f2 (four l)); counts = tally wrapped (fate_in e f2 (four l)) 0 c }
unfolding bracket_on
spared e f2 l c (inl h) =
    let n = none_in (is_phantom e.tick.0) (four l) h in
    λ i. record {
      places = places_after (fate_in e f2 (n.0 i)) (four l) (n.0 i) (opened_in e f2 (n.0 i));
      counts = tally wrapped (fate_in e f2 (n.0 i)) (n.1 i) c;
    }
spared e f2 l c (inr h) =
    let ks = without_in (is_phantom e.tick.0) (four l) in
    let a = side_by e f2 h ks in
    let b = side_by e f2 h (four l) in
    (λ i. record { places = places_after (a i) (four l) ks (opened_in e f2 ks); counts = tally wrapped (a i) (count_in_lem (is_phantom e.tick.0) (four l)) c })
    ∙ sym (λ i. record { places = places_after (b i) (four l) (four l) (opened_in e f2 (four l)); counts = tally wrapped (b i) 0 c })

-- ---- what the fate makes of the places

shut : (x : Fate) (f : Places) (r : Reply) → is_opens x ≡ false → places_after x f f r ≡ f
shut Sidelobe f r h = refl
shut Garbled f r h = refl
shut Lost f r h = refl
shut Opens f r h = absurd (impossible h)

is-opens : (x : Fate) → is_opens x ≡ true → x ≡ Opens
is-opens Sidelobe h = absurd (impossible (sym h))
is-opens Garbled h = absurd (impossible (sym h))
is-opens Lost h = absurd (impossible (sym h))
is-opens Opens h = refl

room_by : (a b c : Bool) → is_opens (fate_by a b c) ≡ true → c ≡ false
room_by false b c h = absurd (impossible (sym h))
room_by true false c h = absurd (impossible (sym h))
room_by true true true h = absurd (impossible (sym h))
room_by true true false h = refl

room : (e f2 : Pulse) (f : Places) → is_opens (fate_in e f2 f) ≡ true → test always f.p3 ≡ false
unfolding fate_in
room e f2 f h =
    room_by (e.main || f2.main) ((e.main && not (any_in (covers e.tick.0) f)) || (f2.main && not (any_in (covers f2.tick.0) f))) (test always f.p3) h

opened-tick : (e f2 : Pulse) (f : Places) → f1 (opened_in e f2 f) ≡ e.tick.0
unfolding opened_in opened_by_lem
opened-tick e f2 f = refl

covers_by : (u : ℕ) (r : Reply) → covers_from (f1 r) u ≡ covers u r
unfolding covers covers_from
covers_by u r = refl

phantom_by : (u : ℕ) (r : Reply) → phantom_from r.marks.suspect (f1 r) u ≡ is_phantom u r
unfolding is_phantom phantom_from
phantom_by u r = refl

-- ---- the bracket

-- what the bracket makes of the places l, their words and the counts
pub record Bracketed (l : List Place) (on risk : Words) (c : Counts) (i : ℕ) (e f2 : Pulse) (m : List Place) (on' risk' : Words) (c' : Counts) : Type 0 where
  pub size : length m ≡ length l
  pub at : (t : ℕ) → AllMarked t on risk l → t + i ≡ e.tick.0 + 242 → AllEarly f2.tick.0 l
      → AllMarked t on' risk' m × (machine_in m c' ≡ bracket_on wrapped e f2 (machine_in l c))

module _ (l : List Place) (on risk : Words) (c : Counts) (i : ℕ) (e f2 : Pulse) (s : length l ≡ 4) (li : i < 64) (lw : f2.tick.0 < 4294967296) (f : Firsts) (ef : f ≡ firsts_of_lem l) (busy : Bool) (bp : BusyPost f busy)
    (y : Outcome) (op : OutcomePost f on risk i e f2.tick.0 f2.main busy y) (stay : removed_by y ≡ None) (n : Counts) (en : n ≡ counted_by y c) where
  -- the outcome is the fate of the rules, and no phantom is left
  record Fated : Type 0 where
    counts : n ≡ tally wrapped (fate_in e f2 (four l)) 0 c
    opening : is_opening y ≡ is_opens (fate_in e f2 (four l))
    spares : Spares e f2 l

  fated : (t : ℕ) → AllMarked t on risk l → t + i ≡ e.tick.0 + 242 → AllEarly f2.tick.0 l → Fated
  fated t h z early =
      let u = e.tick.0 in
      let p = is_phantom u in
      let K = last_on p l in
      let main = e.main || f2.main in
      let clear = clear_in e f2.tick.0 f2.main l in
      let is : y ≡ outcome_by main K clear busy = op.at l ef early (h.cover i u li z) (h.phantom i u li z) in
      let b : busy ≡ test always (get_or l 3 idle) = bp.at l f2.tick.0 lw early ef in
      let none : main ≡ true → K ≡ None = λ m. stays_as clear busy K (sym (ap removed_by (is ∙ ap (λ (b : Bool). outcome_by b K clear busy) m)) ∙ stay) in
      let F : fate_by main clear busy ≡ fate_in e f2 (four l) = ap (fate_by main clear) b ∙ fate-in e f2 l in
      record {
        counts = en ∙ ap (λ (x : Outcome). counted_by x c) is ∙ fate_as main clear busy K none c ∙ ap (λ (x : Fate). tally wrapped x 0 c) F;
        opening = ap is_opening is ∙ opens_as main clear busy K none ∙ ap is_opens F;
        spares = spare none main refl;
      }
    where
      spare : ((e.main || f2.main) ≡ true → last_on (is_phantom e.tick.0) l ≡ None) → (m : Bool) → (e.main || f2.main) ≡ m → Spares e f2 l
      spare none false em = inr em
      spare none true em =
          inl
          (none_last (test (is_phantom e.tick.0) (get_or l 0 idle)) (test (is_phantom e.tick.0) (get_or l 1 idle)) (test (is_phantom e.tick.0) (get_or l 2 idle))
          (test (is_phantom e.tick.0) (get_or l 3 idle)) (none em))

  -- no reply opens
  pub bracketed_shut : is_opening y ≡ false → Bracketed l on risk c i e f2 l on risk n
  bracketed_shut ho =
      record {
        size = refl;
        at = λ t h z early.
            let g = fated t h z early in
            let p : four l ≡ places_after (fate_in e f2 (four l)) (four l) (four l) (opened_in e f2 (four l)) =
            sym (shut (fate_in e f2 (four l)) (four l) (opened_in e f2 (four l)) (sym g.opening ∙ ho)) in
            (h, (λ a. record { places = p a; counts = g.counts a }) ∙ sym (spared e f2 l c g.spares));
      }

  -- one opens
  pub bracketed_opens : is_opening y ≡ true → (r : Reply) → OpenedPost f on i e f2 r → (j : ℕ) → FreePost f j → j < 4 → (cv ph : ℕ) → ((q t : ℕ) → t + i ≡ q + 242 → CoverMask q t cv)
      → ((q t : ℕ) → t + i ≡ q + 242 → PhantomMask q r.marks.suspect t ph) → (on' risk' : Words) → on' ≡ with_word_lem j cv on → risk' ≡ with_word_lem j ph risk
      → (m : List Place) → m ≡ set l j (record { slot = Open r }) → Bracketed l on risk c i e f2 m on' risk' n
  bracketed_opens ho r opened j fr lj cv ph mc mp on' risk' eon erisk m em =
      record {
        size = ap (length {A = Place}) em ∙ length-set l j (record { slot = Open r });
        at = λ t h z early.
            let g = fated t h z early in
            let there : is_opens (fate_in e f2 (four l)) ≡ true = sym g.opening ∙ ho in
            let er : r ≡ opened_in e f2 (four l) = opened.at l (h.cover i e.tick.0 li z) ef in
            let tick : f1 r ≡ e.tick.0 = ap f1 er ∙ opened-tick e f2 (four l) in
            let z' : t + i ≡ f1 r + 242 = omega (arith, z, tick) in
            let ej = fr.at l f2.tick.0 lw early ef in
            let x : Place = record { slot = Open r } in
            let pushes =
            ap four em ∙ ap (λ (q : ℕ). four (set l q x)) ej ∙ push_law l r s (room e f2 (four l) there) ∙ ap (λ (q : Reply). pushed q (four l)) er in
            let isO = is-opens (fate_in e f2 (four l)) there in
            let p : four m ≡ places_after (fate_in e f2 (four l)) (four l) (four l) (opened_in e f2 (four l)) =
            pushes ∙ sym (ap (λ (w : Fate). places_after w (four l) (four l) (opened_in e f2 (four l))) isO) in (
              subst (AllMarked t on' risk') (sym em)
                  (record {
                    cover = λ a u la w.
                        subst (λ (v : Words). Marked v a (covers u) (set l j x)) (sym eon)
                        (with_marked on a (covers u) l (h.cover a u la w) s j cv x lj ((mc (f1 r) t z').at a u la w ∙ covers_by u r));
                    phantom = λ a u la w.
                        subst (λ (v : Words). Marked v a (is_phantom u) (set l j x)) (sym erisk)
                        (with_marked risk a (is_phantom u) l (h.phantom a u la w) s j ph x lj ((mp (f1 r) t z').at a u la w ∙ phantom_by u r));
                  }),
              (λ a. record { places = p a; counts = g.counts a }) ∙ sym (spared e f2 l c g.spares),
            );
      }

-- ---- an edge leaves F1 and the marks

covers-hear : (v : ℕ) (e : Pulse) (o : Bool) (r : Reply) → covers v (hear wrapped standard e o r) ≡ covers v r
unfolding covers hear
covers-hear v e o r = go (takes (position (f1 r) e.tick.0) r.word.settled)
  where
    go : (b : Bool) → covers v (cond b (heard_at wrapped (position (f1 r) e.tick.0) e (verdict e.main (agrees standard e.value r) o) r) r) ≡ covers v r
    go true = refl
    go false = refl

phantom-hear : (v : ℕ) (e : Pulse) (o : Bool) (r : Reply) → is_phantom v (hear wrapped standard e o r) ≡ is_phantom v r
unfolding is_phantom hear
phantom-hear v e o r = go (takes (position (f1 r) e.tick.0) r.word.settled)
  where
    go : (b : Bool) → is_phantom v (cond b (heard_at wrapped (position (f1 r) e.tick.0) e (verdict e.main (agrees standard e.value r) o) r) r) ≡ is_phantom v r
    go true = refl
    go false = refl

module _ (p : Reply → Bool) (e : Pulse) (same : (o : Bool) (r : Reply) → p (hear wrapped standard e o r) ≡ p r) where
  slot_same : (o : Bool) (s : Slot) → test_slot p (hear_slot wrapped standard e o s) ≡ test_slot p s
  slot_same o Idle = refl
  slot_same o (Open r) = same o r

  dealt-marked : (w : Words) (i : ℕ) (l m : List Place) → four m ≡ dealt wrapped standard e (four l) → Marked w i p l → Marked w i p m
  unfolding dealt
  dealt-marked w i l m h k =
      record {
        a = k.a ∙ sym (ap (λ (z : Places). test p z.p0) h ∙ slot_same _ (get_or l 0 idle).slot);
        b = k.b ∙ sym (ap (λ (z : Places). test p z.p1) h ∙ slot_same _ (get_or l 1 idle).slot);
        c = k.c ∙ sym (ap (λ (z : Places). test p z.p2) h ∙ slot_same _ (get_or l 2 idle).slot);
        d = k.d ∙ sym (ap (λ (z : Places). test p z.p3) h ∙ slot_same _ (get_or l 3 idle).slot);
      }

all-dealt : (e : Pulse) (t : ℕ) (on risk : Words) (l m : List Place) → four m ≡ dealt wrapped standard e (four l) → AllMarked t on risk l → AllMarked t on risk m
all-dealt e t on risk l m h k =
    record {
      cover = λ i u li z. dealt-marked (covers u) e (covers-hear u e) on i l m h (k.cover i u li z);
      phantom = λ i u li z. dealt-marked (is_phantom u) e (phantom-hear u e) risk i l m h (k.phantom i u li z);
    }

-- ---- early enough for the bracket

in_slot : Reply → Slot → Reply
in_slot d Idle = d
in_slot d (Open r) = r

idle_early : (w : ℕ) → Early w idle
idle_early w = record { at = λ r h. absurd (impossible (sym (ap (test_slot always) h))) }

early_at : (w : ℕ) (s : List Reply) (j : ℕ) → All (λ r. f1 r + 167 ≤ w) s → Early w (place_at j s)
unfolding in_slot
early_at w [] j h = idle_early w
early_at w (r ∷ s) zero h = record { at = λ q e. subst (λ (z : Reply). f1 z + 167 ≤ w) (ap (in_slot r) e) h.0 }
early_at w (r ∷ s) (suc j) h = early_at w s j h.1

pub all_early : (w : ℕ) (l : List Place) (s : List Reply) → four l ≡ placed s → All (λ r. f1 r + 167 ≤ w) s → AllEarly w l
all_early w l s e h =
    record {
      a = subst (Early w) (λ i. (sym e i).p0) (early_at w s 0 h);
      b = subst (Early w) (λ i. (sym e i).p1) (early_at w s 1 h);
      c = subst (Early w) (λ i. (sym e i).p2) (early_at w s 2 h);
      d = subst (Early w) (λ i. (sym e i).p3) (early_at w s 3 h);
    }

-- ---- the edge

-- the places and the words at the edge e, where the bracket b stands, if one does
abbrev pub Ready : Option Pulse → List Place → Type 0
Ready None l = Unit {0}
Ready (Some f2) l = AllEarly f2.tick.0 l

pub record Visited (l : List Place) (on risk : Words) (c : Counts) (i : ℕ) (e : Pulse) (b : Option Pulse) (m : List Place) (on' risk' : Words) (c' : Counts) : Type 0 where
  pub at : (t : ℕ) → AllMarked t on risk l → t + i ≡ e.tick.0 + 242 → Ready b l
      → AllMarked t on' risk' m × (machine_in m c' ≡ step_on wrapped standard e b (machine_in l c))

pub visited_plain : (l : List Place) (on risk : Words) (c : Counts) (i : ℕ) (e : Pulse) (b : Option Pulse) (m : List Place) → i < 64 → b ≡ None → DealPost l on i e m
    → Visited l on risk c i e b m on risk c
unfolding step_on
visited_plain l on risk c i e b m li eb d =
    record {
      at = λ t k z ready.
          let h = d.at (k.cover i e.tick.0 li z) in
          (all-dealt e t on risk l m h k, (λ a. record { places = h a; counts = c }) ∙ ap (λ (w : Option Pulse). step_on wrapped standard e w (machine_in l c)) (sym eb));
    }

pub visited_bracketed : (l : List Place) (on risk : Words) (c : Counts) (i : ℕ) (e : Pulse) (b : Option Pulse) (f2 : Pulse) (l₁ : List Place) (on' risk' : Words) (c' : Counts) (m : List Place) → i < 64
    → b ≡ Some f2 → Bracketed l on risk c i e f2 l₁ on' risk' c' → DealPost l₁ on' i e m → Visited l on risk c i e b m on' risk' c'
unfolding step_on
visited_bracketed l on risk c i e b f2 l₁ on' risk' c' m li eb fp d =
    record {
      at = λ t k z ready.
          let g = fp.at t k z (subst (λ (w : Option Pulse). Ready w l) eb ready) in
          let h = d.at (g.0.cover i e.tick.0 li z) in (
            all-dealt e t on' risk' l₁ m h g.0,
            (λ a. record { places = (h ∙ (λ j. dealt wrapped standard e (g.1 j).places)) a; counts = (g.1 a).counts })
                ∙ ap (λ (w : Option Pulse). step_on wrapped standard e w (machine_in l c)) (sym eb),
          );
    }

pub bracketed_as : (l : List Place) (on risk : Words) (c : Counts) (i : ℕ) (e f2 : Pulse) (m m' : List Place) (on' on'' risk' risk'' : Words) (n : Counts) → Bracketed l on risk c i e f2 m on' risk' n → m' ≡ m
    → on'' ≡ on' → risk'' ≡ risk' → Bracketed l on risk c i e f2 m' on'' risk'' n
bracketed_as l on risk c i e f2 m m' on' on'' risk' risk'' n h em eo er =
    subst (λ (p : List Place). Bracketed l on risk c i e f2 p on'' risk'' n) (sym em)
    (subst (λ (v : Words). Bracketed l on risk c i e f2 m v risk'' n) (sym eo) (subst (λ (v : Words). Bracketed l on risk c i e f2 m on' v n) (sym er) h))
