-- What becomes of a bracket, by the words of ticks and the ticks of F1; and what it is to the counts and the places.
use Prim.Native.Nat.{ℕ}
use mathlib.Core.Logic.{◌⊎◌, inl, inr}
use mathlib.Core.Path.{◌≡◌, refl, sym, ap, ◌∙◌}
use mathlib.Core.Bool.{Bool, true, false, not, ◌&&◌, ◌||◌, cond}
use mathlib.Core.List.{List}
use lib.ListN.{get_or}
use Rattle.std.specs.Prelude.{Option, Some, None}
use Rattle.std.proofs.lemmas.Option.{none-some}
use Rattle.rules.specs.declared.Place.{Place}
use Rattle.rules.specs.declared.Pulse.{Pulse}
use Rattle.rules.specs.declared.Counts.{Counts}
use Rattle.rules.specs.Replies.{covers, is_phantom}
use Rattle.rules.specs.Machine.{fate_by, tally}
use Rattle.replies.specs.Sums.{wrapped}
use Rattle.places.specs.Places.{test, always, idle, any3, any_in, fate_in}
use Rattle.plane.specs.Words.{bit}
use Rattle.marking.specs.declared.Words.{Words}
use Rattle.marking.specs.Marks.{four, Marked, AnyWord, last_of, last_in, last_on}
use Rattle.marking.proofs.Marking.{any-marked, last-marked}
use Rattle.firsts.specs.declared.Firsts.{Firsts}
use Rattle.firsts.specs.Ticks.{AnyHidesPost}
use Rattle.outcomes.specs.declared.Outcome.{Outcome}
use Rattle.outcomes.specs.declared.Outcome.TheVariants.{Sidelobe as Aside, Removes, Garbled as Garbles, Lost as Loses, Opens as Opening}
use Rattle.outcomes.specs.Outcomes.{outcome_by, clear_in, removed_by, OutcomePost, is_opening, is_opens, counted_by}

-- none of four is marked where none is the last
pub none_last : (a b c d : Bool) → last_of a b c d ≡ None → (a || any3 b c d) ≡ false
none_last a b c true h = absurd (none-some 3 (sym h))
none_last a b true false h = absurd (none-some 2 (sym h))
none_last a true false false h = absurd (none-some 1 (sym h))
none_last true false false false h = absurd (none-some 0 (sym h))
none_last false false false false h = refl

-- ---- the outcome, as the code finds it

module _ (f : Firsts) (on risk : Words) (i : ℕ) (e : Pulse) (w : ℕ) (main busy : Bool) where
  pub outcome_side : (e.main || main) ≡ false → OutcomePost f on risk i e w main busy Aside
  outcome_side h =
      record { last = λ k j. absurd (none-some k (ap removed_by j)); at = λ l ef early mo mr. sym (rw h) }

  module _ (h : (e.main || main) ≡ true) where
    pub outcome_removes : (k : ℕ) → Some k ≡ last_in risk i → OutcomePost f on risk i e w main busy (Removes k)
    outcome_removes k ek =
        record {
          last = λ j ej. sym ek ∙ ap removed_by ej;
          at = λ l ef early mo mr.
              let el : last_on (is_phantom e.tick.0) l ≡ Some k = sym (last-marked risk i (is_phantom e.tick.0) l mr) ∙ sym ek in
              sym (rw (h, el));
        }

    pub rest-stays : (clear full : Bool) (k : ℕ) → cond clear (cond full Loses Opening) Garbles ≡ Removes k → ⊥
    rest-stays true true k j = none-some k (ap removed_by j)
    rest-stays true false k j = none-some k (ap removed_by j)
    rest-stays false full k j = none-some k (ap removed_by j)

    -- no potential phantom stands at the bracket; z is the word of all that cover, hid says that an open reply covers F2
    pub outcome_rest : (z : ℕ) (n hid clear full : Bool) → None ≡ last_in risk i → AnyWord on z → n ≡ bit z i → AnyHidesPost f w hid
        → ((e.main && not n) || (main && not hid)) ≡ clear → busy ≡ full → OutcomePost f on risk i e w main busy (cond clear (cond full Loses Opening) Garbles)
    outcome_rest z n hid clear full t az en ph ec eb =
        record {
          last = λ k j. absurd (rest-stays clear full k j);
          at = λ l ef early mo mr.
              let cn : n ≡ any_in (covers e.tick.0) (four l) = en ∙ az.at i ∙ any-marked on i (covers e.tick.0) l mo in
              let ch : hid ≡ any_in (covers w) (four l) = ph.at l early ef in
              let cl : clear ≡ clear_in e w main l = sym ec ∙ (λ j. (e.main && not (cn j)) || (main && not (ch j))) in
              let el : last_on (is_phantom e.tick.0) l ≡ None = sym (last-marked risk i (is_phantom e.tick.0) l mr) ∙ sym t in
              (λ j. cond (cl j) (cond (sym eb j) Loses Opening) Garbles) ∙ sym (rw (h, el));
        }

-- ---- what it is to the counts and the places

-- where no phantom goes, the outcome is the bracket's fate
pub fate_as : (main clear busy : Bool) (k : Option ℕ) → (main ≡ true → k ≡ None) → (c : Counts) → counted_by (outcome_by main k clear busy) c ≡ tally wrapped (fate_by main clear busy) 0 c
fate_as false clear busy k h c = refl
fate_as true clear busy k h c = ap (λ (o : Option ℕ). counted_by (outcome_by true o clear busy) c) (h refl) ∙ go clear busy
  where
    go : (clear busy : Bool) → counted_by (outcome_by true None clear busy) c ≡ tally wrapped (fate_by true clear busy) 0 c
    go true true = refl
    go true false = refl
    go false busy = refl

pub opens_as : (main clear busy : Bool) (k : Option ℕ) → (main ≡ true → k ≡ None) → is_opening (outcome_by main k clear busy) ≡ is_opens (fate_by main clear busy)
opens_as false clear busy k h = refl
opens_as true clear busy k h = ap (λ (o : Option ℕ). is_opening (outcome_by true o clear busy)) (h refl) ∙ go clear busy
  where
    go : (clear busy : Bool) → is_opening (outcome_by true None clear busy) ≡ is_opens (fate_by true clear busy)
    go true true = refl
    go true false = refl
    go false busy = refl

-- where one goes, a framing pulse has M, and it is the last
pub removes_as : (main clear busy : Bool) (o : Option ℕ) (k : ℕ) → outcome_by main o clear busy ≡ Removes k → (main ≡ true) × (o ≡ Some k)
removes_as false clear busy o k h = absurd (none-some k (ap removed_by h))
removes_as true clear busy (Some j) k h = (refl, ap removed_by h)
removes_as true true true None k h = absurd (none-some k (ap removed_by h))
removes_as true true false None k h = absurd (none-some k (ap removed_by h))
removes_as true false busy None k h = absurd (none-some k (ap removed_by h))

-- where none goes, none is the last
pub stays_as : (clear busy : Bool) (o : Option ℕ) → removed_by (outcome_by true o clear busy) ≡ None → o ≡ None
stays_as clear busy None h = refl
stays_as clear busy (Some k) h = absurd (none-some k (sym h))

-- an outcome that leaves the places as they are
pub leaves_places : (y : Outcome) → (y ≡ Aside) ⊎ ((y ≡ Garbles) ⊎ (y ≡ Loses)) → (removed_by y ≡ None) × (is_opening y ≡ false)
leaves_places y (inl e) = (ap removed_by e, ap is_opening e)
leaves_places y (inr (inl e)) = (ap removed_by e, ap is_opening e)
leaves_places y (inr (inr e)) = (ap removed_by e, ap is_opening e)

-- the fate is that of the four places
pub fate-in : (e f2 : Pulse) (l : List Place) → fate_by (e.main || f2.main) (clear_in e f2.tick.0 f2.main l) (test always (get_or l 3 idle)) ≡ fate_in e f2 (four l)
unfolding fate_in
fate-in e f2 l = refl
