-- A block without flags, after ticks without flags, edges and M, changes nothing while no reply is due.
use Prim.Native.Nat.{ℕ, ◌+◌, ◌-◌, ◌≤◌, ◌<◌}
use native.Mathlib.Omega.{arith}
use mathlib.Core.Path.{◌≡◌, refl, sym, ap, ◌∙◌, subst}
use mathlib.Core.Bool.{Bool, true, false, not, ◌&&◌, ◌||◌}
use mathlib.Core.List.{List}
use lib.Dec.{ltb}
use lib.ListN.{get_or}
use borrow.Author.Tests.{ltb-false, lt-ltb, le-ltb, not-true}
use Rattle.rules.specs.declared.Place.{Place}
use Rattle.rules.specs.declared.Slot.{Slot}
use Rattle.rules.specs.declared.Slot.TheVariants.{Idle, Open}
use Rattle.rules.specs.Replies.{f1, ended}
use Rattle.rules.proofs.Truth.{impossible}
use Rattle.places.specs.Places.{test_slot, test, idle}
use Rattle.packing.specs.declared.Planes.{Planes}
use Rattle.front.specs.declared.words.Front.{Front}
use Rattle.front.specs.Post.{AdvancePost, blank}
use Rattle.span.specs.Spans.{SpanPost}
use Rattle.processor.specs.declared.Progress.{Progress}
use Rattle.blocks.specs.Steps.{flagless, none_due_lem, BlockPost}
use Rattle.processor.specs.Arrays.{machine_at}
use Rattle.blocks.proofs.Working.{Works, end_none, end_works}
use Rattle.blocks.proofs.BlockLaws.{block_law}
use Rattle.blocks.proofs.ZeroWords.{zero_planes, zero_span, blank-zero, flagless-zero, advance-zero, span-zero, top-zero}

-- ---- no reply is due

-- the first reply, if there is one, is open still at the last tick that is worked
pub none-due_late : (p : Place) (t : ℕ) → none_due_lem p t ≡ true → 179 ≤ t → test (ended (t - 179)) p ≡ false
none-due_late p t e l = not-true (test (ended (t - 179)) p) (ap (λ (x : Bool). x || not (test (ended (t - 179)) p)) (sym (le-ltb t 179 l)) ∙ e)

-- and the other way round
pub late_none_due : (p : Place) (t : ℕ) → (179 ≤ t → test (ended (t - 179)) p ≡ false) → none_due_lem p t ≡ true
late_none_due p t h = go (ltb t 179) refl
  where
    go : (c : Bool) → ltb t 179 ≡ c → (c || not (test (ended (t - 179)) p)) ≡ true
    go true e = refl
    go false e = ap not (h (ltb-false t 179 e))

-- how the code finds it: at once, or by the first place
pub none-due_early : (p : Place) (t : ℕ) → t < 179 → true ≡ none_due_lem p t
none-due_early p t h = sym (ap (λ (x : Bool). x || not (test (ended (t - 179)) p)) (lt-ltb t 179 h))

pub none-due_by : (p : Place) (t : ℕ) (r : Bool) → 179 ≤ t → r ≡ test (ended (t - 179)) p → not r ≡ none_due_lem p t
none-due_by p t r h e = ap not e ∙ sym (ap (λ (x : Bool). x || not (test (ended (t - 179)) p)) (le-ltb t 179 h))

-- a reply that is open at v was so at u before
open-before : (u v : ℕ) → u ≤ v → (s : Slot) → test_slot (ended v) s ≡ false → test_slot (ended u) s ≡ false
unfolding ended
open-before u v h Idle e = refl
open-before u v h (Open r) e = le-ltb (f1 r + 205) u (omega (arith, ltb-false (f1 r + 205) v e))

-- what is not due at the end was not due before
pub none-due-before : (p : Place) (s t : ℕ) → s ≤ t → none_due_lem p t ≡ true → none_due_lem p s ≡ true
none-due-before p s t h e = late_none_due p s (λ l. open-before (s - 179) (t - 179) (omega arith) p.slot (none-due_late p t e (omega arith)))

-- a reply is due: it is over
pub due-over : (p : Place) (t : ℕ) → none_due_lem p t ≡ false → (179 ≤ t) × (test (ended (t - 179)) p ≡ true)
due-over p t h = go (ltb t 179) refl (test (ended (t - 179)) p) refl
  where
    go : (a : Bool) → ltb t 179 ≡ a → (b : Bool) → test (ended (t - 179)) p ≡ b → (179 ≤ t) × (test (ended (t - 179)) p ≡ true)
    go true ea b eb = absurd (impossible (sym (ap (λ (x : Bool). x || not (test (ended (t - 179)) p)) ea) ∙ h))
    go false ea true eb = (ltb-false t 179 ea, eb)
    go false ea false eb = absurd (impossible (sym (λ j. ea j || not (eb j)) ∙ h))

-- ---- the tests, taken apart

pub all_three : (x a b c : Bool) → x ≡ (a && (b && c)) → x ≡ true → (a ≡ true) × (b ≡ true) × (c ≡ true)
all_three x a b c e h = go a b c (sym e ∙ h)
  where
    go : (a b c : Bool) → (a && (b && c)) ≡ true → (a ≡ true) × (b ≡ true) × (c ≡ true)
    go true true true k = (refl, refl, refl)
    go true true false k = absurd (impossible (sym k))
    go true false c k = absurd (impossible (sym k))
    go false b c k = absurd (impossible (sym k))

pub both : (a b : Bool) → (a && b) ≡ true → (a ≡ true) × (b ≡ true)
both true true k = (refl, refl)
both true false k = absurd (impossible (sym k))
both false b k = absurd (impossible (sym k))

-- ---- the block

pub stays_law : (o : Progress) (p : Planes) (r t : ℕ) (recent : List ℕ) (base : ℕ) (values b : List ℕ) → r ≤ 64 → flagless p ≡ true → blank o.front ≡ true
    → none_due_lem (get_or o.places 0 idle) t ≡ true → BlockPost o p r t recent base values b o b
unfolding zero_span
stays_law o p r t recent base values b h planes words due =
    let f = blank-zero o.front words in
    let e = flagless-zero p planes in
    let ps = o.places in
    let c = o.counts in
    let m = machine_at o in
    let w : Works m zero_span r t recent base values o.at b m o.at b =
    end_works m zero_span r t recent base values o.at b b ps c o.at (end_none m zero_span r t recent base values o.at b ps c 0 refl h (top-zero r) refl) due in
    block_law o p r t recent base values b o.front zero_span ps c o.at b
    (subst (λ (y : Planes). AdvancePost o.front y r o.front) (sym e) (subst (λ (g : Front). AdvancePost g zero_planes r g) (sym f) (advance-zero r h)))
    (subst (λ (g : Front). SpanPost g zero_span) (sym f) span-zero)
    w
