-- A place agrees with a value if its reply's reference is near it; an idle one never does.
use Prim.Native.Nat.{ℕ}
use mathlib.Core.Path.{◌≡◌, refl, sym, ap, ◌∙◌}
use mathlib.Core.Bool.{Bool, true, false, ◌&&◌}
use mathlib.Core.List.{List, [], ◌∷◌}
use Rattle.rules.specs.declared.Reply.{Reply}
use Rattle.rules.specs.declared.Slot.TheVariants.{Idle, Open}
use Rattle.rules.specs.declared.Place.{Place}
use Rattle.rules.specs.Settings.{standard}
use Rattle.rules.specs.Replies.{near, level, agrees}
use Rattle.places.specs.Places.{test, test_slot}
use Rattle.agreement.specs.declared.Agreement.{Agreement}
use Rattle.agreement.specs.Voices.{voices_by, others_of, agreement_by}

pub speaks-idle : (c : Bool) (q : Reply → Bool) (p : Place) → p.slot ≡ Idle → false ≡ (c && test q p)
speaks-idle true q p h = sym (ap (test_slot q) h)
speaks-idle false q p h = refl

pub speaks-open : (c : Bool) (v : ℕ) (p : Place) (r : Reply) → p.slot ≡ Open r → (n : Bool) → n ≡ near standard.window (level r.reference.estimate) v
    → (c && n) ≡ (c && test (agrees standard v) p)
unfolding agrees
speaks-open c v p r h n e = ap (λ (b : Bool). c && b) (e ∙ sym (ap (test_slot (agrees standard v)) h))

-- ---- the four

pub four-alike : {a b c d a' b' c' d' : Bool} → a ≡ a' → b ≡ b' → c ≡ c' → d ≡ d' → ◌≡◌ {A = List Bool} (a ∷ b ∷ c ∷ d ∷ []) (a' ∷ b' ∷ c' ∷ d' ∷ [])
four-alike ea eb ec ed = λ i. ea i ∷ eb i ∷ ec i ∷ ed i ∷ []

pub agreement_as : (v : ℕ) (l : List Place) (covers own other c : List Bool) → covers ≡ c → own ≡ voices_by v covers l → other ≡ others_of own
    → ◌≡◌ {A = Agreement} (record { covers = covers; own = own; other = other }) (agreement_by v c l)
agreement_as v l covers own other c ec ev eo =
    (λ i. record { covers = covers; own = ev i; other = (eo ∙ ap others_of ev) i }) ∙ ap (λ (x : List Bool). agreement_by v x l) ec
