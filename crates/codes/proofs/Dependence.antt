-- When a reading is unsure, and which pulses it depends on: each answer is a function of the digits of these pulses.
use Prim.Native.Nat.{ℕ, ◌+◌, ◌*◌}
use mathlib.Core.Logic.{◌↔◌}
use mathlib.Core.Path.{◌≡◌, refl, sym, ◌∙◌}
use mathlib.Core.Bool.{Bool, true, false, cond, ◌||◌}
use mathlib.Core.List.{List, ◌∷◌}
use Rattle.std.specs.Prelude.{Option, Some, None, Result, Ok, Err}
use lib.Dec.{eqb}
use lib.IntN.{ℤ}
use lib.ListN.{get_or, take, drop}
use lib.Signed.{lt_z}
use Rattle.rules.specs.Lists.{any}
use Rattle.codes.specs.Pulses.{D1, digits_at, any_clear}
use Rattle.codes.specs.Gray.{gray}
use Rattle.codes.specs.declared.Unread.{Unread}
use Rattle.codes.specs.declared.Unread.TheVariants.{Unsure, NoAltitude}
use Rattle.codes.specs.declared.Squawk.{Squawk}
use Rattle.codes.specs.Altitude.{eleven, five_hundreds_lem, hundreds, steps_by, steps, feet_at_lem, lowest, has_none, altitude}
use Rattle.codes.specs.Identity.{twelve, identity}
use Rattle.codes.specs.Depends.{UnsureExactly, Depends}

-- ---- unsure

altitude-unsure : (u b : Bool) (z : ℤ) → (cond u (Err Unsure) (cond b (Err NoAltitude) (Ok z)) ≡ Err Unsure) ↔ (u ≡ true)
altitude-unsure true b z = ((λ q. refl), (λ q. refl))
altitude-unsure false true z = ((λ q. cc), (λ q. cc))
altitude-unsure false false z = ((λ q. cc), (λ q. cc))

identity-unsure : (u : Bool) (s : Squawk) → (cond u None (Some s) ≡ None) ↔ (u ≡ true)
identity-unsure true s = ((λ q. refl), (λ q. refl))
identity-unsure false s = ((λ q. cc), (λ q. cc))

pub unsure_exactly : UnsureExactly
unfolding altitude identity
unsure_exactly =
    record {
      of-altitude = λ code confidence. altitude-unsure (any_clear eleven confidence) (has_none code) (feet_at_lem (steps code));
      of-identity = λ code confidence. identity-unsure (any_clear twelve confidence) _;
    }

-- ---- an answer as a function of the digits

any_zero : List ℕ → Bool
any_zero ds = any (λ d. eqb d 0) ds

-- D1 and the eleven
altitude_by_lem : List ℕ → List ℕ → Result ℤ Unread
unfolding any_zero
altitude_by_lem ds cs =
    let h = hundreds (4 * get_or ds 9 0 + 2 * get_or ds 10 0 + get_or ds 11 0) in
    let s = steps_by (gray (take 8 (drop 1 ds))) h in
    cond (any_zero cs) (Err Unsure) (cond (eqb h 0 || (eqb (get_or ds 0 0) 1 || lt_z (feet_at_lem s) lowest)) (Err NoAltitude) (Ok (feet_at_lem s)))

altitude_by : (code confidence : ℕ) → altitude code confidence ≡ altitude_by_lem (digits_at (D1 ∷ eleven) code) (digits_at eleven confidence)
unfolding altitude has_none steps five_hundreds_lem altitude_by_lem any_zero
altitude_by code confidence = refl

identity_by_lem : List ℕ → List ℕ → Option Squawk
unfolding any_zero
identity_by_lem ds cs =
    let octal : ℕ → ℕ = λ i. 4 * get_or ds i 0 + 2 * get_or ds (i + 1) 0 + get_or ds (i + 2) 0 in
    cond (any_zero cs) None (Some (record { a = octal 0; b = octal 3; c = octal 6; d = octal 9 }))

identity_by : (code confidence : ℕ) → identity code confidence ≡ identity_by_lem (digits_at twelve code) (digits_at twelve confidence)
unfolding identity identity_by_lem any_zero
identity_by code confidence = refl

pub depends : Depends
depends =
    record {
      of-altitude = λ code code' confidence confidence' d c. altitude_by code confidence ∙ (λ i. altitude_by_lem (d i) (c i)) ∙ sym (altitude_by code' confidence');
      of-identity = λ code code' confidence confidence' d c. identity_by code confidence ∙ (λ i. identity_by_lem (d i) (c i)) ∙ sym (identity_by code' confidence');
    }
