-- Blocks of 64 bytes, and the bytes behind them.
use Prim.Native.Nat.{ℕ, zero, suc, ◌+◌, ◌*◌}
use native.Mathlib.Omega.{arith}
use mathlib.Core.Path.{◌≡◌, refl, sym, ap, ◌∙◌}
use mathlib.Core.Bool.{Bool, true, false, ◌&&◌, ◌||◌}
use mathlib.Core.List.{List, [], ◌∷◌, ◌++◌}
use lib.Dec.{eqb}
use lib.ListN.{take, drop, take-append-drop}
use lib.Seq.{drop-drop}
use Rattle.std.specs.List.{list_any, list_all}
use Rattle.std.specs.Simd.{first_chunks}
use Rattle.rules.specs.Lists.{any}
use Rattle.flags.specs.Flags.{no_flags}
use Rattle.flags.proofs.Flagless.{or_assoc}

and_assoc : (a b c : Bool) → a && (b && c) ≡ (a && b) && c
and_assoc true b c = refl
and_assoc false b c = refl

any-append : (p : ℕ → Bool) (l k : List ℕ) → any p (l ++ k) ≡ any p l || any p k
any-append p [] k = refl
any-append p (x ∷ l) k = ap (λ (b : Bool). p x || b) (any-append p l k) ∙ or_assoc (p x) (any p l) (any p k)

-- a byte that passes stands in one of the first n blocks or behind them
any_in_blocks : (p : ℕ → Bool) (n : ℕ) (f : List ℕ) → any p f ≡ list_any (any p) (first_chunks 64 n f) || any p (drop (n * 64) f)
any_in_blocks p zero f = refl
any_in_blocks p (suc n) f =
    let here = any p (take 64 f) in
    let later = list_any (any p) (first_chunks 64 n (drop 64 f)) in
    let e : 64 + n * 64 ≡ suc n * 64 = omega arith in
    ap (any p) (sym (take-append-drop 64 f)) ∙ any-append p (take 64 f) (drop 64 f)
    ∙ ap (λ (b : Bool). here || b) (any_in_blocks p n (drop 64 f) ∙ ap (λ (l : List ℕ). later || any p l) (drop-drop (n * 64) 64 f))
    ∙ or_assoc here later (any p (drop (64 + n * 64) f)) ∙ ap (λ (k : ℕ). (here || later) || any p (drop k f)) e

module _ (p : ℕ → Bool) (n : ℕ) (f : List ℕ) {r : Bool} (e : r ≡ list_any (any p) (first_chunks 64 n f)) where
  pub any_in_block : r ≡ true → r ≡ any p f
  any_in_block h = h ∙ sym (any_in_blocks p n f ∙ ap (λ (b : Bool). b || any p (drop (n * 64) f)) (sym e ∙ h))

  pub any_behind : r ≡ false → any p (drop (n * 64) f) ≡ any p f
  any_behind h = sym (any_in_blocks p n f ∙ ap (λ (b : Bool). b || any p (drop (n * 64) f)) (sym e ∙ h))

no-flags-append : (l k : List ℕ) → no_flags (l ++ k) ≡ no_flags l && no_flags k
no-flags-append [] k = refl
no-flags-append (x ∷ l) k = ap (λ (b : Bool). eqb x 0 && b) (no-flags-append l k) ∙ and_assoc (eqb x 0) (no_flags l) (no_flags k)

-- all bytes are 0 if those of the first n blocks are and those behind them
none_in_blocks : (n : ℕ) (f : List ℕ) → no_flags f ≡ list_all no_flags (first_chunks 64 n f) && no_flags (drop (n * 64) f)
none_in_blocks zero f = refl
none_in_blocks (suc n) f =
    let here = no_flags (take 64 f) in
    let later = list_all no_flags (first_chunks 64 n (drop 64 f)) in
    let e : 64 + n * 64 ≡ suc n * 64 = omega arith in
    ap no_flags (sym (take-append-drop 64 f)) ∙ no-flags-append (take 64 f) (drop 64 f)
    ∙ ap (λ (b : Bool). here && b) (none_in_blocks n (drop 64 f) ∙ ap (λ (l : List ℕ). later && no_flags l) (drop-drop (n * 64) 64 f))
    ∙ and_assoc here later (no_flags (drop (64 + n * 64) f)) ∙ ap (λ (k : ℕ). (here && later) && no_flags (drop k f)) e

module _ (n : ℕ) (f : List ℕ) {r : Bool} (e : r ≡ list_all no_flags (first_chunks 64 n f)) where
  pub flag_in_block : r ≡ false → r ≡ no_flags f
  flag_in_block h = h ∙ sym (none_in_blocks n f ∙ ap (λ (b : Bool). b && no_flags (drop (n * 64) f)) (sym e ∙ h))

  pub none_behind : r ≡ true → no_flags (drop (n * 64) f) ≡ no_flags f
  none_behind h = sym (none_in_blocks n f ∙ ap (λ (b : Bool). b && no_flags (drop (n * 64) f)) (sym e ∙ h))

-- byte by byte
pub none_of_bytes : (f : List ℕ) → list_all (λ x. eqb x 0) f ≡ no_flags f
none_of_bytes [] = refl
none_of_bytes (x ∷ f) = ap (λ (b : Bool). eqb x 0 && b) (none_of_bytes f)
