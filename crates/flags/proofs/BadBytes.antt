-- A bad byte among many, from the or of their bits and of their P with N: a byte above 15 makes the or so, and no or of smaller ones is.
use Prim.Native.Nat.{ℕ, ◌+◌, ◌/◌, ◌^◌, ◌≤◌, ◌<◌}
use native.Mathlib.Omega.{arith}
use native.Mathlib.Numerals.{add-one}
use mathlib.Core.Path.{◌≡◌, refl, sym, ap, ap₂, ◌∙◌}
use mathlib.Core.Bool.{Bool, true, false, ◌&&◌, ◌||◌}
use mathlib.Core.List.{List, ◌∷◌}
use lib.Dec.{ltb}
use lib.ListN.{length, get_or, drop, drop_of_length-le}
use lib.Seq.{drop-cons}
use lib.Bits.{bit_and, bit_or, or_lt, or_comm, or_add_and, and_le_r}
use borrow.Author.Tests.{ltb-true, ltb-false, lt-ltb, le-ltb}
use Rattle.rules.specs.Lists.{any}
use Rattle.rules.specs.Samples.{bad, odd}
use Rattle.plane.specs.Words.{bit}
use Rattle.plane.proofs.Cases.{or_false}
use Rattle.plane.proofs.BitLaws.{bit-and, bit-or, bit-shr}

-- what is seen of bytes from the or of their bits and the or of each byte with itself shifted right by one
abbrev pub seen : ℕ → ℕ → Bool
seen bits pairs = ltb 15 bits || odd (pairs / 2)

or_above : (a b : ℕ) → a ≤ bit_or a b
or_above a b = omega (arith, or_add_and a b, and_le_r a b)

or_large : (a b : ℕ) (x y : Bool) → ltb 15 a ≡ x → ltb 15 b ≡ y → ltb 15 (bit_or a b) ≡ x || y
or_large a b true y p q = lt-ltb 15 (bit_or a b) (omega (arith, ltb-true 15 a p, or_above a b))
or_large a b false true p q = lt-ltb 15 (bit_or a b) (omega (arith, ltb-true 15 b q, or_above b a, or_comm a b))
or_large a b false false p q =
    le-ltb 15 (bit_or a b) (omega (arith, or_lt 4 a b (omega (arith, ltb-false 15 a p)) (omega (arith, ltb-false 15 b q))))

-- P with N of one byte more
or-pair : (pairs x : ℕ) → odd (bit_or pairs (bit_and x (x / 2 ^ 1)) / 2) ≡ odd (pairs / 2) || (odd (x / 2) && odd (x / 4))
unfolding bit
or-pair pairs x =
    bit-or pairs (bit_and x (x / 2 ^ 1)) 1
    ∙ ap (λ (b : Bool). odd (pairs / 2) || b) (bit-and x (x / 2 ^ 1) 1 ∙ ap (λ (b : Bool). odd (x / 2) && b) (bit-shr x 1 1))

regroup : (a b p q r : Bool) → (a || b) || ((p || q) || r) ≡ ((a || q) || (b || p)) || r
regroup true b p q r = refl
regroup false true p true r = refl
regroup false true p false r = refl
regroup false false true true r = refl
regroup false false true false r = refl
regroup false false false true r = refl
regroup false false false false r = refl

-- the bytes before i are seen, the others are still to come
pub record Seen (f : List ℕ) (bits pairs i : ℕ) : Type 0 where
  pub so_far : seen bits pairs || any bad (drop i f) ≡ any bad f

pub seen_first : (f : List ℕ) → Seen f 0 0 0
seen_first f = record { so_far = refl }

pub rest : (f : List ℕ) (i : ℕ) → i < length f → drop i f ≡ get_or f i 0 ∷ drop (i + 1) f
rest f i h = rw (add-one, drop-cons f i 0)

pub seen_next : (f : List ℕ) (bits pairs i : ℕ) → i < length f → Seen f bits pairs i
    → Seen f (bit_or bits (get_or f i 0)) (bit_or pairs (bit_and (get_or f i 0) (get_or f i 0 / 2 ^ 1))) (i + 1)
seen_next f bits pairs i h s =
    let x = get_or f i 0 in
    record {
      so_far =
          ap₂ (λ (l p : Bool). (l || p) || any bad (drop (i + 1) f)) (or_large bits x (ltb 15 bits) (ltb 15 x) refl refl) (or-pair pairs x)
          ∙ sym (regroup (ltb 15 bits) (odd (pairs / 2)) (odd (x / 2) && odd (x / 4)) (ltb 15 x) (any bad (drop (i + 1) f)))
          ∙ ap (λ (l : List ℕ). seen bits pairs || any bad l) (sym (rest f i h))
          ∙ s.so_far;
    }

pub all_seen : (f : List ℕ) (bits pairs i : ℕ) → length f ≤ i → Seen f bits pairs i → seen bits pairs ≡ any bad f
all_seen f bits pairs i h s = sym (or_false (seen bits pairs)) ∙ ap (λ (l : List ℕ). seen bits pairs || any bad l) (sym (drop_of_length-le f h)) ∙ s.so_far
