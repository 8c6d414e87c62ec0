-- Eight bytes as a word, lowest first: the j-th is what is left of the word, shifted down by 8 j bits, in its low eight.
use Prim.Native.Nat.{ℕ, zero, suc, ◌+◌, ◌*◌, ◌/◌, ◌%◌, ◌^◌, ◌<◌}
use native.Mathlib.Omega.{arith}
use mathlib.Core.Path.{◌≡◌, sym, ap, ◌∙◌}
use mathlib.Core.List.{List, [], ◌∷◌}
use lib.ListN.{get_or}
use Rattle.std.specs.Int.{w64, from_le_bytes}
use Rattle.plane.specs.Words.{bit}
use Rattle.packing.specs.Packing.{bytes, Eight}
use Rattle.plane.proofs.BitLaws.{bit-shr, bit-mod}

module _ (f : List ℕ) (o x : ℕ) (bound : (i : ℕ) → get_or f i 0 < 256)
    (e : x ≡ from_le_bytes w64 (get_or f o 0 ∷ get_or f (o + 1) 0 ∷ get_or f (o + 2) 0 ∷ get_or f (o + 3) 0
    ∷ get_or f (o + 4) 0 ∷ get_or f (o + 5) 0 ∷ get_or f (o + 6) 0 ∷ get_or f (o + 7) 0 ∷ [])) where
  sum : x ≡ get_or f o 0 + get_or f (o + 1) 0 * 256 + get_or f (o + 2) 0 * 65536 + get_or f (o + 3) 0 * 16777216 + get_or f (o + 4) 0 * 4294967296
      + get_or f (o + 5) 0 * 1099511627776 + get_or f (o + 6) 0 * 281474976710656 + get_or f (o + 7) 0 * 72057594037927936
  sum = e

  byte : (j : ℕ) → j < 8 → x / 2 ^ (8 * j) % 2 ^ 8 ≡ get_or f (o + j) 0
  byte zero h =
      let z : o ≡ o + 0 = omega arith in
      let q : x / 1 % 256 ≡ get_or f o 0 = omega (arith, sum, bound o) in
      q ∙ ap (λ (k : ℕ). get_or f k 0) z
  byte (suc zero) h = omega (arith, sum, bound o, bound (o + 1))
  byte (suc (suc zero)) h = omega (arith, sum, bound o, bound (o + 1), bound (o + 2))
  byte (suc (suc (suc zero))) h = omega (arith, sum, bound o, bound (o + 1), bound (o + 2), bound (o + 3))
  byte (suc (suc (suc (suc zero)))) h = omega (arith, sum, bound o, bound (o + 1), bound (o + 2), bound (o + 3), bound (o + 4))
  byte (suc (suc (suc (suc (suc zero))))) h = omega (arith, sum, bound o, bound (o + 1), bound (o + 2), bound (o + 3), bound (o + 4), bound (o + 5))
  byte (suc (suc (suc (suc (suc (suc zero)))))) h = omega (arith, sum, bound o, bound (o + 1), bound (o + 2), bound (o + 3), bound (o + 4), bound (o + 5), bound (o + 6))
  byte (suc (suc (suc (suc (suc (suc (suc zero))))))) h = omega (arith, sum, bound o, bound (o + 1), bound (o + 2), bound (o + 3), bound (o + 4), bound (o + 5), bound (o + 6), bound (o + 7))
  byte (suc (suc (suc (suc (suc (suc (suc (suc j)))))))) h = absurd (omega arith)

  at : (i : ℕ) → i < 64 → bit x i ≡ bytes f o i
  unfolding bytes
  at i h =
      let z : 8 * (i / 8) + i % 8 ≡ i = omega arith in
      ap (bit x) (sym z) ∙ sym (bit-shr x (8 * (i / 8)) (i % 8)) ∙ sym (bit-mod (x / 2 ^ (8 * (i / 8))) 8 (i % 8) (omega arith))
      ∙ ap (λ (b : ℕ). bit b (i % 8)) (byte (i / 8) (omega arith))

  pub eight_is : Eight f o x
  eight_is = record { reads = record { below = omega (arith, sum, bound o, bound (o + 1), bound (o + 2), bound (o + 3), bound (o + 4), bound (o + 5), bound (o + 6), bound (o + 7)); at = at } }
