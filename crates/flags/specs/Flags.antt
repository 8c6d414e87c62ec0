-- Tests of many flag bytes.
use Rattle.std.specs.Prelude.{ℕ, zero, suc, ◌+◌, ◌*◌, ◌^◌, ◌<◌, ◌≡◌, Bool, true, false, ◌&&◌, ◌||◌, List, [], ◌∷◌, eqb, get_or, bit_or}
use Rattle.plane.specs.Words.{bit}
use Rattle.packing.specs.Packing.{bytes, Eight}

-- g holds of one of 0 to n-1
unfoldable pub some : (ℕ → Bool) → ℕ → Bool
some g zero = false
some g (suc n) = some g n || g n

-- x is the or of the first n words of eight bytes from o on
pub record Gathered (f : List ℕ) (o n x : ℕ) : Type 0 where
  pub below : x < 2 ^ 64
  pub at : (i : ℕ) → i < 64 → bit x i ≡ some (λ j. bytes f (o + 8 * j) i) n

-- y is the or of the first n words, each with itself shifted right by one
pub record Paired (f : List ℕ) (o n y : ℕ) : Type 0 where
  pub at : (i : ℕ) → i < 63 → bit y i ≡ some (λ j. bytes f (o + 8 * j) i && bytes f (o + 8 * j) (1 + i)) n

-- r is the or of q and of what P says of the word of eight bytes from o on
pub record JoinedBy (P : ℕ → ℕ → Type 0) (f : List ℕ) (o q r : ℕ) : Type 0 where
  pub word : ℕ
  pub part : ℕ
  pub read : Eight f o word
  pub made : P word part
  pub joined : r ≡ bit_or q part

-- r is the or of what P says of the first word of eight bytes from o on and of the n words behind it
abbrev pub GatheredBy : (ℕ → ℕ → Type 0) → List ℕ → ℕ → ℕ → ℕ → Type 0
GatheredBy P f o zero r = (x : ℕ) × (Eight f o x × P x r)
GatheredBy P f o (suc n) r = (q : ℕ) × (GatheredBy P f o n q × JoinedBy P f (o + 8 * suc n) q r)

-- r is true exactly if none of the 64 flag bytes from o on has a bit
pub record FlaglessBlock (f : List ℕ) (o : ℕ) (r : Bool) : Type 0 where
  pub yes : r ≡ true → (m k : ℕ) → m < 64 → k < 8 → bit (get_or f (o + m) 0) k ≡ false
  pub no : ((m k : ℕ) → m < 64 → k < 8 → bit (get_or f (o + m) 0) k ≡ false) → r ≡ true

-- every flag byte is 0
abbrev pub no_flags : List ℕ → Bool
no_flags [] = true
no_flags (x ∷ f) = eqb x 0 && no_flags f
