-- The pulses of a code, as bits of the code word and of the confidence word.
use Rattle.std.specs.Prelude.{ℕ, ◌+◌, ◌*◌, ◌/◌, ◌%◌, ◌^◌, Bool, List, [], ◌∷◌, map, eqb}
use Rattle.rules.specs.Lists.{any}
use Rattle.rules.specs.Replies.{bit_of}

-- A pulse has the bit of its position in the reply. Positions 1 to 13, in order of time, are C1 A1 C2 A2 C4 A4 X B1 D1 B2 D2 B4 D4; X has no part in a code.
abbrev pub C1 : ℕ
C1 = bit_of 1

abbrev pub A1 : ℕ
A1 = bit_of 2

abbrev pub C2 : ℕ
C2 = bit_of 3

abbrev pub A2 : ℕ
A2 = bit_of 4

abbrev pub C4 : ℕ
C4 = bit_of 5

abbrev pub A4 : ℕ
A4 = bit_of 6

abbrev pub B1 : ℕ
B1 = bit_of 8

abbrev pub D1 : ℕ
D1 = bit_of 9

abbrev pub B2 : ℕ
B2 = bit_of 10

abbrev pub D2 : ℕ
D2 = bit_of 11

abbrev pub B4 : ℕ
B4 = bit_of 12

abbrev pub D4 : ℕ
D4 = bit_of 13

-- the digit of a word at a pulse: 1 if it is set, 0 if not
abbrev pub digit : ℕ → ℕ → ℕ
digit w p = w / 2 ^ p % 2

-- the digits at some pulses, in their order
abbrev pub digits_at : List ℕ → ℕ → List ℕ
digits_at ps w = map (λ p. digit w p) ps

-- a pulse is not set; one of some pulses is not set
abbrev pub clear : ℕ → ℕ → Bool
clear w p = eqb (digit w p) 0

abbrev pub any_clear : List ℕ → ℕ → Bool
any_clear ps w = any (λ p. clear w p) ps

-- three pulses of a word, weighted 4, 2, 1
abbrev pub weighted : ℕ → ℕ → ℕ → ℕ → ℕ
weighted p₄ p₂ p₁ w = 4 * digit w p₄ + 2 * digit w p₂ + digit w p₁

-- the word with these digits at these pulses and 0 at every other
abbrev pub word_of : List ℕ → List ℕ → ℕ
word_of [] ds = 0
word_of (p ∷ ps) [] = 0
word_of (p ∷ ps) (d ∷ ds) = 2 ^ p * d + word_of ps ds
