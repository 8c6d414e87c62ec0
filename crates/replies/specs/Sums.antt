-- Sums in 16 bits. Where a + b is below 65,536 this is the sum of the rules.
use Rattle.std.specs.Prelude.{ℕ, ◌+◌, ◌%◌}
use Rattle.rules.specs.declared.Word.{Word}

abbrev pub wrapped : ℕ → ℕ → ℕ
wrapped a b = (a + b) % 65536

-- a word with b more for the settled positions, c for the code and n for the unsure ones
abbrev pub word_plus : Word → ℕ → ℕ → ℕ → Word
word_plus w b c n = record { settled = wrapped w.settled b; code = wrapped w.code c; unsure = wrapped w.unsure n }
