-- Reflected Gray code, digits highest first.
use Rattle.std.specs.Prelude.{ℕ, zero, suc, ◌+◌, ◌*◌, ◌/◌, ◌%◌, ◌^◌, List, [], ◌∷◌}

-- the binary digits n with the one behind them that a Gray digit stands for: it is turned round behind a binary digit 1
abbrev pub with_digit : ℕ → ℕ → ℕ
with_digit n g = 2 * n + (n + g) % 2

-- the number that has binary digits n, and behind them those of these Gray digits
abbrev pub gray_from : ℕ → List ℕ → ℕ
gray_from n [] = n
gray_from n (g ∷ gs) = gray_from (with_digit n g) gs

abbrev pub gray : List ℕ → ℕ
gray gs = gray_from 0 gs

-- the k lowest digits of n's Gray code: each is 1 where the binary digit there and the one above it differ
abbrev pub gray_of : ℕ → ℕ → List ℕ
gray_of zero n = []
gray_of (suc k) n = (n / 2 ^ k + n / 2 ^ suc k) % 2 ∷ gray_of k n
