-- Bytes as pairs of digits, and samples as pairs of bytes: their lengths and what stands at each place.
use Prim.Native.Nat.{ℕ, zero, suc, ◌+◌, ◌-◌, ◌*◌, ◌≤◌, ◌<◌}
use native.Mathlib.Omega.{arith}
use mathlib.Core.Path.{◌≡◌, refl, ap, ◌∙◌}
use mathlib.Core.Bool.{true}
use mathlib.Core.List.{List, [], ◌∷◌}
use lib.ListN.{length, get_or, take, drop, length-drop}
use lib.Seq.{get_or-take, get_or-drop, length-take-le}
use borrow.Author.Tests.{ltb-true}
use Rattle.rules.proofs.Truth.{and_left, and_right}
use Rattle.reading.specs.Frames.{bytes, flags_in, values_in}
use Rattle.characters.specs.Characters.{digit, is_digit_lem, are_digits_lem, Digits}
use Rattle.reading.specs.Post.{behind, AllDigits}

-- ---- digits

digits-at : (l : List ℕ) (i : ℕ) → are_digits_lem l ≡ true → i < length l → digit (get_or l i 0) < 16
digits-at [] i h m = absurd (omega arith)
digits-at (c ∷ l) zero h m = ltb-true (digit c) 16 (and_left (is_digit_lem c) (are_digits_lem l) h)
digits-at (c ∷ l) (suc i) h m = digits-at l i (and_right (is_digit_lem c) (are_digits_lem l) h) (omega arith)

pub digit-below : (l : List ℕ) (m i : ℕ) → AllDigits l m → i < m → digit (get_or l i 0) < 16
digit-below l m i h p =
    omega (arith, digits-at (take m l) i h.all (omega (arith, length-take-le m l h.room)), ap digit (get_or-take m l i 0 p))

pub two_digits : (l : List ℕ) (m i : ℕ) → AllDigits l m → i + 1 < m → Digits l i
two_digits l m i h p =
    record { room = omega (arith, h.room); high = digit-below l m i h (omega arith); low = digit-below l m (i + 1) h p }

-- ---- bytes

abbrev pub byte : List ℕ → ℕ → ℕ
byte l i = 16 * digit (get_or l i 0) + digit (get_or l (i + 1) 0)

pub bytes-length : (d : List ℕ) (k : ℕ) → length d ≡ 2 * k → length (bytes d) ≡ k
bytes-length [] k h = omega (arith, h)
bytes-length (a ∷ []) k h = absurd (omega (arith, h))
bytes-length (a ∷ b ∷ d) zero h = absurd (omega (arith, h))
bytes-length (a ∷ b ∷ d) (suc k) h = ap suc (bytes-length d k (omega (arith, h)))

pub bytes-at : (d : List ℕ) (i : ℕ) → 2 * i + 1 < length d → get_or (bytes d) i 0 ≡ byte d (2 * i)
bytes-at [] i h = absurd (omega arith)
bytes-at (a ∷ []) i h = absurd (omega arith)
bytes-at (a ∷ b ∷ d) zero h = refl
bytes-at (a ∷ b ∷ d) (suc i) h =
    bytes-at d i (omega arith)
    ∙ ap (λ (k : ℕ). 16 * digit (get_or d (2 * i) 0) + digit (get_or (a ∷ b ∷ d) k 0)) {x = suc (suc (2 * i + 1))} {y = suc (suc (2 * i)) + 1} (omega arith)
    ∙ ap (λ (k : ℕ). byte (a ∷ b ∷ d) k) {x = suc (suc (2 * i))} {y = 2 * suc i} (omega arith)

-- ---- samples

pub flags-length : (l : List ℕ) (k : ℕ) → length l ≡ 2 * k → length (flags_in l) ≡ k
flags-length [] k h = omega (arith, h)
flags-length (a ∷ []) k h = absurd (omega (arith, h))
flags-length (a ∷ b ∷ l) zero h = absurd (omega (arith, h))
flags-length (a ∷ b ∷ l) (suc k) h = ap suc (flags-length l k (omega (arith, h)))

pub values_length : (l : List ℕ) (k : ℕ) → length l ≡ 2 * k → length (values_in l) ≡ k
values_length [] k h = omega (arith, h)
values_length (a ∷ []) k h = absurd (omega (arith, h))
values_length (a ∷ b ∷ l) zero h = absurd (omega (arith, h))
values_length (a ∷ b ∷ l) (suc k) h = ap suc (values_length l k (omega (arith, h)))

pub flags-at : (l : List ℕ) (j : ℕ) → 2 * j + 1 < length l → get_or (flags_in l) j 0 ≡ get_or l (2 * j) 0
flags-at [] j h = absurd (omega arith)
flags-at (a ∷ []) j h = absurd (omega arith)
flags-at (a ∷ b ∷ l) zero h = refl
flags-at (a ∷ b ∷ l) (suc j) h =
    flags-at l j (omega arith) ∙ ap (λ (k : ℕ). get_or (a ∷ b ∷ l) k 0) {x = suc (suc (2 * j))} {y = 2 * suc j} (omega arith)

pub values-at : (l : List ℕ) (j : ℕ) → 2 * j + 1 < length l → get_or (values_in l) j 0 ≡ get_or l (2 * j + 1) 0
values-at [] j h = absurd (omega arith)
values-at (a ∷ []) j h = absurd (omega arith)
values-at (a ∷ b ∷ l) zero h = refl
values-at (a ∷ b ∷ l) (suc j) h =
    values-at l j (omega arith) ∙ ap (λ (k : ℕ). get_or (a ∷ b ∷ l) k 0) {x = suc (suc (2 * j + 1))} {y = 2 * suc j + 1} (omega arith)

-- ---- behind the kind

behind-digits : (l : List ℕ) (m i : ℕ) → i + 2 < m → get_or (take (m - 2) (drop 2 l)) i 0 ≡ get_or l (i + 2) 0
behind-digits l m i h =
    get_or-take (m - 2) (drop 2 l) i 0 (omega arith) ∙ get_or-drop 2 l i 0 ∙ ap (λ (k : ℕ). get_or l k 0) {x = 2 + i} {y = i + 2} (omega arith)

behind-size : (l : List ℕ) (m : ℕ) → m ≤ length l → length (take (m - 2) (drop 2 l)) ≡ m - 2
behind-size l m h = length-take-le (m - 2) (drop 2 l) (omega (arith, length-drop 2 l))

pub behind-length : (l : List ℕ) (m k : ℕ) → m ≤ length l → m ≡ 2 * k + 2 → length (behind l m) ≡ k
unfolding behind
behind-length l m k h e = bytes-length (take (m - 2) (drop 2 l)) k (omega (arith, behind-size l m h))

pub behind-at : (l : List ℕ) (m i : ℕ) → m ≤ length l → 2 * i + 3 < m → get_or (behind l m) i 0 ≡ byte l (2 * i + 2)
unfolding behind
behind-at l m i h p =
    bytes-at (take (m - 2) (drop 2 l)) i (omega (arith, behind-size l m h))
    ∙ ap (λ (x : ℕ). 16 * digit x + digit (get_or (take (m - 2) (drop 2 l)) (2 * i + 1) 0)) (behind-digits l m (2 * i) (omega arith))
    ∙ ap (λ (x : ℕ). 16 * digit (get_or l (2 * i + 2) 0) + digit x) (behind-digits l m (2 * i + 1) (omega arith))
    ∙ ap (λ (k : ℕ). 16 * digit (get_or l (2 * i + 2) 0) + digit (get_or l k 0)) {x = 2 * i + 1 + 2} {y = 2 * i + 2 + 1} (omega arith)

-- all bytes of a line are its kind and those behind it
pub kind-first : (l : List ℕ) (m : ℕ) → 2 ≤ m → m ≤ length l → bytes (take m l) ≡ byte l 0 ∷ behind l m
unfolding behind
kind-first [] m h p = absurd (omega arith)
kind-first (a ∷ []) m h p = absurd (omega arith)
kind-first (a ∷ b ∷ l) m h p = ap (λ (k : ℕ). bytes (take k (a ∷ b ∷ l))) {x = m} {y = suc (suc (m - 2))} (omega arith)
