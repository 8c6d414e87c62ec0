-- Samples of a line land at the start of two buffers, one pair after the other.
use Prim.Native.Nat.{ℕ, zero, suc, ◌+◌, ◌-◌, ◌*◌, ◌/◌, ◌%◌, ◌≤◌, ◌<◌}
use native.Mathlib.Omega.{arith}
use mathlib.Core.Path.{◌≡◌, refl, sym, ap, ap₂, ◌∙◌}
use mathlib.Core.List.{List, [], ◌∷◌}
use lib.ListN.{length, get_or, take, drop, set, length-drop, get_or-append}
use lib.Seq.{length-take-le, get_or-take, get_or-drop}
use Rattle.std.specs.Simd.{first_chunks}
use Rattle.frames.proofs.Chunks.{chunk-at}
use Rattle.frames.proofs.Filling.{Put, put-start, put_next, put-end}
use Rattle.reading.specs.Frames.{flags_in, values_in}
use Rattle.characters.specs.Characters.{digit}
use Rattle.rules.specs.Buffers.{over}
use Rattle.reading.specs.Post.{behind, AllDigits, FillPost, digit_values, FourDigits, TwoBytes}
use Rattle.reading.proofs.Pairs.{byte, digit-below, behind-length, behind-at, flags-at, values-at, flags-length, values_length}

-- ---- the values of a line's digits

values-count : (l : List ℕ) → length (digit_values l) ≡ length l
values-count [] = refl
values-count (c ∷ l) = ap suc (values-count l)

value-at : (l : List ℕ) (i : ℕ) → i < length l → get_or (digit_values l) i 0 ≡ digit (get_or l i 0)
value-at [] i h = absurd (omega arith)
value-at (c ∷ l) zero h = refl
value-at (c ∷ l) (suc i) h = value-at l i (omega arith)

-- of the n digits behind the kind
abbrev pub behind_values : List ℕ → ℕ → List ℕ
behind_values line n = digit_values (take n (drop 2 line))

module _ (line : List ℕ) (n : ℕ) (room : n + 2 ≤ length line) where
  digits-size : length (take n (drop 2 line)) ≡ n
  digits-size = length-take-le n (drop 2 line) (omega (arith, length-drop 2 line))

  values-size : length (behind_values line n) ≡ n
  values-size = values-count (take n (drop 2 line)) ∙ digits-size

  value_there : (i : ℕ) → i < n → get_or (behind_values line n) i 0 ≡ digit (get_or line (i + 2) 0)
  value_there i h =
      value-at (take n (drop 2 line)) i (omega (arith, digits-size))
      ∙ ap digit (get_or-take n (drop 2 line) i 0 h ∙ get_or-drop 2 line i 0 ∙ ap (λ (k : ℕ). get_or line k 0) {x = 2 + i} {y = i + 2} (omega arith))

-- the digits behind the kind, as a slice of the line
abbrev pub digits_behind : List ℕ → ℕ → List ℕ
digits_behind line n = take (n + 2 - 2) (drop 2 line)

pub digits-same : (line : List ℕ) (n : ℕ) → digits_behind line n ≡ take n (drop 2 line)
digits-same line n = let e : n + 2 - 2 ≡ n = omega arith in ap (λ (k : ℕ). take k (drop 2 line)) e

digit-there : (line : List ℕ) (n i : ℕ) → AllDigits line (n + 2) → i < n → digit (get_or line (i + 2) 0) < 16
digit-there line n i a h = digit-below line (n + 2) (i + 2) a (omega arith)

pub valued_digit : (line : List ℕ) (n i : ℕ) → AllDigits line (n + 2) → i < length (digits_behind line n) → digit (get_or (digits_behind line n) i 0) < 16
valued_digit line n i a h =
    let l : i < n = omega (arith, h, ap length (digits-same line n), digits-size line n a.room) in
    let e = ap (λ (d : List ℕ). get_or d i 0) (digits-same line n) ∙ get_or-take n (drop 2 line) i 0 l ∙ get_or-drop 2 line i 0 in
    let z : 2 + i ≡ i + 2 = omega arith in
    omega (arith, ap digit (e ∙ ap (λ (k : ℕ). get_or line k 0) z), digit-there line n i a l)

pub valued_next : (ds d₀ d : List ℕ) (i x : ℕ) → i < length ds → i < length d₀ → x ≡ digit (get_or ds i 0) → Put (digit_values ds) d₀ d i → Put (digit_values ds) d₀ (set d i x) (i + 1)
valued_next ds d₀ d i x l m e = put_next (digit_values ds) d₀ d i x m (e ∙ sym (value-at ds i l))

pub valued_end : (line d₀ d : List ℕ) (n i : ℕ) → n + 2 ≤ length line → n ≤ length d₀ → i ≡ length (digits_behind line n) → Put (digit_values (digits_behind line n)) d₀ d i
    → d ≡ over (behind_values line n) d₀
valued_end line d₀ d n i room m e h =
    let q = digits-same line n in
    let z : i ≡ n = omega (arith, e, ap length q, digits-size line n room) in
    put-end (digit_values (digits_behind line n)) d₀ d i (values-count (digits_behind line n) ∙ sym e) (omega (arith, z, m)) h ∙ ap (λ (l : List ℕ). over (digit_values l) d₀) q

-- ---- the samples, from the values

module _ (line d d₀ : List ℕ) (n : ℕ) (all : AllDigits line (4 * n + 2)) (e : d ≡ over (behind_values line (4 * n)) d₀) where
  value_held : (i : ℕ) → i < 4 * n → get_or d i 0 ≡ digit (get_or line (i + 2) 0)
  unfolding over
  value_held i h =
      ap (λ (l : List ℕ). get_or l i 0) e
      ∙ get_or-append (behind_values line (4 * n)) (drop (length (behind_values line (4 * n))) d₀) 0 i (omega (arith, values-size line (4 * n) all.room))
      ∙ value_there line (4 * n) all.room i h

  -- cut into fours, of which the first n are the samples
  module _ (fours : List (List ℕ)) (f : fours ≡ first_chunks 4 (length d / 4) d) (most : 4 * n ≤ length d) where
    abbrev pub four : ℕ → List ℕ
    four j = get_or (take n fours) j []

    held-at : (j r m : ℕ) → j < n → r < 4 → m ≡ 4 * j + (r + 2) → get_or (four j) r 0 ≡ digit (get_or line m 0)
    held-at j r m h l z =
        ap (λ (x : List ℕ). get_or x r 0) (get_or-take n fours j [] h ∙ ap (λ (x : List (List ℕ)). get_or x j []) f ∙ chunk-at 4 (length d / 4) j d (omega (arith, most)))
        ∙ get_or-take 4 (drop (4 * j) d) r 0 l ∙ get_or-drop (4 * j) d r 0 ∙ value_held (4 * j + r) (omega arith)
        ∙ ap (λ (i : ℕ). digit (get_or line i 0)) {x = 4 * j + r + 2} {y = m} (omega arith)

    small : (j r : ℕ) → j < n → r < 4 → get_or (four j) r 0 < 16
    small j r h l = omega (arith, held-at j r (4 * j + r + 2) h l (omega arith), digit-there line (4 * n) (4 * j + r) all (omega arith))

    pub four-count : length fours ≡ length d / 4 → length (take n fours) ≡ n
    four-count l = length-take-le n fours (omega (arith, l, most))

    pub four-digits : (j : ℕ) → j < n → FourDigits (four j)
    four-digits j h = record {
      first = small j 0 h (omega arith);
      second = small j 1 h (omega arith);
      third = small j 2 h (omega arith);
      fourth = small j 3 h (omega arith);
    }

    pub low-is-flag : (j x : ℕ) → j < n → TwoBytes (four j) x → x % 256 ≡ byte line (4 * j + 2)
    low-is-flag j x h t =
        t.low ∙ ap₂ (λ (x y : ℕ). 16 * x + y) (held-at j 0 (4 * j + 2) h (omega arith) (omega arith)) (held-at j 1 (4 * j + 2 + 1) h (omega arith) (omega arith))

    pub high-is-value : (j x : ℕ) → j < n → TwoBytes (four j) x → x / 65536 % 256 ≡ byte line (4 * j + 4)
    high-is-value j x h t =
        t.high ∙ ap₂ (λ (x y : ℕ). 16 * x + y) (held-at j 2 (4 * j + 4) h (omega arith) (omega arith)) (held-at j 3 (4 * j + 4 + 1) h (omega arith) (omega arith))

-- ---- the two buffers of a line with n samples

pub record Filling (line : List ℕ) (n : ℕ) (flags₀ values₀ flags values : List ℕ) (j : ℕ) : Type 0 where
  pub most : j ≤ n
  pub flag_bytes : Put (flags_in (behind line (4 * n + 2))) flags₀ flags j
  pub value_bytes : Put (values_in (behind line (4 * n + 2))) values₀ values j

pub filling_start : (line : List ℕ) (n : ℕ) (flags values : List ℕ) → Filling line n flags values flags values 0
filling_start line n flags values =
    record {
      most = omega arith;
      flag_bytes = put-start (flags_in (behind line (4 * n + 2))) flags;
      value_bytes = put-start (values_in (behind line (4 * n + 2))) values;
    }

module _ (line : List ℕ) (n : ℕ) (room : 4 * n + 2 ≤ length line) where
  abbrev behind_it : List ℕ
  behind_it = behind line (4 * n + 2)

  size : length behind_it ≡ 2 * n
  size = behind-length line (4 * n + 2) (2 * n) room (omega arith)

  flag_is : (j : ℕ) → j < n → byte line (4 * j + 2) ≡ get_or (flags_in behind_it) j 0
  flag_is j h =
      sym (
      flags-at behind_it j (omega (arith, size))
      ∙ behind-at line (4 * n + 2) (2 * j) room (omega arith)
      ∙ ap (λ (i : ℕ). byte line i) {x = 2 * (2 * j) + 2} {y = 4 * j + 2} (omega arith))

  value-is : (j : ℕ) → j < n → byte line (4 * j + 4) ≡ get_or (values_in behind_it) j 0
  value-is j h =
      sym (
      values-at behind_it j (omega (arith, size))
      ∙ behind-at line (4 * n + 2) (2 * j + 1) room (omega arith)
      ∙ ap (λ (i : ℕ). byte line i) {x = 2 * (2 * j + 1) + 2} {y = 4 * j + 4} (omega arith))

  module _ (flags₀ values₀ : List ℕ) (f : n ≤ length flags₀) (v : n ≤ length values₀) where
    pub filling_next : (flags values : List ℕ) (j x y : ℕ) → j < n → x ≡ byte line (4 * j + 2) → y ≡ byte line (4 * j + 4)
        → Filling line n flags₀ values₀ flags values j → Filling line n flags₀ values₀ (set flags j x) (set values j y) (j + 1)
    filling_next flags values j x y l a b h =
        record {
          most = omega arith;
          flag_bytes = put_next (flags_in behind_it) flags₀ flags j x (omega arith) (a ∙ flag_is j l) h.flag_bytes;
          value_bytes = put_next (values_in behind_it) values₀ values j y (omega arith) (b ∙ value-is j l) h.value_bytes;
        }

    pub filling_end : (flags values : List ℕ) (j : ℕ) → n ≤ j → Filling line n flags₀ values₀ flags values j → FillPost line n flags₀ values₀ flags values
    filling_end flags values j l h =
        record {
          flag_bytes = put-end (flags_in behind_it) flags₀ flags j (omega (arith, flags-length behind_it n size, h.most)) (omega (arith, h.most)) h.flag_bytes;
          value_bytes = put-end (values_in behind_it) values₀ values j (omega (arith, values_length behind_it n size, h.most)) (omega (arith, h.most)) h.value_bytes;
        }
