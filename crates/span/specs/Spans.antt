-- The 64 ticks u from t-242 on that the machine can work once t ticks are taken, as words: edges at u; edges at u+168, u+167, u+169; M of each.
use Rattle.std.specs.Prelude.{ℕ, ◌+◌, ◌-◌, ◌^◌, ◌≤◌, ◌<◌, Bool, false, ◌||◌, cond, List, ◌≡◌, length, Option, Some, None}
use Rattle.std.specs.Int.Bits.{bit_and, bit_or}
use Rattle.rules.specs.Samples.{M}
use Rattle.plane.specs.Words.{bit, Holds}
use Rattle.rules.specs.declared.Pulse.{Pulse}
use Rattle.edges.specs.Planes.{has_edge}
use Rattle.front.specs.declared.words.Front.{Front}
use Rattle.front.specs.Words.{padded, front_of}
use Rattle.front.specs.Post.{value_of}
use Rattle.span.specs.declared.Span.{Span}

pub record Spanned (w : List ℕ) (t : ℕ) (s : Span) : Type 0 where
  pub due : Holds (has_edge w) (t + 78) s.due
  pub at168 : Holds (λ u. has_edge w (u + 168)) (t + 78) s.at168
  pub at167 : Holds (λ u. has_edge w (u + 167)) (t + 78) s.at167
  pub at169 : Holds (λ u. has_edge w (u + 169)) (t + 78) s.at169
  pub main : Holds (λ u. M w (u + 1)) (t + 78) s.main
  pub main168 : Holds (λ u. M w (u + 169)) (t + 78) s.main168
  pub main167 : Holds (λ u. M w (u + 168)) (t + 78) s.main167
  pub main169 : Holds (λ u. M w (u + 170)) (t + 78) s.main169

pub record SpanPost (f : Front) (s : Span) : Type 0 where
  pub result : (F : List ℕ) → f ≡ front_of F → Spanned (padded F) (length F) s

-- the pulse at tick t, whose M is bit i of x
abbrev pub pulse_in : ℕ → ℕ → ℕ → ℕ → Pulse
pulse_in x i t v = record { tick = record { 0 = t }; main = bit x i; value = v }

-- the ticks with an edge 167 ticks behind and none 168 behind, and those with neither
abbrev pub sooner_in : Span → ℕ
sooner_in s = bit_and s.at167 (2 ^ 64 - 1 - s.at168)

abbrev pub later_in : Span → ℕ
later_in s = 2 ^ 64 - 1 - bit_or s.at168 s.at167

-- a bracket stands at tick i of the span, if an edge does
abbrev pub has_bracket_lem : Span → ℕ → Bool
has_bracket_lem s i = bit s.at168 i || (bit s.at167 i || bit s.at169 i)

-- the bracket at tick u, which is tick i of the span: its F2, if it has one
unfoldable pub bracket_in : Span → ℕ → ℕ → List ℕ → ℕ → List ℕ → Option Pulse
unfolding bit value_of
bracket_in s i u recent base values =
    cond (bit s.at168 i) (Some (pulse_in s.main168 i (u + 168) (value_of recent base values (u + 169))))
    (cond (bit s.at167 i) (Some (pulse_in s.main167 i (u + 167) (value_of recent base values (u + 168))))
    (cond (bit s.at169 i) (Some (pulse_in s.main169 i (u + 169) (value_of recent base values (u + 170))))
    None))

-- the bits of x from 64-r on
pub record TopPost (x r y : ℕ) : Type 0 where
  pub below : y < 2 ^ 64
  pub clear : (i : ℕ) → i + r < 64 → bit y i ≡ false
  pub same : (i : ℕ) → 64 ≤ i + r → i < 64 → bit y i ≡ bit x i

-- the bits of x above bit i
pub record AbovePost (x i y : ℕ) : Type 0 where
  pub below : y < 2 ^ 64
  pub clear : (j : ℕ) → j ≤ i → bit y j ≡ false
  pub same : (j : ℕ) → i < j → j < 64 → bit y j ≡ bit x j
