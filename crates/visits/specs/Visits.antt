-- The ticks of a span that are to be visited, and the edges there.
use Rattle.std.specs.Prelude.{ℕ, ◌+◌, Bool, ◌&&◌, ◌||◌, cond, List, ◌≡◌}
use Rattle.rules.specs.declared.Pulse.{Pulse}
use Rattle.plane.specs.Words.{bit}
use Rattle.marking.specs.declared.Words.{Words}
use Rattle.marking.specs.Marks.{any_at}
use Rattle.front.specs.Post.{value_of}
use Rattle.span.specs.declared.Span.{Span}
use Rattle.span.specs.Spans.{pulse_in, has_bracket_lem}

-- ---- the ticks to visit

-- tick i of the span has a bracket, or a reply covers it
abbrev pub wanted_in : Span → Words → ℕ → Bool
wanted_in s on i = has_bracket_lem s i || any_at on i

-- those of the ticks x
pub record Wanted (s : Span) (on : Words) (x y : ℕ) : Type 0 where
  pub at : (i : ℕ) → bit y i ≡ (bit x i && wanted_in s on i)

-- ---- the edges

-- the edge at u, which is tick i of the span, with M and value of the next tick
abbrev pub edge_in : Span → ℕ → ℕ → List ℕ → ℕ → List ℕ → Pulse
edge_in s i u recent base values = pulse_in s.main i u (value_of recent base values (u + 1))

-- how far behind an edge its F2 stands: 168 ticks, else 167, else 169
abbrev pub apart_in : Span → ℕ → ℕ
apart_in s i = cond (bit s.at168 i) 168 (cond (bit s.at167 i) 167 169)

-- the F2 of the bracket at u, where one stands
abbrev pub second_in : Span → ℕ → ℕ → List ℕ → ℕ → List ℕ → Pulse
second_in s i u recent base values =
    record {
      tick = record { 0 = u + apart_in s i };
      main = cond (bit s.at168 i) (bit s.main168 i) (cond (bit s.at167 i) (bit s.main167 i) (bit s.main169 i));
      value = value_of recent base values (u + apart_in s i + 1);
    }
