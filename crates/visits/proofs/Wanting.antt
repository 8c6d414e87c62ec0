-- The ticks to visit, as a word.
use Prim.Native.Nat.{ℕ}
use mathlib.Core.Path.{◌≡◌, refl, ap, ◌∙◌}
use mathlib.Core.Bool.{Bool, true, false, ◌&&◌, ◌||◌}
use lib.Bits.{bit_and, bit_or}
use Rattle.plane.specs.Words.{bit}
use Rattle.plane.proofs.BitLaws.{bit-and, bit-or}
use Rattle.marking.specs.declared.Words.{Words}
use Rattle.marking.specs.Marks.{any_at, AnyWord}
use Rattle.span.specs.declared.Span.{Span}
use Rattle.visits.specs.Visits.{Wanted}

pub wanted_law : (s : Span) (on : Words) (x w : ℕ) → AnyWord on w → Wanted s on x (bit_and x (bit_or s.at168 (bit_or s.at167 (bit_or s.at169 w))))
wanted_law s on x w h =
    record {
      at = λ i.
          let a = bit s.at168 i in
          let b = bit s.at167 i in
          let c = bit s.at169 i in
          bit-and x (bit_or s.at168 (bit_or s.at167 (bit_or s.at169 w))) i
          ∙ ap (λ (y : Bool). bit x i && y)
          (bit-or s.at168 (bit_or s.at167 (bit_or s.at169 w)) i
          ∙ ap (λ (y : Bool). a || y) (bit-or s.at167 (bit_or s.at169 w) i ∙ ap (λ (y : Bool). b || y) (bit-or s.at169 w i ∙ ap (λ (y : Bool). c || y) (h.at i)))
          ∙ grouped a b c (any_at on i));
    }
  where
    grouped : (a b c d : Bool) → (a || (b || (c || d))) ≡ ((a || (b || c)) || d)
    grouped true b c d = refl
    grouped false true c d = refl
    grouped false false c d = refl
