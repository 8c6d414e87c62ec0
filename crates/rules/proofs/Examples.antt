-- Document 01's examples hold of the rules: each is computed.
use mathlib.Core.Path.{refl}
use Rattle.rules.specs.Examples.{BothSides, short, edges, pulses, printed, edges_of, totals_of_lem, records_of}

pub both_sides : BothSides
unfolding short edges pulses printed edges_of totals_of_lem records_of
both_sides =
    record {
      A = refl;
      B = refl;
      C = refl;
      D = refl;
      E = refl;
      F = refl;
      G = refl;
      H₁₈ = refl;
      H₁₇ = refl;
      I₁₃₋₁₅ = refl;
      I₁₃ = refl;
      J₁₆₇-edges = refl;
      J₁₆₇ = refl;
      J₁₆₉-edges = refl;
      J₁₆₉ = refl;
      J₁₆₆-edges = refl;
      J₁₆₆ = refl;
      J₁₇₀-edges = refl;
      J₁₇₀ = refl;
      K-edges = refl;
      K = refl;
      K-record = refl;
      L-edges = refl;
      L = refl;
      M-edges = refl;
      M = refl;
      printed-record = refl;
      printed-totals = refl;
    }
