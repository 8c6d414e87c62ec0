-- 'Both sides of a pulse', A to M, and the printed survey example: what they say, as one statement.
use Rattle.std.specs.Prelude.{ℕ, zero, suc, ◌+◌, Bool, false, ◌&&◌, ◌||◌, cond, List, [], ◌∷◌, ◌++◌, map, ◌≡◌, leb, eqb}
use Rattle.rules.specs.Settings.{standard}
use Rattle.rules.specs.Lists.{any}
use Rattle.rules.specs.Samples.{Trace}
use Rattle.rules.specs.Edges.{Kind, is_edge, kinds}
use Rattle.rules.specs.Machine.{final}
use Rattle.rules.specs.declared.Totals.{Totals}
use Rattle.rules.specs.Records.{replies, records, totals}

-- f i, f (i+1), .. : n of them
unfoldable pub table : (ℕ → ℕ) → ℕ → ℕ → List ℕ
table f i zero = []
table f i (suc n) = f i ∷ table f (suc i) n

-- ticks a to b
abbrev pub span : ℕ → ℕ → ℕ → Bool
span a b t = leb a t && leb t b

abbrev pub nowhere : ℕ → Bool
nowhere t = false

-- 30 flag bytes with M: A, P and N where the tests say
unfoldable pub short : (ℕ → Bool) → (ℕ → Bool) → (ℕ → Bool) → List ℕ
unfolding table
short a p n = table (λ t. 8 + cond (a t) 1 0 + cond (p t) 2 0 + cond (n t) 4 0) 0 30

-- the ticks that have an edge, where the list starts at tick i
unfoldable pub ticks : ℕ → List Kind → List ℕ
ticks i [] = []
ticks i (k ∷ ks) = cond (is_edge k) (i ∷ ticks (suc i) ks) (ticks (suc i) ks)

unfoldable pub edges : List ℕ → List ℕ
unfolding ticks kinds
edges flags = ticks 0 (kinds standard flags)

-- 400 ticks of M and value 80, with a pulse of two ticks at each of the ticks named
unfoldable pub pulses : List ℕ → Trace
unfolding table
pulses ps =
    record {
      flags = table (λ t. 8 + cond (any (λ p. eqb t p || eqb t (suc p)) ps) 1 0) 0 400;
      values = table (λ t. 80) 0 400;
    }

-- F1 at each of the ticks named, with F2 168 later
abbrev pub framed : List ℕ → List ℕ
framed ps = ps ++ map (λ p. p + 168) ps

-- the 200 samples of the printed example: ticks 10 to 13 and 178 to 181 are 09 50 (hexadecimal), the rest 00 00
unfoldable pub printed : Trace
unfolding table
printed =
    record {
      flags = table (λ t. cond (span 10 13 t || span 178 181 t) 0x09 0) 0 200;
      values = table (λ t. cond (span 10 13 t || span 178 181 t) 0x50 0) 0 200;
    }

unfoldable pub edges_of : Trace → List ℕ
unfolding edges
edges_of T = edges T.flags

unfoldable pub totals_of_lem : Trace → Totals
unfolding totals final
totals_of_lem T = totals (final standard T)

unfoldable pub records_of : Trace → List ℕ
unfolding records final
records_of T = records (replies (final standard T))

-- found, replies, sidelobe, garbled, lost, phantoms
abbrev pub six : ℕ → ℕ → ℕ → ℕ → ℕ → ℕ → Totals
six a b c d e f = record { found = a; replies = b; sidelobe = c; garbled = d; lost = e; phantoms = f }

pub record BothSides : Type 0 where
  pub A : edges [] ≡ []
  pub B : edges (short (span 10 10) nowhere nowhere) ≡ []
  pub C : edges (short (span 10 11) nowhere nowhere) ≡ 10 ∷ []
  pub D : edges (short (span 10 14) nowhere nowhere) ≡ 10 ∷ []
  pub E : edges (short (span 10 15) nowhere nowhere) ≡ 10 ∷ 12 ∷ []
  pub F : edges (short (span 10 20) nowhere nowhere) ≡ 10 ∷ 17 ∷ []
  pub G : edges (short (span 10 21) nowhere nowhere) ≡ 10 ∷ 14 ∷ 18 ∷ []
  pub H₁₈ : edges (short (span 10 21) (eqb 18) nowhere) ≡ 10 ∷ 14 ∷ 18 ∷ []
  pub H₁₇ : edges (short (span 10 21) (eqb 17) nowhere) ≡ 10 ∷ 17 ∷ []
  pub I₁₃₋₁₅ : edges (short (span 10 15) nowhere (span 13 15)) ≡ 10 ∷ []
  pub I₁₃ : edges (short (span 10 15) nowhere (eqb 13)) ≡ 10 ∷ 12 ∷ []
  pub J₁₆₇-edges : edges_of (pulses (10 ∷ 177 ∷ [])) ≡ 10 ∷ 177 ∷ []
  pub J₁₆₇ : totals_of_lem (pulses (10 ∷ 177 ∷ [])) ≡ six 1 1 0 0 0 0
  pub J₁₆₉-edges : edges_of (pulses (10 ∷ 179 ∷ [])) ≡ 10 ∷ 179 ∷ []
  pub J₁₆₉ : totals_of_lem (pulses (10 ∷ 179 ∷ [])) ≡ six 1 1 0 0 0 0
  pub J₁₆₆-edges : edges_of (pulses (10 ∷ 176 ∷ [])) ≡ 10 ∷ 176 ∷ []
  pub J₁₆₆ : totals_of_lem (pulses (10 ∷ 176 ∷ [])) ≡ six 0 0 0 0 0 0
  pub J₁₇₀-edges : edges_of (pulses (10 ∷ 180 ∷ [])) ≡ 10 ∷ 180 ∷ []
  pub J₁₇₀ : totals_of_lem (pulses (10 ∷ 180 ∷ [])) ≡ six 0 0 0 0 0 0
  pub K-edges : edges_of (pulses (framed (10 ∷ 46 ∷ []))) ≡ 10 ∷ 46 ∷ 178 ∷ 214 ∷ []
  pub K : totals_of_lem (pulses (framed (10 ∷ 46 ∷ []))) ≡ six 2 1 0 1 0 0
  pub K-record : records_of (pulses (framed (10 ∷ 46 ∷ [])))
      ≡ 0 ∷ 20 ∷ 0x60 ∷ 0x04 ∷ 0x7f ∷ 0xff ∷ 1 ∷ 4 ∷ 1 ∷ 0x40 ∷ 0x40 ∷ 0x54 ∷ 0 ∷ 0 ∷ 0 ∷ 0 ∷ 0 ∷ 0 ∷ []
  pub L-edges : edges_of (pulses (framed (10 ∷ 22 ∷ 34 ∷ []))) ≡ 10 ∷ 22 ∷ 34 ∷ 178 ∷ 190 ∷ 202 ∷ []
  pub L : totals_of_lem (pulses (framed (10 ∷ 22 ∷ 34 ∷ []))) ≡ six 3 2 0 0 0 1
  pub M-edges : edges_of (pulses (framed (10 ∷ 13 ∷ 16 ∷ 19 ∷ 22 ∷ []))) ≡ 10 ∷ 13 ∷ 16 ∷ 19 ∷ 22 ∷ 178 ∷ 181 ∷ 184 ∷ 187 ∷ 190 ∷ []
  pub M : totals_of_lem (pulses (framed (10 ∷ 13 ∷ 16 ∷ 19 ∷ 22 ∷ []))) ≡ six 5 4 0 0 1 0
  -- 11001420007fff010200a04054000000000000
  pub printed-record : records_of printed
      ≡ 0x00 ∷ 0x14 ∷ 0x20 ∷ 0x00 ∷ 0x7f ∷ 0xff ∷ 0x01 ∷ 0x02 ∷ 0x00 ∷ 0xa0 ∷ 0x40 ∷ 0x54 ∷ 0 ∷ 0 ∷ 0 ∷ 0 ∷ 0 ∷ 0 ∷ []
  -- 12000100010000000000000000
  pub printed-totals : totals_of_lem printed ≡ six 1 1 0 0 0 0
