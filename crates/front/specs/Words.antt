-- The words and the kept values as functions of the flags and the values taken.
use Rattle.std.specs.Prelude.{ℕ, zero, suc, ◌+◌, ◌*◌, Bool, cond, List, ◌++◌, length, drop, replicate}
use Rattle.rules.specs.Samples.{A, P, N, M}
use Rattle.rules.specs.Sentences.{lead_at}
use Rattle.edges.specs.Planes.{calm_at, chain_at, has_edge}
use Rattle.front.specs.declared.words.Front.{Front}

-- ---- words

-- n ticks of the plane F from tick b on, as a number: bit i is that of tick b+i
unfoldable pub word_from : ℕ → (ℕ → Bool) → ℕ → ℕ
word_from zero F b = 0
word_from (suc n) F b = cond (F b) 1 0 + 2 * word_from n F (suc b)

unfoldable pub word_of : (ℕ → Bool) → ℕ → ℕ
unfolding word_from
word_of F b = word_from 64 F b

-- the flags with 320 zeros before them, so that every word starts at a tick: tick t of the sweep is here tick t+320
unfoldable pub padded : List ℕ → List ℕ
padded F = replicate 320 0 ++ F

-- the words once the flags F are taken
unfoldable pub front_of : List ℕ → Front
unfolding word_of padded
front_of F =
    let w = padded F in
    let n = length F in
    record {
      a = word_of (A w) (n + 256);
      a1 = word_of (A w) (n + 192);
      p = word_of (P w) (n + 256);
      p1 = word_of (P w) (n + 192);
      n = word_of (N w) (n + 256);
      n1 = word_of (N w) (n + 192);
      l = word_of (lead_at w) (n + 254);
      l1 = word_of (lead_at w) (n + 190);
      k = word_of (calm_at w) (n + 254);
      k1 = word_of (calm_at w) (n + 190);
      h = word_of (chain_at w) (n + 254);
      h1 = word_of (chain_at w) (n + 190);
      e = word_of (has_edge w) (n + 247);
      e1 = word_of (has_edge w) (n + 183);
      e2 = word_of (has_edge w) (n + 119);
      e3 = word_of (has_edge w) (n + 55);
      m = word_of (M w) (n + 256);
      m1 = word_of (M w) (n + 192);
      m2 = word_of (M w) (n + 128);
      m3 = word_of (M w) (n + 64);
    }

-- ---- values

-- the last 256 of the values taken, the newest last
unfoldable pub recent_of : List ℕ → List ℕ
recent_of values = drop (length values) (replicate 256 0 ++ values)
