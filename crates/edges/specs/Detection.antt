-- What detection answers, for every trace with the flags F that the words given belong to.
use Rattle.std.specs.Prelude.{ℕ, ◌+◌, List}
use Rattle.rules.specs.Samples.{A, P, N}
use Rattle.rules.specs.Sentences.{lead_at}
use Rattle.edges.specs.declared.Past.{Past}
use Rattle.edges.specs.declared.Found.{Found}
use Rattle.plane.specs.Words.{Holds}
use Rattle.edges.specs.Planes.{falls_at, calm_at, chain_at, untrailed, drawn_out, has_edge}

-- A and P of the ticks b to b+127 give the leads of b+62 to b+125
pub record Leads (a p a₀ p₀ r : ℕ) : Type 0 where
  pub holds : (F : List ℕ) (b : ℕ) → Holds (A F) b a₀ → Holds (A F) (b + 64) a → Holds (P F) b p₀ → Holds (P F) (b + 64) p
      → Holds (lead_at F) (b + 62) r

-- A, P and N of the ticks b to b+127 give the ticks of b+62 to b+125 that are a trail if video is high
pub record Trails (a p n a₀ p₀ n₀ r : ℕ) : Type 0 where
  pub holds : (F : List ℕ) (b : ℕ) → Holds (A F) b a₀ → Holds (A F) (b + 64) a → Holds (P F) b p₀ → Holds (P F) (b + 64) p
      → Holds (N F) b n₀ → Holds (N F) (b + 64) n → Holds (falls_at F) (b + 62) r

-- leads and calm ticks of b to b+127 and the chain of b to b+63 give the chain of b+64 to b+127
pub record Chain (l l₀ k k₀ h₀ r : ℕ) : Type 0 where
  pub holds : (F : List ℕ) (b : ℕ) → Holds (lead_at F) b l₀ → Holds (lead_at F) (b + 64) l → Holds (calm_at F) b k₀ → Holds (calm_at F) (b + 64) k
      → Holds (chain_at F) b h₀ → Holds (chain_at F) (b + 64) r

-- leads and calm ticks of b to b+127 give the ticks of b+57 to b+120 that no trail follows too soon; the plane is that of the ticks before these
pub record NoTrail (l l₀ k k₀ r : ℕ) : Type 0 where
  pub holds : (F : List ℕ) (b : ℕ) → Holds (lead_at F) b l₀ → Holds (lead_at F) (b + 64) l → Holds (calm_at F) b k₀ → Holds (calm_at F) (b + 64) k
      → Holds (untrailed F) (b + 56) r

-- calm ticks and the chain of b to b+127 give the ticks of b+57 to b+120 in a long run; the plane is that of the ticks before these
pub record Long (k k₀ h h₀ r : ℕ) : Type 0 where
  pub holds : (F : List ℕ) (b : ℕ) → Holds (calm_at F) b k₀ → Holds (calm_at F) (b + 64) k → Holds (chain_at F) b h₀ → Holds (chain_at F) (b + 64) h
      → Holds (drawn_out F) (b + 56) r

-- leads, calm ticks and the chain of b to b+127 give the edges of b+57 to b+120
pub record Edges (l l₀ k k₀ h h₀ r : ℕ) : Type 0 where
  pub holds : (F : List ℕ) (b : ℕ) → Holds (lead_at F) b l₀ → Holds (lead_at F) (b + 64) l → Holds (calm_at F) b k₀ → Holds (calm_at F) (b + 64) k
      → Holds (chain_at F) b h₀ → Holds (chain_at F) (b + 64) h → Holds (has_edge F) (b + 57) r

-- the words before belong to the trace: A, P and N of the 64 ticks from g+2 on, leads, calm ticks and chain of those from g on
pub record Behind (F : List ℕ) (g : ℕ) (past : Past) : Type 0 where
  pub a : Holds (A F) (g + 2) past.a
  pub p : Holds (P F) (g + 2) past.p
  pub n : Holds (N F) (g + 2) past.n
  pub lead : Holds (lead_at F) g past.lead
  pub calm : Holds (calm_at F) g past.calm
  pub chain : Holds (chain_at F) g past.chain

-- and so do the words found: leads, calm ticks and chain of the 64 ticks from g+64 on, edges of those from g+57 on
pub record Ahead (F : List ℕ) (g : ℕ) (r : Found) : Type 0 where
  pub lead : Holds (lead_at F) (g + 64) r.lead
  pub calm : Holds (calm_at F) (g + 64) r.calm
  pub chain : Holds (chain_at F) (g + 64) r.chain
  pub edge : Holds (has_edge F) (g + 57) r.edge

-- the next 64 ticks, whose A, P and N are those from g+66 on, show the words found
pub record Detected (past : Past) (a p n : ℕ) (r : Found) : Type 0 where
  pub holds : (F : List ℕ) (g : ℕ) → Behind F g past → Holds (A F) (g + 66) a → Holds (P F) (g + 66) p → Holds (N F) (g + 66) n → Ahead F g r
