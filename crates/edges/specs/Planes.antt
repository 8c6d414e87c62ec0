-- The planes of a trace beside A, P, N, M and the leads: facts of each tick t of the flags F.
use Rattle.std.specs.Prelude.{ℕ, ◌+◌, ◌%◌, Bool, not, ◌&&◌, ◌||◌, List, eqb, ltb}
use Rattle.rules.specs.Settings.{standard}
use Rattle.rules.specs.Edges.{falls, is_edge, since, age_at, kind_at}
use Rattle.rules.specs.Sentences.{lead_at}

-- t is a trail if video is high there
unfoldable pub falls_at : List ℕ → ℕ → Bool
unfolding falls
falls_at F t = falls (since F t)

-- t is a calm tick: neither a lead nor, if video is high there, a trail
unfoldable pub calm_at : List ℕ → ℕ → Bool
unfolding lead_at falls_at
calm_at F t = not (lead_at F t) && not (falls_at F t)

-- a tick of age a is s+4j, j from 1 on, s being the lead of its run
unfoldable pub chain_of : ℕ → Bool
chain_of a = ltb 1 a && eqb (a % 4) 1

-- t is in the chain of its run
unfoldable pub chain_at : List ℕ → ℕ → Bool
unfolding age_at chain_of
chain_at F t = chain_of (age_at F t)

-- from y+5 to y+8 no trail comes before a lead
abbrev pub untrailed : List ℕ → ℕ → Bool
untrailed F y =
    lead_at F (y + 5) || (calm_at F (y + 5) && (lead_at F (y + 6) || (calm_at F (y + 6) && (lead_at F (y + 7) || (calm_at F (y + 7) && (lead_at F (y + 8) || calm_at F (y + 8)))))))

-- y and y+1 are calm, and one of y+1 to y+4 is in the chain
abbrev pub drawn_out : List ℕ → ℕ → Bool
drawn_out F y = (calm_at F (y + 1) && calm_at F (y + 0)) && (chain_at F (y + 1) || chain_at F (y + 2) || chain_at F (y + 3) || chain_at F (y + 4))

-- an edge stands at t
unfoldable pub has_edge : List ℕ → ℕ → Bool
unfolding kind_at
has_edge F t = is_edge (kind_at standard F t)
