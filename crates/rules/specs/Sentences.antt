-- Document 01's sentences in their literal form, where the rules use a form made for computing. Laws tie the two.
use Rattle.std.specs.Prelude.{ℕ, zero, suc, ◌+◌, ◌*◌, ◌≤◌, ◌<◌, Bool, true, false, not, ◌&&◌, ◌||◌, cond, List, ◌⊎◌, ◌≡◌, leb, ltb}
use Rattle.rules.specs.declared.Reply.{Reply}
use Rattle.rules.specs.Settings.{Settings}
use Rattle.rules.specs.Samples.{odd}
use Rattle.rules.specs.Edges.{actual, pseudo, extra, lead, falls, since, kind_at}
use Rattle.rules.specs.Replies.{f1}

-- ---- edges, in the flags F of a trace

unfoldable pub lead_at : List ℕ → ℕ → Bool
unfolding lead
lead_at F t = lead (since F t)

-- "Video goes high at a lead. High video goes low at a trail, unless that tick is a lead."
-- Video is high after tick t.
unfoldable pub high_after : List ℕ → ℕ → Bool
unfolding lead_at falls
high_after F zero = lead_at F zero
high_after F (suc t) = lead_at F (suc t) || (high_after F t && not (falls (since F (suc t))))

-- "Trail at t, met while high"
unfoldable pub trail_at : List ℕ → ℕ → Bool
unfolding high_after falls
trail_at F zero = false
trail_at F (suc t) = high_after F t && falls (since F (suc t))

-- neither a lead nor a trail at t
pub record Plain (F : List ℕ) (t : ℕ) : Type 0 where
  pub lead : lead_at F t ≡ false
  pub trail : trail_at F t ≡ false

-- e is the next trail or lead after t
pub record Next (F : List ℕ) (t e : ℕ) : Type 0 where
  pub later : t < e
  pub between : (i : ℕ) → t < i → i < e → Plain F i
  pub ends : (lead_at F e || trail_at F e) ≡ true

-- "A run goes from a lead s to the next trail or lead, e."
pub record Run (F : List ℕ) (s e : ℕ) : Type 0 where
  pub lead : lead_at F s ≡ true
  pub next : Next F s e

module _ (set : Settings) (F : List ℕ) (t : ℕ) where
  -- "An actual edge is a lead with no trail at the next tick.": none fewer than `shortest` ticks after it
  pub record Actual : Type 0 where
    pub lead : lead_at F t ≡ true
    pub trails : (i : ℕ) → t < i → i < t + set.shortest → trail_at F i ≡ false

  -- "If e-s > 5: a trail at e gives a pseudo edge at e-4"
  pub record Pseudo : Type 0 where
    pub s : ℕ
    pub e : ℕ
    pub run : Run F s e
    pub long : s + set.longest < e
    pub trail : trail_at F e ≡ true
    pub tick : t + 4 ≡ e

  -- "and extra edges at s+4j (j = 1, 2, ..) up to e-8; a lead at e gives extra edges at s+4j up to e-4."
  pub record Extra : Type 0 where
    pub s : ℕ
    pub e : ℕ
    pub j : ℕ
    pub run : Run F s e
    pub long : s + set.longest < e
    pub first : 1 ≤ j
    pub tick : t ≡ s + 4 * j
    pub up_to : ((trail_at F e ≡ true) × (t + 8 ≤ e)) ⊎ ((lead_at F e ≡ true) × (t + 4 ≤ e))

-- the edges of flags F are those of the sentences
pub record SaidEdges (set : Settings) (F : List ℕ) : Type 0 where
  pub actual-is : (t : ℕ) → kind_at set F t ≡ actual → Actual set F t
  pub is-actual : (t : ℕ) → Actual set F t → kind_at set F t ≡ actual
  pub pseudo-is : (t : ℕ) → kind_at set F t ≡ pseudo → Pseudo set F t
  pub is-pseudo : (t : ℕ) → Pseudo set F t → kind_at set F t ≡ pseudo
  pub extra-is : (t : ℕ) → kind_at set F t ≡ extra → Extra set F t
  pub is-extra : (t : ℕ) → Extra set F t → kind_at set F t ≡ extra

-- a flag byte without P, N and M if it lacks A
abbrev pub bare : ℕ → ℕ
bare b = cond (odd b) b 0

-- ---- positions

-- "Position k [..] of a reply with F1 at q covers ticks q+12k-1 to q+12k+1."
pub record Covered (q k u : ℕ) : Type 0 where
  pub from : q + 12 * k ≤ u + 1
  pub to : u ≤ q + 12 * k + 1

-- "u-q within 2 of 12k, k 1 to 14"
pub record Within (q k u : ℕ) : Type 0 where
  pub least : 1 ≤ k
  pub most : k ≤ 14
  pub from : q + 12 * k ≤ u + 2
  pub to : u ≤ q + 12 * k + 2

-- F1 is one of the n ticks from tick a on
abbrev pub in_span : ℕ → ℕ → Reply → Bool
in_span a n r = leb a (f1 r) && ltb (f1 r) (a + n)
