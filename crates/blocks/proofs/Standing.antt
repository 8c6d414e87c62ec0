-- The bracket at a visit, if one stands there: what is left to do is to deal the edge.
use Prim.Native.Nat.{ℕ, ◌+◌, ◌≤◌}
use native.Mathlib.Omega.{arith}
use mathlib.Core.Path.{◌≡◌, refl, sym, ap, ◌∙◌, subst}
use mathlib.Core.Bool.{Bool, true, false, cond}
use mathlib.Core.List.{List}
use lib.ListN.{length}
use Rattle.rules.specs.declared.Place.{Place}
use Rattle.rules.specs.declared.Pulse.{Pulse}
use Rattle.rules.specs.declared.Counts.{Counts}
use Rattle.std.proofs.Common.{Some}
use Rattle.plane.specs.Words.{bit, Lowest, WithoutLowest}
use Rattle.marking.specs.declared.Words.{Words}
use Rattle.firsts.specs.declared.Firsts.{Firsts}
use Rattle.outcomes.specs.declared.Outcome.{Outcome}
use Rattle.outcomes.specs.Outcomes.{OutcomePost}
use Rattle.settling.specs.Deals.{DealPost}
use Rattle.span.specs.declared.Span.{Span}
use Rattle.front.specs.Post.{value_of}
use Rattle.span.specs.Spans.{TopPost, AbovePost, has_bracket_lem, bracket_in}
use Rattle.span.proofs.Spans.{bracket-none, bracket_there}
use Rattle.visits.specs.Visits.{Wanted, apart_in, second_in}
use Rattle.blocks.proofs.Visiting.{Todo, todo_plain, todo_bracket}
use Rattle.blocks.proofs.Taking.{Bracketed, Visited, visited_plain, visited_bracketed}

-- F2 stands at most 169 ticks behind
pub second-low : (s : Span) (i : ℕ) → apart_in s i ≤ 169
second-low s i = go (bit s.at168 i) (bit s.at167 i)
  where
    go : (a b : Bool) → cond a 168 (cond b 167 169) ≤ 169
    go true b = omega arith
    go false true = omega arith
    go false false = omega arith

-- an outcome of the tick and M that the code finds is one of F2
pub second_outcome : (s : Span) (i u : ℕ) (recent : List ℕ) (base : ℕ) (values : List ℕ) (f : Firsts) (on risk : Words) (e : Pulse) (w : ℕ) (main busy : Bool) (y : Outcome)
    → w ≡ u + apart_in s i → main ≡ (second_in s i u recent base values).main → OutcomePost f on risk i e w main busy y
    → OutcomePost f on risk i e (second_in s i u recent base values).tick.0 (second_in s i u recent base values).main busy y
second_outcome s i u recent base values f on risk e w main busy y ew em op =
    subst (λ (q : Bool). OutcomePost f on risk i e (u + apart_in s i) q busy y) em (subst (λ (q : ℕ). OutcomePost f on risk i e q main busy y) ew op)

module _ (s : Span) (i u : ℕ) (recent : List ℕ) (base : ℕ) (values : List ℕ) (there : Bool) (et : there ≡ has_bracket_lem s i) where
  -- the F2 that the code finds is that of the bracket
  pub second_as : there ≡ true → (f : Pulse) → f ≡ second_in s i u recent base values → Some f ≡ bracket_in s i u recent base values
  second_as on f ef =
      ap Some ef
      ∙ bracket_there s i u recent base values there
      (cond (bit s.at168 i) (bit s.main168 i) (cond (bit s.at167 i) (bit s.main167 i) (bit s.main169 i))) (apart_in s i)
      (value_of recent base values (u + apart_in s i + 1)) et on refl refl refl

  module _ (r : ℕ) (e : Pulse) (l : List Place) (on risk : Words) (c : Counts) (todo from : ℕ) (td : Todo s r on todo from) (low : Lowest todo i) where
    -- l₁, on₁, risk₁, c₁ are what the bracket makes of them, and todo₁ the ticks to visit behind it
    pub record Stood (l₁ : List Place) (on₁ risk₁ : Words) (c₁ : Counts) (todo₁ : ℕ) : Type 0 where
      pub size : length l₁ ≡ length l
      pub todos : Todo s r on₁ todo₁ (i + 1)
      pub visits : (m : List Place) → DealPost l₁ on₁ i e m → Visited l on risk c i e (bracket_in s i u recent base values) m on₁ risk₁ c₁

    pub stood_plain : there ≡ false → (l₁ : List Place) (on₁ risk₁ : Words) (c₁ : Counts) (todo₁ todo₂ : ℕ) → WithoutLowest todo todo₂ → l₁ ≡ l → c₁ ≡ c → on₁ ≡ on → risk₁ ≡ risk
        → todo₁ ≡ todo₂ → Stood l₁ on₁ risk₁ c₁ todo₁
    stood_plain off l₁ on₁ risk₁ c₁ todo₁ todo₂ w el ec eo er et' =
        record {
          size = ap (length {A = Place}) el;
          todos = subst (λ (v : Words). Todo s r v todo₁ (i + 1)) (sym eo) (subst (λ (n : ℕ). Todo s r on n (i + 1)) (sym et') (todo_plain s r on todo from td i todo₂ low w));
          visits = λ m d.
              let d' = subst (λ (p : List Place). DealPost p on i e m) el (subst (λ (v : Words). DealPost l₁ v i e m) eo d) in
              let k = visited_plain l on risk c i e (bracket_in s i u recent base values) m low.below (sym (bracket-none s i u recent base values there et off)) d' in
              subst (λ (v : Words). Visited l on risk c i e (bracket_in s i u recent base values) m v risk₁ c₁) (sym eo)
              (subst (λ (v : Words). Visited l on risk c i e (bracket_in s i u recent base values) m on v c₁) (sym er)
              (subst (λ (n : Counts). Visited l on risk c i e (bracket_in s i u recent base values) m on risk n) (sym ec) k));
        }

    pub stood_bracketed : (f2 : Pulse) → Some f2 ≡ bracket_in s i u recent base values → (l₁ : List Place) (on₁ risk₁ : Words) (c₁ : Counts) (todo₁ due a todo₂ : ℕ) (l₂ : List Place)
        (on₂ risk₂ : Words) (c₂ : Counts) → Bracketed l on risk c i e f2 l₂ on₂ risk₂ c₂ → TopPost s.due r due → AbovePost due i a → Wanted s on₂ a todo₂ → l₁ ≡ l₂ → c₁ ≡ c₂ → on₁ ≡ on₂
        → risk₁ ≡ risk₂ → todo₁ ≡ todo₂ → Stood l₁ on₁ risk₁ c₁ todo₁
    stood_bracketed f2 eb l₁ on₁ risk₁ c₁ todo₁ due a todo₂ l₂ on₂ risk₂ c₂ fr top ab w el ec eo er et' =
        record {
          size = ap (length {A = Place}) el ∙ fr.size;
          todos =
              subst (λ (v : Words). Todo s r v todo₁ (i + 1)) (sym eo)
              (subst (λ (n : ℕ). Todo s r on₂ n (i + 1)) (sym et') (todo_bracket s r on todo from td due i a todo₂ on₂ top low ab w));
          visits = λ m d.
              let d' = subst (λ (p : List Place). DealPost p on₂ i e m) el (subst (λ (v : Words). DealPost l₁ v i e m) eo d) in
              let k = visited_bracketed l on risk c i e (bracket_in s i u recent base values) f2 l₂ on₂ risk₂ c₂ m low.below (sym eb) fr d' in
              subst (λ (v : Words). Visited l on risk c i e (bracket_in s i u recent base values) m v risk₁ c₁) (sym eo)
              (subst (λ (v : Words). Visited l on risk c i e (bracket_in s i u recent base values) m on₂ v c₁) (sym er)
              (subst (λ (n : Counts). Visited l on risk c i e (bracket_in s i u recent base values) m on₂ risk₂ n) (sym ec) k));
        }
