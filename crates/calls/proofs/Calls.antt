-- Demand 3, for the fold of a list of requests and so for every chain of calls. The sweep goes on by the accepted pieces; what is handed out end to end
-- is what is due, and with a close every reply. After an accepted close every call is refused with 3.
use Prim.Native.Nat.{ℕ, ◌≤◌}
use native.Mathlib.Omega.{arith}
use mathlib.Core.Path.{◌≡◌, refl, sym, ap, ◌∙◌, subst}
use mathlib.Core.Bool.{true, false}
use mathlib.Core.List.{List, [], ◌∷◌, ◌++◌, append-nil, append_assoc, map}
use lib.ListN.{length}
use Rattle.rules.specs.declared.Refusal.{Refusal}
use Rattle.rules.specs.declared.Refusal.TheVariants.{NotOpen}
use Rattle.rules.specs.declared.Opening.{Opening}
use Rattle.rules.specs.declared.Totals.{Totals}
use Rattle.rules.specs.Settings.{standard}
use Rattle.rules.specs.Lists.{any, All}
use Rattle.rules.specs.Samples.{Trace, nothing, ◌⧺◌, bad}
use Rattle.rules.specs.Machine.{final}
use Rattle.rules.specs.Records.{records, replies, totals}
use Rattle.rules.specs.Calls.{Answer, accepted, refused, open_answer, take_answer, close_answer, handed, fresh, rest}
use Rattle.rules.proofs.ListLaws.{any_append}
use Rattle.rules.proofs.Outcomes.{accounted}
use Rattle.rules.proofs.Joining.{handed-fresh, handed-rest, records-append}
use Rattle.rules.proofs.Answers.{standard_allowed, named, took, first-records, join_assoc, join_nothing}
use Rattle.processor.specs.declared.Processor.{Processor}
use Rattle.processor.specs.State.{none, running, idle_processor, running_processor, processor_of, Within, Made}
use Rattle.std.specs.Prelude.{Ok, Err}
use Rattle.calls.specs.declared.Answered.{Answered}
use Rattle.calls.specs.Post.{open_as, open_of, take_answer_at, take_as, take_buffer_as, longer, close_answer_at, close_as, close_buffer_as}
use Rattle.calls.specs.Whole.{Request, to_take, to_close, Call, taking, closing, request, Bytes, Chain, last, joined_trace, all_handed_out, all_totals, Judged, answer, after_close, Counted, Whole, Begins, Demand3}
use Rattle.calls.specs.OneChain.{EachOneChain}
use Rattle.calls.proofs.Fold.{sweep_as, calls_of, within_more, chain-is, chain-bytes, asked, did}

-- ---- after an accepted close

abbrev Three : Call → Type 0
Three c = answer c ≡ Err NotOpen

record Over (cs : List Call) : Type 0 where
  judged : Judged none cs
  idle : last idle_processor cs ≡ idle_processor
  joined : joined_trace cs ≡ nothing
  handed : all_handed_out cs ≡ []
  totals : all_totals cs ≡ []
  three : All Three cs
  later : All Three (after_close cs)

all-over : (qs : List Request) → Over (calls_of none qs)
unfolding take_answer_at take_answer close_answer_at close_answer processor_of
all-over [] = record { judged = tt; idle = refl; joined = refl; handed = refl; totals = refl; three = tt; later = tt }
all-over (to_take P b ∷ qs) =
    let o = all-over qs in
    record { judged = (refl, o.judged); idle = o.idle; joined = o.joined; handed = o.handed; totals = o.totals; three = (refl, o.three); later = o.later }
all-over (to_close b ∷ qs) =
    let o = all-over qs in
    record { judged = (refl, o.judged); idle = o.idle; joined = o.joined; handed = o.handed; totals = o.totals; three = (refl, o.three); later = o.later }

-- ---- a sweep that runs

-- T is a trace that accepted pieces make
record Sent (ω : Opening) (T : Trace) : Type 0 where
  within : Within ω T
  good : any bad T.flags ≡ false

-- what holds of the calls cs from the sweep with the trace T so far
record Claim (ω : Opening) (T : Trace) (cs : List Call) : Type 0 where
  judged : Judged (running ω T) cs
  sent : Sent ω (T ⧺ joined_trace cs)
  unclosed : all_totals cs ≡ []
      → (last (running_processor ω T) cs ≡ running_processor ω (T ⧺ joined_trace cs)) × (records (handed standard T) ++ all_handed_out cs ≡ records (handed standard (T ⧺ joined_trace cs)))
  closed : (x : Totals) (xs : List Totals) → all_totals cs ≡ x ∷ xs
      → (xs ≡ []) × (x ≡ totals (final standard (T ⧺ joined_trace cs)))
      × (records (handed standard T) ++ all_handed_out cs ≡ records (replies (final standard (T ⧺ joined_trace cs)))) × (last (running_processor ω T) cs ≡ idle_processor)
  later : All Three (after_close cs)

nil-cons : {x : Totals} {xs : List Totals} → [] ≡ x ∷ xs → ⊥
nil-cons q = let z : ◌≡◌ {A = ℕ} 0 1 = cc in omega arith

cons-nil : {x : Totals} {xs : List Totals} → x ∷ xs ≡ [] → ⊥
cons-nil q = let z : ◌≡◌ {A = ℕ} 0 1 = cc in omega arith

cons_head : {x y : Totals} {xs ys : List Totals} → x ∷ xs ≡ y ∷ ys → x ≡ y
cons_head q = cc

cons_tail : {x y : Totals} {xs ys : List Totals} → x ∷ xs ≡ y ∷ ys → xs ≡ ys
cons_tail q = cc

module _ (ω : Opening) (T : Trace) (s : Sent ω T) where
  -- nothing more
  claim_nil : Claim ω T []
  claim_nil =
      let z = sym (join_nothing T) in
      record {
        judged = tt;
        sent = subst (Sent ω) z s;
        unclosed = λ q. (ap (running_processor ω) z, append-nil (records (handed standard T)) ∙ ap (λ (R : Trace). records (handed standard R)) z);
        closed = λ x xs q. absurd (nil-cons q);
        later = tt;
      }

  module _ (qs : List Request) (ih : (R : Trace) → Sent ω R → Claim ω R (calls_of (running ω R) qs)) where
    module _ (P : Trace) where
      more : (X : List ℕ) → records (handed standard T) ++ (records (fresh standard T P) ++ X) ≡ records (handed standard (T ⧺ P)) ++ X
      more X =
          sym (append_assoc (records (handed standard T)) (records (fresh standard T P)) X)
          ∙ ap {B = List ℕ} (λ z. z ++ X)
          (sym (records-append (handed standard T) (fresh standard T P)) ∙ ap records (sym (handed-fresh standard standard_allowed T P s.within.alike)))

      sent_more : (room : ℕ) → All (λ v. v ≤ 255) P.values → take_answer_at (running ω T) P room ≡ accepted → Sent ω (T ⧺ P)
      unfolding take_answer_at
      sent_more room h v =
          record {
            within = within_more ω T P room s.within h v;
            good = any_append bad T.flags P.flags s.good (took true (length T.flags) P room v).good;
          }

      -- a piece is taken, or refused and nothing changes
      claim_take : (b : List ℕ) → All (λ v. v ≤ 255) P.values → (v : Answer) → take_answer_at (running ω T) P (length b) ≡ v
          → Claim ω T (taking P b (take_as v (running ω T) P) (take_buffer_as v (running ω T) P b) ∷ calls_of (sweep_as v (longer (running ω T) P) (running ω T)) qs)
      unfolding processor_of
      claim_take b h accepted v =
          let c = ih (T ⧺ P) (sent_more (length b) h v) in
          let cs = calls_of (running ω (T ⧺ P)) qs in
          let z = join_assoc T P (joined_trace cs) in
          let first = first-records (fresh standard T P) b in
          record {
            judged = (sym v, c.judged);
            sent = subst (Sent ω) z c.sent;
            unclosed =
                λ q. (
                  (c.unclosed q).0 ∙ ap (running_processor ω) z,
                  ap {B = List ℕ} (λ x. records (handed standard T) ++ (x ++ all_handed_out cs)) first ∙ more (all_handed_out cs) ∙ (c.unclosed q).1 ∙ ap (λ (R : Trace). records (handed standard R)) z,
                );
            closed =
                λ x xs q.
                let d = c.closed x xs q in (
                  d.0,
                  d.1 ∙ ap (λ (R : Trace). totals (final standard R)) z,
                  ap {B = List ℕ} (λ y. records (handed standard T) ++ (y ++ all_handed_out cs)) first ∙ more (all_handed_out cs) ∙ d.2 ∙ ap (λ (R : Trace). records (replies (final standard R))) z,
                  d.3,
                );
            later = c.later;
          }
      claim_take b h (refused r) v =
          let c = ih T s in
          record { judged = (sym v, c.judged); sent = c.sent; unclosed = c.unclosed; closed = c.closed; later = c.later }

    -- a close ends the sweep, or is refused and nothing changes
    claim_close : (b : List ℕ) (v : Answer) → close_answer_at (running ω T) (length b) ≡ v
        → Claim ω T (closing b (close_as v (running ω T)) (close_buffer_as v (running ω T) b) ∷ calls_of (sweep_as v none (running ω T)) qs)
    unfolding processor_of
    claim_close b accepted v =
        let o = all-over qs in
        let z : T ≡ T ⧺ joined_trace (calls_of none qs) = sym (join_nothing T) ∙ ap (λ (R : Trace). T ⧺ R) (sym o.joined) in
        record {
          judged = (sym v, o.judged);
          sent = subst (Sent ω) z s;
          unclosed = λ q. absurd (cons-nil q);
          closed =
              λ x xs q. (
                sym (cons_tail q) ∙ o.totals,
                sym (cons_head q) ∙ ap (λ (R : Trace). totals (final standard R)) z,
                ap {B = List ℕ} (λ y. records (handed standard T) ++ (y ++ all_handed_out (calls_of none qs))) (first-records (rest standard T) b)
                    ∙ ap {B = List ℕ} (λ y. records (handed standard T) ++ (records (rest standard T) ++ y)) o.handed
                    ∙ ap {B = List ℕ} (λ y. records (handed standard T) ++ y) (append-nil (records (rest standard T)))
                    ∙ sym (records-append (handed standard T) (rest standard T))
                    ∙ ap records (handed-rest standard standard_allowed T)
                    ∙ ap (λ (R : Trace). records (replies (final standard R))) z,
                o.idle,
              );
          later = o.three;
        }
    claim_close b (refused r) v =
        let c = ih T s in
        record { judged = (sym v, c.judged); sent = c.sent; unclosed = c.unclosed; closed = c.closed; later = c.later }

claim : (qs : List Request) → All Bytes qs → (ω : Opening) (T : Trace) → Sent ω T → Claim ω T (calls_of (running ω T) qs)
claim [] h ω T s = claim_nil ω T s
claim (to_take P b ∷ qs) h ω T s = claim_take ω T s qs (claim qs h.1 ω) P b h.0 (take_answer_at (running ω T) P (length b)) refl
claim (to_close b ∷ qs) h ω T s = claim_close ω T s qs (claim qs h.1 ω) b (close_answer_at (running ω T) (length b)) refl

-- ---- from an accepted opening

-- no tick is taken yet, so nothing is due
handed-nothing : records (handed standard nothing) ≡ []
unfolding handed final records
handed-nothing = refl

counted : (T : Trace) (x : Totals) → x ≡ totals (final standard T) → Counted T x
counted T x e =
    let a = accounted standard T in
    subst (Counted T) (sym e) (record { rules = refl; sum = a.sum; brackets = a.brackets })

whole_of : (ω : Opening) (cs : List Call) → Claim ω nothing cs → Whole ω (running_processor ω nothing) cs
whole_of ω cs c =
    record {
      judged = c.judged;
      good = c.sent.good;
      within = c.sent.within;
      unclosed = λ q. ((c.unclosed q).0, ap {B = List ℕ} (λ y. y ++ all_handed_out cs) (sym handed-nothing) ∙ (c.unclosed q).1);
      closed =
          λ x xs q.
          let d = c.closed x xs q in
          (d.0, counted (joined_trace cs) x d.1, ap {B = List ℕ} (λ y. y ++ all_handed_out cs) (sym handed-nothing) ∙ d.2, d.3);
      later = c.later;
    }

-- mode 1 to 3, and the processor of a sweep with no tick taken
record Begun (ω : Opening) (o : Answered) : Type 0 where
  sent : Sent ω nothing
  processor : o.processor ≡ running_processor ω nothing

begun : (ω : Opening) (o : Answered) → Begins ω o → Begun ω o
unfolding open_of
begun ω o b = go (open_answer ω) refl b.opened
  where
    clash : (n : Refusal) → Ok b.count ≡ Err n → ⊥
    clash n c = let z : ◌≡◌ {A = ℕ} 0 1 = cc in omega arith

    go : (v : Answer) → open_answer ω ≡ v → o ≡ open_as v ω → Begun ω o
    go accepted a d =
        record {
          sent = record { within = record { named = (named ω a).least; alike = refl; short = omega arith; bytes = tt }; good = refl };
          processor = ap (λ (x : Answered). x.processor) d;
        }
    go (refused r) a d = absurd (clash r (sym b.accepts ∙ ap (λ (x : Answered). x.answer) d))

-- the processor of an accepted opening is that of a sweep with no tick
made : (ω : Opening) (o : Answered) → Begun ω o → Made (running ω nothing) o.processor
unfolding processor_of
made ω o b = record { is = b.processor; sound = b.sent.within }

whole : (ω : Opening) (o : Answered) → Begins ω o → (cs : List Call) → Chain o.processor cs → Whole ω o.processor cs
whole ω o e cs h =
    let b = begun ω o e in
    let c = claim (map request cs) (chain-bytes cs o.processor h) ω nothing b.sent in
    let d = subst (Claim ω nothing) (sym (chain-is cs (running ω nothing) o.processor (made ω o b) h)) c in
    subst (λ (p : Processor). Whole ω p cs) (sym b.processor) (whole_of ω cs d)

pub demand_3 : Demand3
demand_3 =
    record {
      whole = whole;
      alike =
          λ ω o e cs ds h g t u j.
          ((whole ω o e cs h).unclosed t).0
          ∙ ap (running_processor ω) j
          ∙ sym ((whole ω o e ds g).unclosed u).0;
    }

-- exactly one list of calls for each list of requests
pub each_one_chain : EachOneChain
each_one_chain ω o e qs h =
    let σ = running ω nothing in
    let m = made ω o (begun ω o e) in
    record {
      calls = calls_of σ qs;
      asked = asked qs σ;
      did = did qs σ;
      only = λ ds q g. chain-is ds σ o.processor m g ∙ ap (calls_of σ) q;
    }
