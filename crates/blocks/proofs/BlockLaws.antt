-- A block: the words go on, the machine works what became known, and the records of what is due stand behind those before.
use Prim.Native.Nat.{ℕ, ◌+◌, ◌-◌}
use native.Mathlib.Omega.{arith}
use mathlib.Core.Path.{◌≡◌, sym, ap, ◌∙◌, subst}
use mathlib.Core.List.{List, ◌++◌, append_assoc}
use lib.ListN.{length, length-append}
use Rattle.rules.specs.declared.Reply.{Reply}
use Rattle.rules.specs.declared.Place.{Place}
use Rattle.rules.specs.declared.Counts.{Counts}
use Rattle.rules.specs.Settings.{standard}
use Rattle.rules.specs.Samples.{Trace, ◌⧺◌}
use Rattle.rules.specs.Machine.{State}
use Rattle.rules.specs.Records.{records}
use Rattle.rules.specs.Calls.{fresh}
use Rattle.rules.proofs.Joining.{assoc, fresh_join, handed-fresh, handed-done, after_known, records-append, records-length}
use Rattle.places.specs.Places.{machine_of}
use Rattle.rules.specs.Buffers.{over-at}
use Rattle.rules.proofs.Buffers.{over-at-more}
use Rattle.packing.specs.declared.Planes.{Planes}
use Rattle.front.specs.declared.words.Front.{Front}
use Rattle.span.specs.declared.Span.{Span}
use Rattle.processor.specs.declared.Progress.{Progress}
use Rattle.front.specs.Words.{padded, front_of}
use Rattle.front.specs.Post.{Low, AdvancePost, Reads}
use Rattle.span.specs.Spans.{Spanned, SpanPost}
use Rattle.blocks.specs.Steps.{state_at, Bounded, Shows, Fed, Next, BlockPost}
use Rattle.processor.specs.Arrays.{machine_at}
use Rattle.processor.specs.Arrays.{machine_in}
use Rattle.rules.proofs.Answers.{standard_allowed}
use Rattle.blocks.proofs.Working.{Gives, Works}

-- the replies that the block Q adds to those done
block_done : (R Q : Trace) → length R.flags ≡ length R.values
    → (state_at (R ⧺ Q) (length (R.flags ++ Q.flags) - 178)).done ≡ (state_at (R ⧺ Q) (length R.flags - 178)).done ++ fresh standard R Q
block_done R Q a =
    sym (handed-done standard standard_allowed (R ⧺ Q))
    ∙ handed-fresh standard standard_allowed R Q a
    ∙ ap {B = List Reply} (λ z. z ++ fresh standard R Q)
    (handed-done standard standard_allowed R ∙ ap (λ (s : State). s.done) (sym (after_known standard standard_allowed R Q a)))

module _ (o : Progress) (x : Planes) (r t : ℕ) (recent : List ℕ) (base : ℕ) (values : List ℕ) (b : List ℕ) (f : Front) (s : Span) (ps : List Place) (c : Counts) (at : ℕ) (b' : List ℕ)
    (ad : AdvancePost o.front x r f) (sp : SpanPost f s) (wk : Works (machine_at o) s r t recent base values o.at b (machine_in ps c) at b') where
  module _ (T P Q : Trace) (b₀ : List ℕ) (fed : Fed T P b₀ o b) (lr : length Q.flags ≡ r) (low : Low Q.flags x) (nx : Next T P Q t recent base values b₀ b) where
    alike_R : length (T.flags ++ P.flags) ≡ length (T.values ++ P.values)
    alike_R = omega (arith, nx.alike, nx.alike-piece, length-append T.flags P.flags, length-append T.values P.values)

    ticks_R : length (T.flags ++ P.flags) + r ≡ t
    ticks_R = omega (arith, nx.ticks, lr, length-append T.flags P.flags)

    ticks_RQ : length ((T.flags ++ P.flags) ++ Q.flags) ≡ t
    ticks_RQ = omega (arith, ticks_R, lr, length-append (T.flags ++ P.flags) Q.flags)

    front_RQ : f ≡ front_of ((T.flags ++ P.flags) ++ Q.flags)
    front_RQ = ad.result (T.flags ++ P.flags) Q.flags fed.front lr low

    shows : Shows ((T ⧺ P) ⧺ Q) t s recent base values
    shows =
        let e = assoc T P Q in
        record {
          bounded = subst Bounded e nx.bounded;
          ticks = ticks_RQ;
          spanned = subst (λ (n : ℕ). Spanned (padded ((T.flags ++ P.flags) ++ Q.flags)) n s) ticks_RQ (sp.result ((T.flags ++ P.flags) ++ Q.flags) front_RQ);
          reads = subst (λ (Z : Trace). Reads Z t recent base values) e nx.reads;
        }

    -- both pieces' replies
    joined : fresh standard T (P ⧺ Q) ≡ fresh standard T P ++ fresh standard (T ⧺ P) Q
    joined = fresh_join standard standard_allowed T P Q nx.alike nx.alike-piece

    lengths : length (fresh standard T (P ⧺ Q)) ≡ length (fresh standard T P) + length (fresh standard (T ⧺ P) Q)
    lengths = ap length joined ∙ length-append (fresh standard T P) (fresh standard (T ⧺ P) Q)

    gives : Gives (machine_at o) s r t recent base values o.at b ((T ⧺ P) ⧺ Q) (fresh standard (T ⧺ P) Q) (machine_in ps c) at b'
    gives =
        let z : t - r - 178 ≡ length (T.flags ++ P.flags) - 178 = omega (arith, ticks_R) in
        wk.result ((T ⧺ P) ⧺ Q) (fresh standard (T ⧺ P) Q)
        (record {
          shows = shows;
          within = omega (arith, ticks_R);
          machine =
              fed.machine ∙ ap machine_of (sym (after_known standard standard_allowed (T ⧺ P) Q alike_R)) ∙ ap (λ (c : ℕ). machine_of (state_at ((T ⧺ P) ⧺ Q) c)) (sym z);
          done =
              ap (λ (c : ℕ). (state_at ((T ⧺ P) ⧺ Q) (c - 178)).done) (sym ticks_RQ)
              ∙ block_done (T ⧺ P) Q alike_R
              ∙ ap (λ (c : ℕ). (state_at ((T ⧺ P) ⧺ Q) c).done ++ fresh standard (T ⧺ P) Q) (sym z);
          room = omega (arith, fed.place, lengths, nx.room, nx.same);
        })

    pub fed_next : Fed T (P ⧺ Q) b₀ (record { front = f; places = ps; counts = c; at = at }) b'
    fed_next =
        let e = append_assoc T.flags P.flags Q.flags in
        record {
          front = front_RQ ∙ ap front_of e;
          machine =
              gives.machine
              ∙ ap (λ (c : ℕ). machine_of (state_at ((T ⧺ P) ⧺ Q) (c - 178))) (sym ticks_RQ ∙ ap length e)
              ∙ ap (λ (Z : Trace). machine_of (state_at Z (length (T.flags ++ (P.flags ++ Q.flags)) - 178))) (sym (assoc T P Q));
          place = omega (arith, gives.place, fed.place, lengths);
          buffer =
              gives.buffer
              ∙ ap {B = List ℕ} (λ z. over-at (records (fresh standard (T ⧺ P) Q)) o.at z) fed.buffer
              ∙ over-at-more (records (fresh standard T P)) (records (fresh standard (T ⧺ P) Q)) b₀ 0 o.at (omega (arith, fed.place, records-length (fresh standard T P))) (omega (arith, fed.place, lengths, nx.room))
              ∙ ap (λ (z : List ℕ). over-at z 0 b₀) (sym (records-append (fresh standard T P) (fresh standard (T ⧺ P) Q)) ∙ ap records (sym joined));
        }

  pub block_law : BlockPost o x r t recent base values b (record { front = f; places = ps; counts = c; at = at }) b'
  block_law = record { same = wk.same; result = fed_next }
