-- A list of requests as a fold over sweeps: each is carried out at the sweep that those before it made. A chain of calls that meet their contracts is
-- this fold.
use Prim.Native.Nat.{ℕ, ◌≤◌}
use native.Mathlib.Omega.{arith}
use mathlib.Core.Path.{◌≡◌, refl, sym, ap, subst}
use mathlib.Core.Bool.{true}
use mathlib.Core.List.{List, [], ◌∷◌, map}
use lib.ListN.{length, length-append}
use Rattle.rules.specs.declared.Opening.{Opening}
use Rattle.rules.specs.Lists.{All}
use Rattle.rules.specs.Samples.{Trace, ◌⧺◌}
use Rattle.rules.specs.Calls.{Answer, accepted, refused}
use Rattle.rules.proofs.ListLaws.{all_append}
use Rattle.rules.proofs.Answers.{took}
use Rattle.processor.specs.declared.Processor.{Processor}
use Rattle.processor.specs.State.{Sweep, none, running, processor_of, Within, Sound, Made}
use Rattle.calls.specs.declared.Answered.{Answered}
use Rattle.calls.specs.declared.Closed.{Closed}
use Rattle.calls.specs.Post.{longer, take_answer_at, take_as, take_buffer_as, close_answer_at, close_as, close_buffer_as}
use Rattle.calls.specs.Whole.{Request, to_take, to_close, Call, taking, closing, request, Bytes, left, Chain, sweep_by}
use Rattle.calls.specs.OneChain.{AllDid}

-- the sweep after an answer: σ' if the call is carried out
abbrev pub sweep_as : Answer → Sweep → Sweep → Sweep
sweep_as accepted σ' σ = σ'
sweep_as (refused r) σ' σ = σ

-- what a request makes of a sweep
abbrev pub next : Sweep → Request → Sweep
next σ (to_take P b) = sweep_as (take_answer_at σ P (length b)) (longer σ P) σ
next σ (to_close b) = sweep_as (close_answer_at σ (length b)) none σ

-- the call that it is
abbrev pub call_of : Sweep → Request → Call
call_of σ (to_take P b) = taking P b (take_as (take_answer_at σ P (length b)) σ P) (take_buffer_as (take_answer_at σ P (length b)) σ P b)
call_of σ (to_close b) = closing b (close_as (close_answer_at σ (length b)) σ) (close_buffer_as (close_answer_at σ (length b)) σ b)

abbrev pub calls_of : Sweep → List Request → List Call
calls_of σ [] = []
calls_of σ (q ∷ qs) = call_of σ q ∷ calls_of (next σ q) qs

-- ---- each call leaves the processor of the next sweep

-- a sweep with an accepted piece more is within the limits
pub within_more : (ω : Opening) (T P : Trace) (room : ℕ) → Within ω T → All (λ v. v ≤ 255) P.values → take_answer_at (running ω T) P room ≡ accepted → Within ω (T ⧺ P)
unfolding take_answer_at
within_more ω T P room w h v =
    let t = took true (length T.flags) P room v in
    record {
      named = w.named;
      alike = omega (arith, w.alike, t.alike, length-append T.flags P.flags, length-append T.values P.values);
      short = omega (arith, t.sweep, length-append T.flags P.flags);
      bytes = all_append (λ v. v ≤ 255) T.values P.values w.bytes h;
    }

sound-take : (σ : Sweep) (P : Trace) (room : ℕ) → Sound σ → All (λ v. v ≤ 255) P.values → take_answer_at σ P room ≡ accepted → Sound (longer σ P)
sound-take none P room s h v = tt
sound-take (running ω T) P room s h v = within_more ω T P room s h v

pub took_made : (σ : Sweep) (P : Trace) (room : ℕ) (v : Answer) → take_answer_at σ P room ≡ v → Sound σ → All (λ v. v ≤ 255) P.values
    → Made (sweep_as v (longer σ P) σ) (take_as v σ P).processor
took_made σ P room accepted e s h = record { is = refl; sound = sound-take σ P room s h e }
took_made σ P room (refused r) e s h = record { is = refl; sound = s }

pub closed-made : (σ : Sweep) (v : Answer) → Sound σ → Made (sweep_as v none σ) (close_as v σ).processor
unfolding processor_of
closed-made σ accepted s = record { is = refl; sound = tt }
closed-made σ (refused r) s = record { is = refl; sound = s }

-- ---- a chain is the fold

take_same : (P : Trace) (b : List ℕ) (r r' : Answered) (b' b'' : List ℕ) (cs ds : List Call) → r ≡ r' → b' ≡ b'' → cs ≡ ds → taking P b r b' ∷ cs ≡ taking P b r' b'' ∷ ds
take_same P b r r' b' b'' cs ds e f g = λ i. taking P b (e i) (f i) ∷ g i

close-same : (b : List ℕ) (r r' : Closed) (b' b'' : List ℕ) (cs ds : List Call) → r ≡ r' → b' ≡ b'' → cs ≡ ds → closing b r b' ∷ cs ≡ closing b r' b'' ∷ ds
close-same b r r' b' b'' cs ds e f g = λ i. closing b (e i) (f i) ∷ g i

pub chain-is : (cs : List Call) (σ : Sweep) (p : Processor) → Made σ p → Chain p cs → cs ≡ calls_of σ (map request cs)
chain-is [] σ p m h = refl
chain-is (taking P b r b' ∷ cs) σ p m h =
    let v = take_answer_at σ P (length b) in
    let e = h.1.result σ m in
    let k = subst (λ (t : Answered). Made (sweep_as v (longer σ P) σ) t.processor) (sym e) (took_made σ P (length b) v refl m.sound h.0) in
    take_same P b r (take_as v σ P) b' (take_buffer_as v σ P b) cs (calls_of (sweep_as v (longer σ P) σ) (map request cs)) e (h.1.buffer σ m)
    (chain-is cs (sweep_as v (longer σ P) σ) r.processor k h.2)
chain-is (closing b r b' ∷ cs) σ p m h =
    let v = close_answer_at σ (length b) in
    let e = h.1.result σ m in
    let k = subst (λ (t : Closed). Made (sweep_as v none σ) t.processor) (sym e) (closed-made σ v m.sound) in
    close-same b r (close_as v σ) b' (close_buffer_as v σ b) cs (calls_of (sweep_as v none σ) (map request cs)) e (h.1.buffer σ m)
    (chain-is cs (sweep_as v none σ) r.processor k h.2)

pub chain-bytes : (cs : List Call) (p : Processor) → Chain p cs → All Bytes (map request cs)
chain-bytes [] p h = tt
chain-bytes (c ∷ cs) p h = (h.0, chain-bytes cs (left c) h.2)

-- ---- the fold asks what it was asked, and does what document 01 says

pub asked : (qs : List Request) (σ : Sweep) → map request (calls_of σ qs) ≡ qs
asked [] σ = refl
asked (to_take P b ∷ qs) σ = ap {B = List Request} (λ z. to_take P b ∷ z) (asked qs (next σ (to_take P b)))
asked (to_close b ∷ qs) σ = ap {B = List Request} (λ z. to_close b ∷ z) (asked qs (next σ (to_close b)))

took_did : (σ : Sweep) (P : Trace) (v : Answer) (qs : List Request) → AllDid (sweep_as v (longer σ P) σ) (calls_of (sweep_as v (longer σ P) σ) qs)
    → AllDid (sweep_by (take_as v σ P).answer (longer σ P) σ) (calls_of (sweep_as v (longer σ P) σ) qs)
took_did σ P accepted qs h = h
took_did σ P (refused r) qs h = h

closed-did : (σ : Sweep) (v : Answer) (qs : List Request) → AllDid (sweep_as v none σ) (calls_of (sweep_as v none σ) qs)
    → AllDid (sweep_by (close_as v σ).answer none σ) (calls_of (sweep_as v none σ) qs)
closed-did σ accepted qs h = h
closed-did σ (refused r) qs h = h

pub did : (qs : List Request) (σ : Sweep) → AllDid σ (calls_of σ qs)
did [] σ = tt
did (to_take P b ∷ qs) σ = ((refl, refl), took_did σ P (take_answer_at σ P (length b)) qs (did qs (next σ (to_take P b))))
did (to_close b ∷ qs) σ = ((refl, refl), closed-did σ (close_answer_at σ (length b)) qs (did qs (next σ (to_close b))))
