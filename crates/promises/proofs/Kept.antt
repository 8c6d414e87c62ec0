-- Each promise, from the theorem or the contract that keeps it.
use Prim.Native.Nat.{◌≤◌}
use mathlib.Core.Path.{◌≡◌, refl, sym}
use mathlib.Core.List.{List}
use lib.Dec.{leb}
use Rattle.rules.specs.declared.Opening.{Opening}
use Rattle.rules.specs.declared.Reply.{Reply}
use Rattle.rules.specs.Settings.{Settings, Allowed}
use Rattle.rules.specs.Lists.{All}
use Rattle.rules.specs.Samples.{Trace, bit}
use Rattle.rules.specs.Machine.{final}
use Rattle.rules.specs.Records.{replies, flags_of}
use Rattle.rules.specs.Ranges.{ReplyFacts}
use Rattle.rules.specs.Examples.{edges as exampleEdges, totals_of_lem, records_of}
use Rattle.rules.proofs.Examples.{both_sides}
use Rattle.rules.proofs.ListLaws.{all_map}
use Rattle.rules.proofs.EdgeSentences.{said-edges}
use Rattle.rules.proofs.EachReply.{all_facts}
use Rattle.processor.specs.declared.Processor.{Processor}
use Rattle.std.specs.Prelude.{Ok}
use Rattle.calls.specs.declared.Answered.{Answered}
use Rattle.calls.specs.Post.{open_of}
use Rattle.calls.specs.Whole.{Call, Whole, Begins}
use Rattle.calls.proofs.Calls.{demand_3, each_one_chain}
use Rattle.lines.proofs.Turns.{any-cutting}
use Rattle.encoder.proofs.RoundTrip.{round_trip}
use Rattle.promises.specs.Promises.{Run, Exact, Promises}
use Rattle.promises.proofs.Numbers.{open-numbers, take-three, take-numbers, close-three, close-numbers, whole_numbers}

abbrev opened : Processor → Answered
opened p = record { answer = Ok 0; processor = p }

begins : (ω : Opening) (p : Processor) → open_of ω ≡ opened p → Begins ω (opened p)
begins ω p e = record { opened = sym e; count = 0; accepts = refl }

whole : (ω : Opening) (p : Processor) (cs : List Call) → Run ω p cs → Whole ω p cs
whole ω p cs r = demand_3.whole ω (opened p) (begins ω p r.opened) cs r.chain

facts : (P : Reply → Type 0) (set : Settings) → ((r : Reply) → ReplyFacts set r → P r) → Allowed set → (T : Trace) → All (λ v. v ≤ 255) T.values → All P (replies (final set T))
facts P set f ok T bytes = all_map (ReplyFacts set) P f (replies (final set T)) (all_facts set ok T bytes)

pub kept : Promises
unfolding exampleEdges totals_of_lem records_of
kept =
    record {
      A = both_sides.A;
      B = both_sides.B;
      C = both_sides.C;
      D = both_sides.D;
      E = both_sides.E;
      F = both_sides.F;
      G = both_sides.G;
      H₁₈ = both_sides.H₁₈;
      H₁₇ = both_sides.H₁₇;
      I₁₃₋₁₅ = both_sides.I₁₃₋₁₅;
      I₁₃ = both_sides.I₁₃;
      J₁₆₇ = both_sides.J₁₆₇;
      J₁₆₉ = both_sides.J₁₆₉;
      J₁₆₆ = both_sides.J₁₆₆;
      J₁₇₀ = both_sides.J₁₇₀;
      K = both_sides.K;
      K-record = both_sides.K-record;
      L = both_sides.L;
      M = both_sides.M;
      printed-record = both_sides.printed-record;
      printed-totals = both_sides.printed-totals;
      refusal-numbers = refl;
      open-numbers = open-numbers;
      take_none = take-three;
      take-numbers = take-numbers;
      close-none = close-three;
      close-numbers = close-numbers;
      unclosed-processor = λ ω p cs r q. ((whole ω p cs r).unclosed q).0;
      unclosed-replies = λ ω p cs r q. ((whole ω p cs r).unclosed q).1;
      alike = λ ω p cs ds r s q u j. demand_3.alike ω (opened p) (begins ω p r.opened) cs ds r.chain s.chain q u j;
      closed-once = λ ω p cs r x xs q. ((whole ω p cs r).closed x xs q).0;
      closed-replies = λ ω p cs r x xs q. ((whole ω p cs r).closed x xs q).2;
      closed-totals = λ ω p cs r x xs q. ((whole ω p cs r).closed x xs q).1.rules;
      closed-sum = λ ω p cs r x xs q. ((whole ω p cs r).closed x xs q).1.sum;
      closed-found = λ ω p cs r x xs q. ((whole ω p cs r).closed x xs q).1.brackets;
      closed-idle = λ ω p cs r x xs q. ((whole ω p cs r).closed x xs q).3;
      later-three = λ ω p cs r. (whole ω p cs r).later;
      judged = λ ω p cs r. (whole ω p cs r).judged;
      good = λ ω p cs r. (whole ω p cs r).good;
      one-run =
          λ ω p e qs h.
          let c = each_one_chain ω (opened p) (begins ω p e) qs h in
          record { calls = c.calls; asked = c.asked; did = c.did; only = c.only };
      any-cutting = λ ts c. let w = any-cutting ts c in record { next = w.next; made = w.made; same = w.same };
      whole-sweep = whole_numbers;
      actual-edges = λ set ok F h t. let e = said-edges set ok F h in (e.actual-is t, e.is-actual t);
      pseudo-edges = λ set ok F h t. let e = said-edges set ok F h in (e.pseudo-is t, e.is-pseudo t);
      extra-edges = λ set ok F h t. let e = said-edges set ok F h in (e.extra-is t, e.is-extra t);
      reply-n = λ set. facts (λ r. (1 ≤ r.reference.n) × (r.reference.n ≤ 16)) set (λ r f. (f.n-least, f.n-most));
      reply-s = λ set. facts (λ r. r.reference.s ≤ 4080) set (λ r f. f.s-most);
      reply-average = λ set. facts (λ r. bit 0 (flags_of r.marks r.reference.estimate) ≡ leb 2 r.reference.n) set (λ r f. f.averaged);
      reply-exact = λ set. facts (Exact set) set (λ r f. record { whole = f.whole; reference = f.exact; agrees = f.agrees });
      altitude-back = λ k h. let b = round_trip.back k h in (b.0, b.1.wrote, b.1.reads);
      altitude-none = round_trip.no_other;
      altitude-once = round_trip.once;
    }
