-- What a scan wrote is what may be printed.
use Rattle.std.proofs.Common.{◌≡◌, ℕ, ◌+◌, ◌-◌, ◌≤◌, false, List, ◌++◌, Result, Ok, Err, IsErrAnd, length, take, drop, refl, sym, ap, ◌∙◌, subst, arith}
use Rattle.rules.specs.Buffers.{over-at}
use Rattle.processor.specs.declared.Processor.{Processor}
use Rattle.processor.specs.State.{Sweep}
use Rattle.lines.specs.declared.scan.Scan.{Scan}
use Rattle.lines.specs.declared.scan.Scan.TheVariants.{Rest, Stopped, Full as NoPlace}
use Rattle.lines.specs.declared.scan.Scanned.{Scanned}
use Rattle.lines.specs.Survey.{lines_in}
use Rattle.lines.specs.Post.{afterwards, Because, WhyEnded, ScanPost}
use Rattle.lines.proofs.Turns.{read_back}
use Rattle.carrying.specs.declared.Stop.{Stop}
use Rattle.carrying.specs.Post.{goes_on_after, headway_of, scan_of, Prints, Fails, Passed, PassPost}

-- what was written from the start of the output on stands there
pub at-start : (new : List ℕ) (n : ℕ) (b b' : List ℕ) → n ≡ 0 + length new → b' ≡ over-at new 0 b → take n b' ≡ new
at-start new n b b' e is =
    ap (λ (x : ℕ). take x b') {x = n} {y = n - 0} (omega arith) ∙ read_back new 0 n b b' (omega arith) e is

-- what comes afterwards is said by whether the survey goes on
pub goes-or-stops : (s : Scan) (ls : List (List ℕ)) (σ : Sweep) → afterwards s ls σ ≡ afterwards (scan_of (goes_on_after s)) ls σ
goes-or-stops Rest ls σ = refl
goes-or-stops NoPlace ls σ = refl
goes-or-stops (Stopped k) ls σ = refl

module _ (p : Processor) (input : List ℕ) (from : ℕ) (b : List ℕ) (r : Scanned) (b' : List ℕ) (h : ScanPost p input from 0 b r b') where
  pub scan-prints : Prints p input from false (headway_of r) (take r.at b')
  scan-prints =
      record {
        carries = λ σ m.
            let d = h.scans σ m in
            record {
              next = d.next;
              made = d.made;
              same = λ R t.
                  d.same R
                  ∙ ap (λ (x : List ℕ). x ++ afterwards r.scan (lines_in (drop r.from input ++ R)) d.next) (sym (at-start d.new r.at b b' d.place d.output))
                  ∙ ap (λ (x : List ℕ). take r.at b' ++ x) (goes-or-stops r.scan (lines_in (drop r.from input ++ R)) d.next);
            };
      }

  pub scan-passed : from ≤ length input → Passed p input from r
  scan-passed l =
      record {
        reach = h.reach l;
        past = λ σ m e. subst (λ (x : Scan). Because x input r.from r.at b) e (h.because σ m);
        new = λ σ m. (h.scans σ m).new;
        carries = λ σ m.
            let d = h.scans σ m in
            record { next = d.next; made = d.made; same = λ R t. d.same R };
        stopped = λ σ m k e.
            let d = h.scans σ m in
            let w = subst (λ (x : Scan). WhyEnded x input r.from d.new d.next) e d.why in
            record { before = w.before; last = w.printed-last };
      }

-- where the write fails, the scan does
pub pass_fails : (p : Processor) (input : List ℕ) (from : ℕ) (r : Result Scanned Stop) (e : Stop) → Fails e → IsErrAnd r (λ x. x ≡ e) → PassPost p input from r
pass_fails p input from (Ok x) e f h = absurd h
pass_fails p input from (Err x) e f h = subst Fails (sym h) f
