-- What is printed and what is left, scan after scan.
use Rattle.std.proofs.Common.{◌≡◌, ℕ, ◌≤◌, false, List, [], ◌++◌, Result, Ok, Err, IsErrAnd, length, take, drop, sym, refl, ap, ◌∙◌, subst, append_assoc, append-nil, arith, length-take-le}
use Rattle.processor.specs.declared.Processor.{Processor}
use Rattle.processor.specs.State.{Sweep, Made}
use Rattle.ends.specs.Ends.{LinePast}
use Rattle.lines.specs.declared.scan.Scan.{Scan}
use Rattle.rules.specs.declared.Refusal.{Refusal}
use Rattle.lines.specs.declared.scan.Scan.TheVariants.{Rest, Stopped, Full}
use Rattle.lines.specs.Survey.{lines_in, surveyed}
use Rattle.lines.specs.Post.{afterwards}
use Rattle.steps.specs.Outcomes.{stops, printed}
use Rattle.lines.specs.declared.scan.Scanned.{Scanned}
use Rattle.carrying.specs.declared.Stop.{Stop}
use Rattle.carrying.specs.declared.Stop.TheVariants.{Refused, Unread, CannotRead, CannotWrite, NoRoom}
use Rattle.carrying.specs.declared.Survey.{Survey}
use Rattle.carrying.specs.Post.{Carries, Fails, Passed, Stops, CarriedPost, ToStartPost}
use Rattle.carrying.proofs.Keeping.{part_of, past-part}

-- the bytes held, up to a place
pub record Carrying (p₀ : Processor) (held : List ℕ) (p : Processor) (from : ℕ) : Type 0 where
  pub reach : from ≤ length held
  pub new : (σ : Sweep) → Made σ p₀ → List ℕ
  pub carries : (σ : Sweep) (m : Made σ p₀) → Carries σ held false Rest p (drop from held) (new σ m)

module _ (p₀ : Processor) (held : List ℕ) where
  pub carrying_start : Carrying p₀ held p₀ 0
  carrying_start =
      record { reach = omega arith; new = λ σ m. []; carries = λ σ m. record { next = σ; made = m; same = λ R t. refl } }

  -- what fails is no refusal
  stops_failing : (x : Stop) (σ : Sweep) (new : List ℕ) → Fails x → Stops x σ held new
  stops_failing (Refused k used) σ new f = absurd f
  stops_failing Unread σ new f = f
  stops_failing (CannotRead e) σ new f = f
  stops_failing (CannotWrite e) σ new f = f
  stops_failing NoRoom σ new f = f

  -- a failed write, or a number of turns that no run uses up
  pub carried_failed : (r : Result Survey Stop) (input : List ℕ) (e : Stop) → Fails e → IsErrAnd r (λ x. x ≡ e) → CarriedPost p₀ held r input
  carried_failed (Ok s) input e f h = absurd h
  carried_failed (Err x) input e f h =
      record { inside = tt; new = λ σ m. []; left = λ σ m. stops_failing x σ [] (subst Fails (sym h) f) }

  -- one scan more, which printed `new`; no more is asked of it
  module _ {p : Processor} {from : ℕ} (h : Carrying p₀ held p from) (r : Scanned) {new : (σ : Sweep) → Made σ p → List ℕ} (carries : (σ : Sweep) (m : Made σ p) → Carries σ (drop from held) false r.scan r.processor (drop r.from held) (new σ m)) where
    both : (σ : Sweep) → Made σ p₀ → List ℕ
    both σ m =
        let d = h.carries σ m in
        h.new σ m ++ new d.next d.made

    joined : (scan : Scan) → r.scan ≡ scan → (σ : Sweep) (m : Made σ p₀) → Carries σ held false scan r.processor (drop r.from held) (both σ m)
    unfolding both
    joined scan e σ m =
        let d = h.carries σ m in
        let w = carries d.next d.made in
        subst (λ (x : Scan). Carries σ held false x r.processor (drop r.from held) (both σ m)) e
        (record {
          next = w.next;
          made = w.made;
          same = λ R t.
              d.same R t ∙ ap (λ (x : List ℕ). h.new σ m ++ x) (w.same R t)
              ∙ sym (append_assoc (h.new σ m) (new d.next d.made) (afterwards r.scan (lines_in (drop r.from held ++ R)) w.next));
        })

    -- a refusal: this is all, whatever comes behind
    pub all-printed : (k : Refusal) → r.scan ≡ Stopped k → (σ : Sweep) (m : Made σ p₀) (R : List ℕ)
        → surveyed (lines_in (held ++ R)) σ ≡ h.new σ m ++ new (h.carries σ m).next (h.carries σ m).made
    unfolding both
    all-printed k e σ m R = (joined (Stopped k) e σ m).same R tt ∙ append-nil (both σ m)

  module _ (p : Processor) (from : ℕ) (h : Carrying p₀ held p from) (r : Scanned) (g : Passed p held from r) where
    -- the output was full: the next scan goes on
    pub carrying_next : r.scan ≡ Full → Carrying p₀ held r.processor r.from
    carrying_next e =
        record {
          reach = g.reach;
          new = both h r g.carries;
          carries = λ σ m.
              let d = joined h r g.carries Full e σ m in
              record { next = d.next; made = d.made; same = d.same };
        }

    -- a refusal: this is all, and its line is the last
    pub carried-over : (k : Refusal) (used : ℕ) → r.scan ≡ Stopped k → (input : List ℕ) → CarriedPost p₀ held (Err (Refused k used)) input
    unfolding both
    carried-over k used e input =
        record {
          inside = tt;
          new = both h r g.carries;
          left = λ σ m.
              let d = h.carries σ m in
              let w = g.stopped d.next d.made k e in (
                all-printed h r g.carries k e σ m,
                record {
                  before = h.new σ m ++ w.before;
                  last = ap (λ (x : List ℕ). h.new σ m ++ x) w.last ∙ sym (append_assoc (h.new σ m) w.before (printed (stops k)));
                },
              );
        }

    -- no whole line is left
    carried-rest : r.scan ≡ Rest → (k used : ℕ) (input : List ℕ) → k ≤ length input → take k input ≡ drop r.from held
        → CarriedPost p₀ held (Ok (record { processor = r.processor; kept = k; used = used })) input
    carried-rest e k used input l is =
        let new = both h r g.carries in
        record {
          inside = l;
          new = new;
          left = λ σ m.
              let d = h.carries σ m in
              (subst (λ (x : List ℕ). LinePast x 0) (sym is) (past-part held r.from g.reach (g.past d.next d.made e)), subst (λ (x : List ℕ). Carries σ held false Rest r.processor x (new σ m)) (sym is) (joined h r g.carries Rest e σ m));
        }

-- what is left of the first n bytes has moved to the start
pub carried-kept : (p₀ : Processor) (n : ℕ) (input₀ input : List ℕ) → input ≡ input₀ → n ≤ length input → (p : Processor) (from : ℕ) → Carrying p₀ (take n input) p from
    → (r : Scanned) → Passed p (take n input) from r → r.scan ≡ Rest → (k used : ℕ) (input' : List ℕ) → length input' ≡ length input → ToStartPost r.from n input k input'
    → CarriedPost p₀ (take n input₀) (Ok (record { processor = r.processor; kept = k; used = used })) input'
carried-kept p₀ n input₀ input same h p from c r g e k used input' l s =
    let size = length-take-le n input h in
    subst (λ (x : List ℕ). CarriedPost p₀ (take n x) (Ok (record { processor = r.processor; kept = k; used = used })) input') same
    (carried-rest p₀ (take n input) p from c r g e k used input' (omega (arith, s.count))
    (ap (λ (x : ℕ). take x input') s.count ∙ s.moved ∙ sym (part_of r.from n input (omega (arith, g.reach)) h)))
