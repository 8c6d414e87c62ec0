-- What is kept read after read, and what is printed at the end of the input.
use Rattle.std.proofs.Common.{ℕ, ◌-◌, ◌≤◌, ◌<◌, arith, ◌≡◌, refl, sym, ap, ap₂, ◌∙◌, subst, Bool, true, false, List, [], ◌++◌, Some, None, Ok, append-nil, length, take}
use borrow.Rule.Slice.PartMut.{put_mid, take_put}
use Rattle.std.proofs.lemmas.Option.{none-some}
use Rattle.rules.specs.Buffers.{over-at}
use Rattle.processor.specs.declared.Processor.{Processor}
use Rattle.processor.specs.State.{Sweep, none, idle_processor, processor_of, Made}
use Rattle.ends.specs.Ends.{LinePast}
use Rattle.steps.specs.declared.Step.{Step}
use Rattle.steps.specs.declared.Step.TheVariants.{Stops}
use Rattle.steps.specs.Outcomes.{Outcome, stops, line_at, printed}
use Rattle.steps.specs.Post.{has_room_lem, output_as, RestPost}
use Rattle.rules.specs.declared.Refusal.{Refusal}
use Rattle.lines.specs.Survey.{lines_in, surveyed}
use Rattle.lines.proofs.Scanning.{stood, survey-rest}
use Rattle.carrying.specs.declared.Survey.{Survey}
use Rattle.carrying.specs.Post.{Prints, CarriedPost}
use Rattle.carrying.proofs.Printing.{at-start}
use Rattle.survey.specs.Post.{Going}

-- ---- the end of the input

-- what is left at the end of the input is refused, and nothing comes behind
module _ (p : Processor) (l b : List ℕ) (s : Step) (b' : List ℕ) (h : RestPost 0 b s b') (past : LinePast l 0) (some : 0 < length l) where
  pub rest-prints : (k : Refusal) (e n : ℕ) → s ≡ Stops k e → n ≡ length l → Prints p l 0 true (record { processor = p; from = n; goes_on = false }) (take e b')
  rest-prints k e n is z = record { carries = λ σ m. record { next = σ; made = m; same = λ R t. one σ R t } }
    where
      one : (σ : Sweep) (R : List ℕ) → R ≡ [] → surveyed (lines_in (l ++ R)) σ ≡ take e b' ++ []
      one σ R t =
          let o = line_at σ l in
          let w = stood (has_room_lem 0 b) o p 0 (record { step = s; processor = p }) k e (h.result σ p l past some) is in
          let out : b' ≡ over-at (printed (stops k)) 0 b =
          h.output σ l past some ∙ ap₂ (λ (t : Bool) (x : Outcome). output_as t x 0 b) w.room w.is in
          ap (λ (x : List ℕ). surveyed (lines_in x) σ) (ap (λ (x : List ℕ). l ++ x) t ∙ append-nil l)
          ∙ (survey-rest l σ past some).0
          ∙ ap printed w.is
          ∙ sym (append-nil (take e b') ∙ at-start (printed (stops k)) e b b' w.to out)

-- ---- read after read

-- a read behind the bytes kept leaves these
pub read_stays : (kept : ℕ) (input got : List ℕ) → kept ≤ length input → take kept (put_mid kept (length input - kept) input got) ≡ take kept input
read_stays kept input got h = take_put kept (length input - kept) input got h

-- a read that gave bytes is not the end of the input
pub more_left : (n : ℕ) → Some n ≡ None → ⊥
more_left n e = none-some n (sym e)

idle-made : Made none idle_processor
unfolding processor_of
idle-made = record { is = refl; sound = tt }

pub going_start : (p : Processor) (input : List ℕ) → p ≡ idle_processor → Going (record { processor = p; kept = 0; used = 0 }) input
going_start p input e =
    subst (λ (x : Processor). Going (record { processor = x; kept = 0; used = 0 }) input) (sym e)
    (record {
      sweep = none;
      made = idle-made;
      inside = omega arith;
      past = record { short = omega arith; before = record { none = λ k a b x. omega arith } };
    })

module _ (s : Survey) (input : List ℕ) (g : Going s input) where
  -- at the end of the input the bytes kept are all there is
  pub past_end : (input' : List ℕ) → take s.kept input' ≡ take s.kept input → LinePast (take s.kept input') 0
  past_end input' e = subst (λ (x : List ℕ). LinePast x 0) (sym e) g.past

  pub going_carried : (held : List ℕ) (t : Survey) (input' : List ℕ) → CarriedPost s.processor held (Ok t) input' → Going t input'
  going_carried held t input' h =
      let x = h.left g.sweep g.made in
      record { sweep = x.1.next; made = x.1.made; inside = h.inside; past = x.0 }
