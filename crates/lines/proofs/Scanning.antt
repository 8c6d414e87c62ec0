-- The lines of an input: where one ends, what it prints, and what is left.
use Prim.Native.Nat.{ℕ, suc, ◌+◌, ◌-◌, ◌≤◌, ◌<◌}
use native.Mathlib.Omega.{arith}
use mathlib.Core.Path.{◌≡◌, refl, sym, ap, ap₂, ◌∙◌, subst}
use mathlib.Core.Logic.{◌⊎◌, inl, inr}
use mathlib.Core.Bool.{Bool, true, false}
use mathlib.Core.List.{List, [], ◌∷◌, ◌++◌, append_assoc, append-nil}
use lib.Dec.{leb, eqb}
use lib.ListN.{length, get_or, take, drop, length-append, length-drop, take-append-drop}
use lib.Seq.{get_or-take, get_or-drop, length-take-le, drop-drop, take-suc}
use borrow.Author.Tests.{leb-true, leb-false, eqb-true, eqb-false, ne_eqb}
use Rattle.rules.specs.declared.Opening.{Opening}
use Rattle.rules.specs.declared.Refusal.{Refusal}
use Rattle.rules.specs.declared.Refusal.TheVariants.{Malformed}
use Rattle.rules.specs.Lists.{All}
use Rattle.rules.specs.Samples.{Trace}
use Rattle.rules.specs.Buffers.{over-at}
use Rattle.rules.specs.Calls.{number_of, Answer, accepted, refused, open_answer, close_room}
use Rattle.rules.proofs.ListLaws.{all_append}
use Rattle.rules.proofs.Buffers.{over-at-nil, over-at-next}
use Rattle.processor.specs.declared.Processor.{Processor}
use Rattle.processor.specs.State.{Sweep, none, running, processor_of, Sound, Made}
use Rattle.calls.specs.Post.{take_answer_at, close_answer_at}
use Rattle.rules.proofs.Answers.{named}
use Rattle.calls.proofs.Fold.{within_more}
use Rattle.reading.specs.Frames.{Reading, opening, samples, closing, reading, refused as unread}
use Rattle.frames.specs.Writing.{refusal_line_lem}
use Rattle.reading.proofs.Sizes.{Sized, reading_sized, no_newline, too_long}
use Rattle.ends.specs.Ends.{NoNewline, LineEnd, LinePast}
use Rattle.ends.proofs.Newlines.{Plain, plain, plain_last}
use Rattle.steps.specs.declared.Step.{Step}
use Rattle.steps.specs.declared.Step.TheVariants.{Goes, Stops, Full}
use Rattle.steps.specs.declared.Stepped.{Stepped}
use Rattle.steps.specs.Outcomes.{Outcome, goes, stops, opened_as, taken_as, closed_as, outcome_at, line_at, printed, line_room}
use Rattle.steps.specs.Post.{stepped_as, output_as, has_room_lem, place_of, StepPost, line_most}
use Rattle.steps.proofs.Rest.{nine, rest_nine}
use Rattle.lines.specs.declared.scan.Scan.TheVariants.{Rest, Stopped, Full as NoRoom}
use Rattle.lines.specs.Survey.{onto, lines_in, further, surveyed}
use Rattle.lines.specs.Post.{Scans, ScanPost}
use Rattle.lines.specs.declared.batch.Batched.{Batched}
use Rattle.lines.specs.Batches.{BatchPost}

-- ---- the lines of bytes

-- the bytes from one place to another
abbrev pub part : List ℕ → ℕ → ℕ → List ℕ
part input from to = take (to - from) (drop from input)

part_plain : (input : List ℕ) (from to : ℕ) → from ≤ to → to ≤ length input → NoNewline input from to → Plain (part input from to)
part_plain input from to l s h =
    plain (part input from to)
    (λ k q e. h.none (from + k) (omega arith) (omega (arith, size))
    (sym (get_or-take (to - from) (drop from input) k 0 (omega (arith, size)) ∙ get_or-drop from input k 0) ∙ e))
  where
    size : length (part input from to) ≡ to - from
    size = length-take-le (to - from) (drop from input) (omega (arith, length-drop from input))

part-rest : (input : List ℕ) (from to : ℕ) → from ≤ to → (R : List ℕ) → drop from input ++ R ≡ part input from to ++ (drop to input ++ R)
part-rest input from to l R =
    ap (λ (x : List ℕ). x ++ R)
    (sym (take-append-drop (to - from) (drop from input))
    ∙ ap (λ (x : List ℕ). part input from to ++ x) (drop-drop (to - from) from input ∙ ap (λ (n : ℕ). drop n input) {x = from + (to - from)} {y = to} (omega arith)))
    ∙ append_assoc (part input from to) (drop to input) R

-- a line, and what comes behind it
lines-line : (l Y : List ℕ) → Plain l → lines_in (l ++ 10 ∷ Y) ≡ (l ++ 10 ∷ []) ∷ lines_in Y
unfolding lines_in
lines-line [] Y h = refl
lines-line (c ∷ l) Y h = rw (ne_eqb c 10 h.0) (ap (onto c) (lines-line l Y h.1))

-- bytes that are no whole line begin the first line
record Begins (l : List ℕ) (ls : List (List ℕ)) : Type 0 where
  more : List ℕ
  others : List (List ℕ)
  is : ls ≡ (l ++ more) ∷ others

onto_begins : (c : ℕ) (ls : List (List ℕ)) → Begins (c ∷ []) (onto c ls)
onto_begins c [] = record { more = []; others = []; is = refl }
onto_begins c (l ∷ ls) = record { more = l; others = ls; is = refl }

lines_begin : (l Y : List ℕ) → Plain l → 0 < length l → Begins l (lines_in (l ++ Y))
unfolding lines_in
lines_begin [] Y h s = absurd (omega arith)
lines_begin (c ∷ []) Y h s =
    let b = onto_begins c (lines_in Y) in
    record { more = b.more; others = b.others; is = rw (ne_eqb c 10 h.0) b.is }
lines_begin (c ∷ d ∷ l) Y h s =
    let b = lines_begin (d ∷ l) Y h.1 (omega arith) in
    record { more = b.more; others = b.others; is = rw (ne_eqb c 10 h.0) (ap (onto c) b.is) }

-- ---- what the first line prints, and then the others

-- 259 bytes without a newline are refused, whatever comes behind them
long_nine : (l m : List ℕ) → Plain l → length l ≡ 259 → reading (l ++ m) ≡ unread Malformed
long_nine l [] h s =
    ap reading (append-nil l) ∙ no_newline l (plain_last l h (omega (arith, s)))
long_nine l (c ∷ m) h s = too_long (l ++ c ∷ m) (omega (arith, s, length-append l (c ∷ m)))

survey-long : (l Y : List ℕ) (σ : Sweep) → Plain l → length l ≡ 259 → surveyed (lines_in (l ++ Y)) σ ≡ further (line_at σ l) (surveyed (lines_in Y))
unfolding surveyed
survey-long l Y σ h s =
    let b = lines_begin l Y h (omega (arith, s)) in
    ap (λ (ls : List (List ℕ)). surveyed ls σ) b.is
    ∙ ap (λ (o : Outcome). further o (surveyed b.others)) (nine σ (l ++ b.more) (long_nine l b.more h s))
    ∙ ap (λ (o : Outcome). further o (surveyed (lines_in Y))) (sym (nine σ l (ap reading (sym (append-nil l)) ∙ long_nine l [] h s)))

survey-line : (l Y : List ℕ) (σ : Sweep) → Plain l → surveyed (lines_in (l ++ 10 ∷ Y)) σ ≡ further (line_at σ (l ++ 10 ∷ [])) (surveyed (lines_in Y))
unfolding surveyed
survey-line l Y σ h = ap (λ (ls : List (List ℕ)). surveyed ls σ) (lines-line l Y h)

module _ (input : List ℕ) (from to : ℕ) (h : LineEnd input from to) where
  size : length (part input from to) ≡ to - from
  size = length-take-le (to - from) (drop from input) (omega (arith, length-drop from input, h.inside))

  -- the bytes before the last, and the last
  split : part input from to ≡ part input from (to - 1) ++ get_or input (to - 1) 0 ∷ []
  split =
      ap (λ (n : ℕ). take n (drop from input)) {x = to - from} {y = suc (to - 1 - from)} (omega (arith, h.some))
      ∙ take-suc (drop from input) (to - 1 - from) 0 (omega (arith, length-drop from input, h.some, h.inside))
      ∙ ap (λ (c : ℕ). part input from (to - 1) ++ c ∷ [])
      (get_or-drop from input (to - 1 - from) 0 ∙ ap (λ (k : ℕ). get_or input k 0) {x = from + (to - 1 - from)} {y = to - 1} (omega (arith, h.some)))

  pub survey-first : (R : List ℕ) (σ : Sweep)
      → surveyed (lines_in (drop from input ++ R)) σ ≡ further (line_at σ (part input from to)) (surveyed (lines_in (drop to input ++ R)))
  survey-first R σ =
      ap (λ (x : List ℕ). surveyed (lines_in x) σ) (part-rest input from to (omega (arith, h.some)) R) ∙ go (eqb (get_or input (to - 1) 0) 10) refl
    where
      short : Plain (part input from (to - 1))
      short = part_plain input from (to - 1) (omega (arith, h.some)) (omega (arith, h.inside)) h.before

      go : (t : Bool) → eqb (get_or input (to - 1) 0) 10 ≡ t
          → surveyed (lines_in (part input from to ++ (drop to input ++ R))) σ ≡ further (line_at σ (part input from to)) (surveyed (lines_in (drop to input ++ R)))
      go true e =
          let ten : part input from to ≡ part input from (to - 1) ++ 10 ∷ [] = split ∙ ap (λ (c : ℕ). part input from (to - 1) ++ c ∷ []) (eqb-true (get_or input (to - 1) 0) 10 e) in
          ap (λ (x : List ℕ). surveyed (lines_in (x ++ (drop to input ++ R))) σ) ten
          ∙ ap (λ (x : List ℕ). surveyed (lines_in x) σ) (append_assoc (part input from (to - 1)) (10 ∷ []) (drop to input ++ R))
          ∙ survey-line (part input from (to - 1)) (drop to input ++ R) σ short
          ∙ ap (λ (x : List ℕ). further (line_at σ x) (surveyed (lines_in (drop to input ++ R)))) (sym ten)
      go false e = survey-long (part input from to) (drop to input ++ R) σ (all h.ends) (omega (arith, size, far h.ends))
        where
          not_ten : get_or input (to - 1) 0 ≡ 10 → ⊥
          not_ten = eqb-false (get_or input (to - 1) 0) 10 e

          far : (get_or input (to - 1) 0 ≡ 10) ⊎ (to ≡ from + 259) → to ≡ from + 259
          far (inl z) = absurd (not_ten z)
          far (inr z) = z

          all : (get_or input (to - 1) 0 ≡ 10) ⊎ (to ≡ from + 259) → Plain (part input from to)
          all x = subst Plain (sym split) (all_append (λ c. c ≡ 10 → ⊥) (part input from (to - 1)) (get_or input (to - 1) 0 ∷ []) short (not_ten, tt))

-- ---- the sweep that goes on is one that accepted calls make

abbrev pub Good : Outcome → Type 0
Good (goes σ l) = Sound σ
Good (stops k) = Unit {0}

good-open : (ω : Opening) (v : Answer) → open_answer ω ≡ v → Good (opened_as v ω)
good-open ω accepted e = record { named = (named ω e).least; alike = refl; short = omega arith; bytes = tt }
good-open ω (refused k) e = tt

pub good-take : (σ : Sweep) → Sound σ → (P : Trace) → All (λ v. v ≤ 255) P.values → (room : ℕ) (v : Answer) → take_answer_at σ P room ≡ v → Good (taken_as v σ P)
unfolding take_answer_at
good-take none s P b room accepted e = tt
good-take none s P b room (refused k) e = tt
good-take (running ω T) s P b room (refused k) e = tt
good-take (running ω T) s P b room accepted e = within_more ω T P room s b e

good-close : (σ : Sweep) (v : Answer) → Good (closed_as v σ)
good-close σ accepted = tt
good-close σ (refused k) = tt

good_outcome : (σ : Sweep) → Sound σ → (x : Reading) → Sized x → Good (outcome_at σ x)
good_outcome σ s (opening ω) z = good-open ω (open_answer ω) refl
good_outcome σ s (samples P) z = good-take σ s P z.bytes line_room (take_answer_at σ P line_room) refl
good_outcome σ s closing z = good-close σ (close_answer_at σ close_room)
good_outcome σ s (unread k) z = tt

good-line : (σ : Sweep) → Sound σ → (l : List ℕ) → Good (line_at σ l)
unfolding line_at
good-line σ s l = good_outcome σ s (reading l) (reading_sized l)

-- ---- a step, taken apart

kind_of : Step → ℕ
kind_of (Goes e) = 0
kind_of (Stops k e) = 1
kind_of Full = 2

record Went (t : Bool) (o : Outcome) (place : ℕ) (s : Stepped) (e : ℕ) : Type 0 where
  room : t ≡ true
  next : Sweep
  new : List ℕ
  is : o ≡ goes next new
  to : e ≡ place + length new
  made : s.processor ≡ processor_of next

went : (t : Bool) (o : Outcome) (q : Processor) (place : ℕ) (s : Stepped) (e : ℕ) → s ≡ stepped_as t o q place → s.step ≡ Goes e → Went t o place s e
unfolding kind_of
went true (goes σ l) q place s e is h =
    record {
      room = refl;
      next = σ;
      new = l;
      is = refl;
      to = ap (λ (x : Step). place_of x 0) (sym h ∙ ap (λ (x : Stepped). x.step) is);
      made = ap (λ (x : Stepped). x.processor) is;
    }
went true (stops k) q place s e is h = absurd (omega (arith, ap kind_of (sym h ∙ ap (λ (x : Stepped). x.step) is)))
went false o q place s e is h = absurd (omega (arith, ap kind_of (sym h ∙ ap (λ (x : Stepped). x.step) is)))

pub record Stood (t : Bool) (o : Outcome) (q : Processor) (place : ℕ) (s : Stepped) (k : Refusal) (e : ℕ) : Type 0 where
  pub room : t ≡ true
  pub is : o ≡ stops k
  pub to : e ≡ place + length (refusal_line_lem (number_of k))
  pub made : s.processor ≡ q

pub stood : (t : Bool) (o : Outcome) (q : Processor) (place : ℕ) (s : Stepped) (k : Refusal) (e : ℕ) → s ≡ stepped_as t o q place → s.step ≡ Stops k e → Stood t o q place s k e
unfolding kind_of
stood true (goes σ l) q place s k e is h = absurd (omega (arith, ap kind_of (sym h ∙ ap (λ (x : Stepped). x.step) is)))
stood true (stops j) q place s k e is h =
    let both = sym h ∙ ap (λ (x : Stepped). x.step) is in
    record {
      room = refl;
      is = cc;
      to = ap (λ (x : Step). place_of x 0) both;
      made = ap (λ (x : Stepped). x.processor) is;
    }
stood false o q place s k e is h = absurd (omega (arith, ap kind_of (sym h ∙ ap (λ (x : Stepped). x.step) is)))

record Stuck (t : Bool) (q : Processor) (s : Stepped) : Type 0 where
  room : t ≡ false
  made : s.processor ≡ q

stuck : (t : Bool) (o : Outcome) (q : Processor) (place : ℕ) (s : Stepped) → s ≡ stepped_as t o q place → s.step ≡ Full → Stuck t q s
unfolding kind_of
stuck true (goes σ l) q place s is h = absurd (omega (arith, ap kind_of (sym h ∙ ap (λ (x : Stepped). x.step) is)))
stuck true (stops k) q place s is h = absurd (omega (arith, ap kind_of (sym h ∙ ap (λ (x : Stepped). x.step) is)))
stuck false o q place s is h = record { room = refl; made = ap (λ (x : Stepped). x.processor) is }

-- ---- the lines so far

-- after the lines up to place i of the input, with q the processor then and the output printed up to `place`
pub record Scanning (p : Processor) (input : List ℕ) (from at : ℕ) (b₀ : List ℕ) (q : Processor) (i place : ℕ) (b : List ℕ) : Type 0 where
  pub size : length b ≡ length b₀
  pub reach : from ≤ length input → i ≤ length input
  pub inside : at ≤ length b₀ → place ≤ length b₀
  pub scans : (σ : Sweep) → Made σ p → Scans σ input from at b₀ (record { scan = Rest; processor = q; from = i; at = place }) b

module _ (p : Processor) (input : List ℕ) (from at : ℕ) (b₀ : List ℕ) where
  pub scanning_start : Scanning p input from at b₀ p from at b₀
  scanning_start =
      record {
        size = refl;
        reach = λ h. h;
        inside = λ h. h;
        scans = λ σ m.
            record { new = []; next = σ; made = m; place = omega arith; output = sym (over-at-nil at b₀); why = tt; same = λ R. refl };
      }

  module _ (q : Processor) (i place : ℕ) (b : List ℕ) (h : Scanning p input from at b₀ q i place b) where
    pub scanned_rest : LinePast input i → ScanPost p input from at b₀ (record { scan = Rest; processor = q; from = i; at = place }) b
    scanned_rest e = record { reach = h.reach; inside = h.inside; because = λ σ m. e; scans = h.scans }

    -- lines of samples, carried out together
    pub scanning_batch : (r : Batched) (b' : List ℕ) → length b' ≡ length b → BatchPost q input i place b r b' → Scanning p input from at b₀ r.processor r.from r.at b'
    scanning_batch r b' l g = go (leb place (length b)) refl
      where
        go : (t : Bool) → leb place (length b) ≡ t → Scanning p input from at b₀ r.processor r.from r.at b'
        go false z =
            let s = g.past_end (leb-false place (length b) z) in
            subst (λ (x : Batched). Scanning p input from at b₀ x.processor x.from x.at b') (sym s.0)
            (subst (Scanning p input from at b₀ q i place) (sym s.1) h)
        go true z =
            record {
              size = l ∙ h.size;
              reach = λ x. g.reach (h.reach x);
              inside = λ x. omega (arith, g.inside (leb-true place (length b) z), h.size);
              scans = λ σ m.
                  let d = h.scans σ m in
                  let w = g.scans d.next d.made in
                  record {
                    new = d.new ++ w.new;
                    next = w.next;
                    made = w.made;
                    place = omega (arith, w.place, d.place, length-append d.new w.new);
                    output = over-at-next d.new w.new b₀ b b' at place d.place (omega (arith, leb-true place (length b) z, h.size)) d.output w.output;
                    why = tt;
                    same = λ R.
                        d.same R ∙ ap (λ (x : List ℕ). d.new ++ x) (w.same R)
                        ∙ sym (append_assoc d.new w.new (surveyed (lines_in (drop r.from input ++ R)) w.next));
                  };
            }

    module _ (to : ℕ) (line : LineEnd input i to) (s : Stepped) (b' : List ℕ) (step : StepPost q (part input i to) place b s b') where
      -- the line goes on, with what it printed behind what was
      module _ (e : ℕ) (kind : s.step ≡ Goes e) where
        further_on : (σ : Sweep) → Made σ p → Scans σ input from at b₀ (record { scan = Rest; processor = s.processor; from = to; at = e }) b'
        further_on σ m =
            let d = h.scans σ m in
            let o = line_at d.next (part input i to) in
            let w = went (has_room_lem place b) o q place s e (step.result d.next d.made) kind in
            let room = leb-true (place + line_most) (length b) w.room in
            let out : b' ≡ over-at w.new place b =
            step.output d.next d.made ∙ ap₂ (λ (t : Bool) (x : Outcome). output_as t x place b) w.room w.is in
            record {
              new = d.new ++ w.new;
              next = w.next;
              made = record { is = w.made; sound = subst Good w.is (good-line d.next d.made.sound (part input i to)) };
              place = omega (arith, w.to, d.place, length-append d.new w.new);
              output = over-at-next d.new w.new b₀ b b' at place d.place (omega (arith, room, h.size)) d.output out;
              why = tt;
              same = λ R.
                  d.same R
                  ∙ ap (λ (x : List ℕ). d.new ++ x) (survey-first input i to line R d.next ∙ ap (λ (x : Outcome). further x (surveyed (lines_in (drop to input ++ R)))) w.is)
                  ∙ sym (append_assoc d.new w.new (surveyed (lines_in (drop to input ++ R)) w.next));
            }

        pub scanning_next : length b' ≡ length b → Scanning p input from at b₀ s.processor to e b'
        scanning_next l =
            record {
              size = l ∙ h.size;
              reach = λ x. line.inside;
              inside = λ x. go (h.inside x);
              scans = further_on;
            }
          where
            go : place ≤ length b₀ → e ≤ length b₀
            go x = omega (arith, step.inside (omega (arith, h.size)), ap (λ (y : Step). place_of y place) kind, h.size)

      -- a refusal is the last that is printed
      module _ (k : Refusal) (e : ℕ) (kind : s.step ≡ Stops k e) where
        pub scanned_stop : ScanPost p input from at b₀ (record { scan = Stopped k; processor = s.processor; from = to; at = e }) b'
        scanned_stop =
            record {
              reach = λ x. line.inside;
              inside = λ x. go (h.inside x);
              because = λ σ m. tt;
              scans = last;
            }
          where
            go : place ≤ length b₀ → e ≤ length b₀
            go x = omega (arith, step.inside (omega (arith, h.size)), ap (λ (y : Step). place_of y place) kind, h.size)

            last : (σ : Sweep) → Made σ p → Scans σ input from at b₀ (record { scan = Stopped k; processor = s.processor; from = to; at = e }) b'
            last σ m =
                let d = h.scans σ m in
                let o = line_at d.next (part input i to) in
                let w = stood (has_room_lem place b) o q place s k e (step.result d.next d.made) kind in
                let room = leb-true (place + line_most) (length b) w.room in
                let out : b' ≡ over-at (refusal_line_lem (number_of k)) place b =
                step.output d.next d.made ∙ ap₂ (λ (t : Bool) (x : Outcome). output_as t x place b) w.room w.is in
                record {
                  new = d.new ++ refusal_line_lem (number_of k);
                  next = d.next;
                  made = record { is = w.made ∙ d.made.is; sound = d.made.sound };
                  place = omega (arith, w.to, d.place, length-append d.new (refusal_line_lem (number_of k)));
                  output = over-at-next d.new (refusal_line_lem (number_of k)) b₀ b b' at place d.place (omega (arith, room, h.size)) d.output out;
                  why = record { from = i; line = line; refused = w.is; before = d.new; printed-last = refl };
                  same = λ R.
                      d.same R
                      ∙ ap (λ (x : List ℕ). d.new ++ x) (survey-first input i to line R d.next ∙ ap (λ (x : Outcome). further x (surveyed (lines_in (drop to input ++ R)))) w.is)
                      ∙ sym (append-nil (d.new ++ refusal_line_lem (number_of k)));
                }

      -- no room: nothing happened
      pub scanned_full : s.step ≡ Full → ScanPost p input from at b₀ (record { scan = NoRoom; processor = s.processor; from = i; at = place }) b'
      scanned_full kind =
          record {
            reach = h.reach;
            inside = h.inside;
            because = λ σ m.
                let d = h.scans σ m in
                let w = stuck (has_room_lem place b) (line_at d.next (part input i to)) q place s (step.result d.next d.made) kind in
                omega (arith, leb-false (place + line_most) (length b) w.room, h.size);
            scans = λ σ m.
                let d = h.scans σ m in
                let o = line_at d.next (part input i to) in
                let w = stuck (has_room_lem place b) o q place s (step.result d.next d.made) kind in
                record {
                  new = d.new;
                  next = d.next;
                  made = record { is = w.made ∙ d.made.is; sound = d.made.sound };
                  place = d.place;
                  output = step.output d.next d.made ∙ ap (λ (t : Bool). output_as t o place b) w.room ∙ d.output;
                  why = tt;
                  same = d.same;
                };
          }

-- ---- the end of the input

lines_rest : (l : List ℕ) → Plain l → 0 < length l → lines_in l ≡ l ∷ []
unfolding lines_in
lines_rest [] h s = absurd (omega arith)
lines_rest (c ∷ []) h s = rw (ne_eqb c 10 h.0) refl
lines_rest (c ∷ d ∷ l) h s = rw (ne_eqb c 10 h.0) (ap (onto c) (lines_rest (d ∷ l) h.1 (omega arith)))

-- bytes left without a newline are a last line, refused with 9
pub survey-rest : (l : List ℕ) (σ : Sweep) → LinePast l 0 → 0 < length l → (surveyed (lines_in l) σ ≡ printed (line_at σ l)) × (line_at σ l ≡ stops Malformed)
unfolding surveyed
survey-rest l σ h s =
    let n = rest_nine l σ h s in
    (ap (λ (ls : List (List ℕ)). surveyed ls σ) (lines_rest l (plain l (λ k q e. h.before.none k (omega arith) q e)) s) ∙ ap (λ (o : Outcome). further o (surveyed [])) n ∙ ap printed (sym n), n)
