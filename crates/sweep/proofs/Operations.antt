-- What taking and closing return at each of their ends is what their contracts say.
use Prim.Native.Nat.{ℕ, suc, ◌+◌, ◌-◌, ◌*◌, ◌/◌, ◌≤◌, ◌<◌}
use native.Mathlib.Omega.{arith}
use native.Mathlib.Nat.{zero-add}
use mathlib.Core.Path.{◌≡◌, refl, sym, ap, ◌∙◌}
use mathlib.Core.Bool.{Bool, true, false}
use mathlib.Core.List.{List, [], ◌∷◌, ◌++◌}
use lib.Dec.{ltb}
use lib.ListN.{length, get_or, replicate, length-append, length-replicate}
use borrow.Author.Tests.{lt-ltb, le-ltb}
use Rattle.rules.specs.declared.Opening.{Opening}
use Rattle.rules.specs.declared.Reply.{Reply}
use Rattle.places.specs.Four.{Machine}
use Rattle.rules.specs.Settings.{standard}
use Rattle.rules.specs.Lists.{All}
use Rattle.rules.specs.Samples.{Trace, ◌⧺◌, sweep_limit}
use Rattle.rules.specs.Machine.{given, final, State, after}
use Rattle.rules.specs.Records.{record_size, records, totals}
use Rattle.rules.specs.declared.Refusal.{Refusal}
use Rattle.rules.specs.Calls.{Answer as RulesAnswer, accepted, refused, take_answer, close_answer, fresh, rest, silence}
use Rattle.rules.proofs.PastEnd.{rest-silence, past_end, after-silence}
use Rattle.rules.specs.Buffers.{over, over-at}
use Rattle.std.specs.Prelude.{Ok, Err}
use Rattle.processor.specs.declared.Processor.{Processor}
use Rattle.calls.specs.declared.Answered.{Answered}
use Rattle.calls.specs.declared.Closed.{Closed}
use Rattle.processor.specs.declared.Progress.{Progress}
use Rattle.processor.specs.State.{Sweep, none, running, idle_processor, running_processor, processor_of, Within, Made}
use Rattle.calls.specs.Post.{take_answer_at, take_as, take_buffer_as, TakePost, TakenPiece, close_answer_at, close_as, close_buffer_as, no_totals_lem, ClosePost, ClosedOpen, totals_from}
use Rattle.marking.specs.Marks.{four}
use Rattle.processor.specs.Arrays.{listed, progress_of_lem, machine_at}
use Rattle.processor.proofs.ProcessorLaws.{opening_of_lem, taken_of, front_of_lem, recent-of, machine-of}
use Rattle.blocks.specs.Steps.{state_at, Fed}
use Rattle.blocks.specs.Feeding.{BlocksPost}
use Rattle.pieces.specs.Feeding.{DrainPost}
use Rattle.pieces.proofs.Pieces.{enters_piece}
use Rattle.front.specs.Post.{KeepPost}
use Rattle.rules.proofs.Answers.{standard_allowed, took, closes}
use Rattle.rules.proofs.Truth.{impossible}
use Rattle.rules.proofs.HandingOut.{fresh-most, rest-most}
use Rattle.rules.proofs.Outcomes.{after_balanced}

-- ---- the totals of a sweep, from the machine after the zeros

totals-final : (T : Trace) → totals_from (final standard T).counts ≡ totals (final standard T)
unfolding totals final
totals-final T =
    let s = after ◌+◌ (given standard T) (length T.flags) in
    let h = after_balanced (given standard T) (length T.flags) in
    let c = s.counts in
    let r : c.opened - c.phantoms ≡ length (s.done ++ s.live) = omega (arith, h.kept, length-append s.done s.live) in
    λ i. record { found = c.found; replies = r i; sidelobe = c.sidelobe; garbled = c.garbled; lost = c.lost; phantoms = c.phantoms }

pub totals_law : (T : Trace) → totals_from (state_at (T ⧺ silence 448) (length (T.flags ++ replicate 448 0) - 178)).counts ≡ totals (final standard T)
totals_law T =
    let N = length (T.flags ++ replicate {A = ℕ} 448 0) in
    let l : length T.flags ≤ N - 178 = omega (arith, length-append T.flags (replicate {A = ℕ} 448 0), length-replicate {A = ℕ} 448 0) in
    ap (λ (s : State). totals_from s.counts) (after-silence standard standard_allowed T 448 (N - 178))
    ∙ ap totals_from (past_end standard standard_allowed T (N - 178) l).counts
    ∙ totals-final T

-- ---- the sweep behind a processor

idle_mode : idle_processor.opening.mode ≡ 0
unfolding idle_processor running_processor
idle_mode = refl

-- the sweep of a processor runs if its mode is not 0
mode_none : (p : Processor) → Made none p → ltb 0 p.opening.mode ≡ false
unfolding processor_of
mode_none p m = le-ltb 0 p.opening.mode (omega (arith, ap (λ (q : Processor). q.opening.mode) m.is ∙ idle_mode))

mode_running : (p : Processor) (ω : Opening) (T : Trace) → Made (running ω T) p → ltb 0 p.opening.mode ≡ true
unfolding processor_of
mode_running p ω T m = lt-ltb 0 p.opening.mode (omega (arith, ap (λ (x : Opening). x.mode) (opening_of_lem ω T p m.is), m.sound.named))

-- ---- the answer to a take, from the processor's mode and count of ticks

take-answer-at : (p : Processor) (P : Trace) (room : ℕ) (σ : Sweep) → Made σ p → take_answer_at σ P room ≡ take_answer (ltb 0 p.opening.mode) p.taken P room
unfolding take_answer_at take_answer processor_of
take-answer-at p P room none m = rw (mode_none p m)
take-answer-at p P room (running ω T) m =
    ap (λ (t : ℕ). take_answer true t P room) (sym (taken_of ω T p m.is))
    ∙ ap (λ (x : Bool). take_answer x p.taken P room) (sym (mode_running p ω T m))

-- a take that is turned down
pub take_no : (p : Processor) (P : Trace) (b : List ℕ) (k : Refusal) (r : Answered) → take_answer (ltb 0 p.opening.mode) p.taken P (length b) ≡ refused k
    → r ≡ record { answer = Err k; processor = p } → TakePost p P b r b
take_no p P b k r e q =
    record {
      result = λ σ m. q ∙ ap (λ (x : Processor). record { answer = Err k; processor = x }) m.is ∙ sym (ap (λ (v : RulesAnswer). take_as v σ P) (is-refused σ m));
      buffer = λ σ m. sym (ap (λ (v : RulesAnswer). take_buffer_as v σ P b) (is-refused σ m));
    }
  where
    is-refused : (σ : Sweep) → Made σ p → take_answer_at σ P (length b) ≡ refused k
    is-refused σ m = take-answer-at p P (length b) σ m ∙ e

-- a take that is not
pub take-yes : (p : Processor) (P : Trace) (b : List ℕ) (r : Answered) (b' : List ℕ) → take_answer (ltb 0 p.opening.mode) p.taken P (length b) ≡ accepted → TakenPiece p P b r b'
    → TakePost p P b r b'
take-yes p P b r b' e t =
    record {
      result = λ σ m. (did σ m).0 ∙ sym (ap (λ (v : RulesAnswer). take_as v σ P) (accepts σ m));
      buffer = λ σ m. (did σ m).1 ∙ sym (ap (λ (v : RulesAnswer). take_buffer_as v σ P b) (accepts σ m));
    }
  where
    accepts : (σ : Sweep) → Made σ p → take_answer_at σ P (length b) ≡ accepted
    accepts σ m = take-answer-at p P (length b) σ m ∙ e

    did : (σ : Sweep) → Made σ p → (r ≡ take_as accepted σ P) × (b' ≡ take_buffer_as accepted σ P b)
    did none m = absurd (impossible (sym (took (ltb 0 p.opening.mode) p.taken P (length b) e).open-sweep ∙ mode_none p m))
    did (running ω T) m =
        let k = took (ltb 0 p.opening.mode) p.taken P (length b) e in
        t.done ω T m k.alike (omega (arith, fresh-most standard T P, k.fits))

-- ---- a piece that is taken

over-start : (l b : List ℕ) → over-at l 0 b ≡ over l b
unfolding over-at over
over-start l b = rw (zero-add (length l))

records-of : (m : ℕ) (k : ℕ) → m ≡ record_size * k → m / record_size ≡ k
records-of m k e = omega arith

-- bytes, read one by one
bytes-all : (l : List ℕ) → ((i : ℕ) → get_or l i 0 < 256) → All (λ v. v ≤ 255) l
bytes-all [] h = tt
bytes-all (v ∷ l) h = (omega (arith, h 0), bytes-all l (λ i. h (suc i)))

module _ (p : Processor) (P : Trace) (b : List ℕ) (limit : p.taken + length P.flags ≤ sweep_limit) (bytes : (i : ℕ) → get_or P.values i 0 < 256)
    (o y : Progress) (b' recent' : List ℕ) (oe : o ≡ progress_of_lem p)
    (fd : BlocksPost o p.recent p.taken P.flags P.values b y b') (kp : KeepPost p.recent P.values recent') where
  abbrev result : Answered
  result =
      record {
        answer = Ok (y.at / record_size);
        processor = record { opening = p.opening; taken = p.taken + length P.flags; front = y.front; recent = recent'; places = listed (four y.places); counts = y.counts };
      }

  module _ (ω : Opening) (T : Trace) (is : p ≡ running_processor ω T) (w : Within ω T) (alike : length P.flags ≡ length P.values)
      (room : record_size * length (fresh standard T P) ≤ length b) where
    fed : Fed T P b y b'
    fed =
        fd.result T
        (enters_piece T o p.recent p.taken P.flags P.values b
        (record {
          front = ap (λ (x : Progress). x.front) oe ∙ front_of_lem ω T p is;
          machine = ap machine_at oe ∙ machine-of ω T p is;
          place = ap (λ (x : Progress). x.at) oe;
          kept = recent-of ω T p is;
          ticks = sym (taken_of ω T p is);
          alike = w.alike;
          alike-piece = alike;
          bytes = w.bytes;
          bytes-piece = bytes-all P.values bytes;
          limit = limit;
          room = room;
        }))

    took_it : result ≡ record { answer = Ok (length (fresh standard T P)); processor = running_processor ω (T ⧺ P) }
    unfolding running_processor
    took_it =
        let c = records-of y.at (length (fresh standard T P)) fed.place in
        let e1 = opening_of_lem ω T p is in
        let e3 : p.taken + length P.flags ≡ length (T.flags ++ P.flags) = omega (arith, taken_of ω T p is, length-append T.flags P.flags) in
        let e4 = fed.front in
        let e5 = kp.result T.values (recent-of ω T p is) in
        let e6 = fed.machine in
        λ i. record { answer = Ok (c i); processor = record { opening = e1 i; taken = e3 i; front = e4 i; recent = e5 i; places = listed (e6 i).places; counts = (e6 i).counts } }

  pub take_done : (r : Answered) → r ≡ result → TakenPiece p P b r b'
  unfolding processor_of
  take_done r e =
      record {
        done =
            λ ω T m alike room. (
              e ∙ took_it ω T m.is m.sound alike room,
              (fed ω T m.is m.sound alike room).buffer ∙ over-start (records (fresh standard T P)) b,
            );
      }

-- ---- closing

close-answer-at : (p : Processor) (room : ℕ) (σ : Sweep) → Made σ p → close_answer_at σ room ≡ close_answer (ltb 0 p.opening.mode) room
unfolding close_answer_at
close-answer-at p room none m = ap (λ (x : Bool). close_answer x room) (sym (mode_none p m))
close-answer-at p room (running ω T) m = ap (λ (x : Bool). close_answer x room) (sym (mode_running p ω T m))

-- a close that is turned down
pub close-no : (p : Processor) (b : List ℕ) (k : Refusal) (r : Closed) → close_answer (ltb 0 p.opening.mode) (length b) ≡ refused k
    → r ≡ record { answer = Err k; totals = no_totals_lem; processor = p } → ClosePost p b r b
close-no p b k r e q =
    record {
      result =
          λ σ m. q ∙ ap (λ (x : Processor). record { answer = Err k; totals = no_totals_lem; processor = x }) m.is ∙ sym (ap (λ (v : RulesAnswer). close_as v σ) (is-refused σ m));
      buffer = λ σ m. sym (ap (λ (v : RulesAnswer). close_buffer_as v σ b) (is-refused σ m));
    }
  where
    is-refused : (σ : Sweep) → Made σ p → close_answer_at σ (length b) ≡ refused k
    is-refused σ m = close-answer-at p (length b) σ m ∙ e

-- a close that is not
pub close-yes : (p : Processor) (b : List ℕ) (r : Closed) (b' : List ℕ) → close_answer (ltb 0 p.opening.mode) (length b) ≡ accepted → ClosedOpen p b r b' → ClosePost p b r b'
close-yes p b r b' e t =
    record {
      result = λ σ m. (did σ m).0 ∙ sym (ap (λ (v : RulesAnswer). close_as v σ) (accepts σ m));
      buffer = λ σ m. (did σ m).1 ∙ sym (ap (λ (v : RulesAnswer). close_buffer_as v σ b) (accepts σ m));
    }
  where
    accepts : (σ : Sweep) → Made σ p → close_answer_at σ (length b) ≡ accepted
    accepts σ m = close-answer-at p (length b) σ m ∙ e

    did : (σ : Sweep) → Made σ p → (r ≡ close_as accepted σ) × (b' ≡ close_buffer_as accepted σ b)
    did none m = absurd (impossible (sym (closes (ltb 0 p.opening.mode) (length b) e).open-sweep ∙ mode_none p m))
    did (running ω T) m =
        t.done ω T m (omega (arith, rest-most standard standard_allowed T, (closes (ltb 0 p.opening.mode) (length b) e).fits))

module _ (p : Processor) (b : List ℕ) (base : ℕ) (eb : p.taken ≤ sweep_limit → base ≡ p.taken) (o y : Progress) (b' : List ℕ) (oe : o ≡ progress_of_lem p)
    (dr : DrainPost o p.recent base b y b') where
  abbrev closed_result : Closed
  closed_result = record { answer = Ok (y.at / record_size); totals = totals_from y.counts; processor = idle_processor }

  module _ (ω : Opening) (T : Trace) (is : p ≡ running_processor ω T) (w : Within ω T) (room : record_size * length (rest standard T) ≤ length b) where
    drained : Fed T (silence 448) b y b'
    drained =
        let t = taken_of ω T p is in
        let c = eb (omega (arith, t, w.short)) in
        dr.result T
        (record {
          front = ap (λ (x : Progress). x.front) oe ∙ front_of_lem ω T p is;
          machine = ap machine_at oe ∙ machine-of ω T p is;
          place = ap (λ (x : Progress). x.at) oe;
          kept = recent-of ω T p is;
          ticks = omega (arith, t, c);
          alike = w.alike;
          bytes = w.bytes;
          limit = omega (arith, t, c, w.short);
          room = room;
        })

    left : fresh standard T (silence 448) ≡ rest standard T
    left = rest-silence standard standard_allowed T 448 (omega arith)

    closed_it : closed_result ≡ record { answer = Ok (length (rest standard T)); totals = totals (final standard T); processor = idle_processor }
    closed_it =
        let d = drained in
        let c = records-of y.at (length (rest standard T)) (d.place ∙ ap (λ (l : List Reply). record_size * length l) left) in
        let t = ap (λ (z : Machine). totals_from z.counts) d.machine ∙ totals_law T in
        λ i. record { answer = Ok (c i); totals = t i; processor = idle_processor }

  pub close-done : (r : Closed) → r ≡ closed_result → ClosedOpen p b r b'
  unfolding processor_of
  close-done r e =
      record {
        done =
            λ ω T m room.
            let d = drained ω T m.is m.sound room in (
              e ∙ closed_it ω T m.is m.sound room,
              d.buffer ∙ over-start (records (fresh standard T (silence 448))) b ∙ ap (λ (l : List Reply). over (records l) b) (left ω T m.is m.sound room),
            );
      }
