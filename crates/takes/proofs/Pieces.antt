-- A piece whose records land behind those of the pieces before.
use Prim.Native.Nat.{ℕ, ◌+◌, ◌-◌, ◌*◌, ◌/◌, ◌≤◌, min}
use native.Mathlib.Omega.{arith}
use mathlib.Core.Path.{◌≡◌, refl, sym, ap, ap₂, ◌∙◌, subst}
use mathlib.Core.Bool.{Bool, true, false}
use mathlib.Core.List.{List, [], ◌++◌, append_assoc, append-nil}
use lib.ListN.{length, get_or, take, drop, length-append, length-drop, drop_of_length-le}
use lib.Seq.{drop-drop, take_all}
use borrow.Rule.Slice.PartMut.{mid_of, post_of, put_mid}
use Rattle.rules.specs.declared.Opening.{Opening}
use Rattle.rules.specs.declared.Reply.{Reply}
use Rattle.rules.specs.Settings.{standard}
use Rattle.rules.specs.Lists.{All}
use Rattle.rules.specs.Samples.{Trace, ◌⧺◌, sweep_limit}
use Rattle.rules.specs.Buffers.{over, over-at}
use Rattle.rules.specs.Records.{records, record_size}
use Rattle.rules.specs.Calls.{fresh}
use Rattle.calls.specs.Answers.{Answer}
use Rattle.std.specs.Prelude.{Ok, Err}
use Rattle.processor.specs.declared.Processor.{Processor}
use Rattle.processor.specs.declared.Progress.{Progress}
use Rattle.processor.specs.State.{running, running_processor, processor_of, Made}
use Rattle.blocks.specs.Steps.{quiet, Fed}
use Rattle.places.specs.Places.{idle}
use Rattle.marking.specs.Marks.{four}
use Rattle.processor.specs.Arrays.{listed, processor_at}
use Rattle.blocks.specs.Feeding.{BlocksPost}
use Rattle.pieces.proofs.Pieces.{Begins, enters_piece}
use Rattle.front.specs.Post.{KeepPost}
use Rattle.processor.proofs.ProcessorLaws.{opening_of_lem, taken_of, front_of_lem, recent-of, machine-of}
use Rattle.takes.proofs.Resting.{quiet_rests}
use Rattle.blocks.proofs.Working.{over-nil}
use Rattle.takes.specs.declared.Reached.{Reached}

unfoldable pub is_refused : Answer → Bool
is_refused (Ok n) = false
is_refused (Err k) = true

unfoldable pub count_in_lem : Answer → ℕ
count_in_lem (Ok n) = n
count_in_lem (Err k) = 0

-- the bytes l at the start of the rest of a buffer
pub over-rest : (l : List ℕ) (at : ℕ) (b : List ℕ) → take at b ++ over l (drop at b) ≡ over-at l at b
unfolding over over-at
over-rest l at b =
    sym (append_assoc (take at b) l (drop (length l) (drop at b))) ∙ ap (λ (x : List ℕ). (take at b ++ l) ++ x) (drop-drop (length l) at b)

pub mid_is : (at : ℕ) (b : List ℕ) → mid_of at (length b - at) b ≡ drop at b
mid_is at b = take_all (length b - at) (drop at b) (omega (arith, length-drop at b))

pub post_is : (at : ℕ) (b : List ℕ) → at ≤ length b → post_of at (length b - at) b ≡ []
post_is at b h = drop_of_length-le (drop at b) {i = length b - at} (omega (arith, length-drop at b))

over-start : (l b : List ℕ) → over-at l 0 b ≡ over l b
unfolding over over-at
over-start l b = ap (λ (n : ℕ). l ++ drop n b) {x = 0 + length l} {y = length l} (omega arith)

-- ---- a piece, from the processor of the trace before

-- the piece P behind the trace T, its records from place at of the buffer on
pub record Reaches (ω : Opening) (T P : Trace) (at : ℕ) (b : List ℕ) (r : Reached) (b' : List ℕ) : Type 0 where
  pub processor : r.processor ≡ running_processor ω (T ⧺ P)
  pub place : r.at ≡ at + record_size * length (fresh standard T P)
  pub buffer : b' ≡ over-at (records (fresh standard T P)) at b

-- P fits the sweep behind T, and its records fit a buffer with so much room
pub record Fits (T P : Trace) (room : ℕ) : Type 0 where
  pub alike : length P.flags ≡ length P.values
  pub limit : length T.flags + length P.flags ≤ sweep_limit
  pub records : record_size * length (fresh standard T P) ≤ room

pub record TakesAt (p : Processor) (P : Trace) (at : ℕ) (b : List ℕ) (r : Reached) (b' : List ℕ) : Type 0 where
  pub inside : r.at ≤ length b
  pub result : (ω : Opening) (T : Trace) → Made (running ω T) p → Fits T P (length b - at) → Reaches ω T P at b r b'

module _ (p : Processor) (o : Progress) (recent : List ℕ) (base : ℕ) (P : Trace) (at : ℕ) (b : List ℕ) (here : at ≤ length b) (bytes : All (λ v. v ≤ 255) P.values)
    (n : ℕ) (ticks : n ≡ base + length P.flags) (kept : List ℕ) (keeps : KeepPost recent P.values kept) where
  unfoldable pub q : Processor
  q = processor_at p o recent base

  module _ (start : o.at ≡ 0) (y : Progress) (m' : List ℕ) (post : BlocksPost o recent base P.flags P.values (mid_of at (length b - at) b) y m') where
    module _ (T : Trace) (g : Begins T o recent base P.flags P.values (drop at b)) where
      fed : Fed T P (drop at b) y m'
      fed =
          subst (λ (l : List ℕ). Fed T P l y m') (mid_is at b)
          (post.result T (enters_piece T o recent base P.flags P.values (mid_of at (length b - at) b) (subst (λ (l : List ℕ). Begins T o recent base P.flags P.values l) (sym (mid_is at b)) g)))

      few : record_size * length (fresh standard T P) ≤ length b - at
      few = omega (arith, g.room, length-drop at b)

      whole_is : put_mid at (length b - at) b m' ≡ over-at (records (fresh standard T P)) at b
      whole_is =
          ap₂ (λ (y z : List ℕ). take at b ++ (y ++ z)) (fed.buffer ∙ over-start (records (fresh standard T P)) (drop at b)) (post_is at b here)
          ∙ ap (λ (y : List ℕ). take at b ++ y) (append-nil (over (records (fresh standard T P)) (drop at b)))
          ∙ over-rest (records (fresh standard T P)) at b

    begins : (ω : Opening) (T : Trace) → Made (running ω T) q → Fits T P (length b - at)
        → Begins T o recent base P.flags P.values (drop at b)
    unfolding processor_of q
    begins ω T m v =
        let is = m.is in
        record {
          front = front_of_lem ω T q is;
          machine = machine-of ω T q is;
          place = start;
          kept = recent-of ω T q is;
          ticks = sym (taken_of ω T q is);
          alike = m.sound.alike;
          alike-piece = v.alike;
          bytes = m.sound.bytes;
          bytes-piece = bytes;
          limit = omega (arith, v.limit, taken_of ω T q is);
          room = omega (arith, v.records, length-drop at b);
        }

    -- the records of a piece, in the rest of the buffer
    pub piece_fed : (to : ℕ) → to ≡ at + record_size * min (y.at / record_size) ((length b - at) / record_size)
        → TakesAt q P at b (record { processor = processor_at p y kept n; at = to }) (put_mid at (length b - at) b m')
    unfolding processor_of running_processor q
    piece_fed to e =
        record {
          inside = omega (arith, e);
          result = λ ω T m v.
              let is = m.is in
              let g = begins ω T m v in
              let f = fed T g in
              let e1 = opening_of_lem ω T q is in
              let e3 : n ≡ length (T.flags ++ P.flags) = omega (arith, ticks, taken_of ω T q is, length-append T.flags P.flags) in
              let e4 = f.front in
              let e5 = keeps.result T.values (recent-of ω T q is) in
              let e6 = f.machine in
              record {
                processor = λ i. record { opening = e1 i; taken = e3 i; front = e4 i; recent = e5 i; places = listed (e6 i).places; counts = (e6 i).counts };
                place = omega (arith, e, f.place, few T g);
                buffer = whole_is T g;
              };
        }

  -- a piece that finds nothing is taken in place
  pub piece-quiet : length P.flags ≡ length P.values → quiet o.front (get_or o.places 0 idle) base P.flags ≡ true
      → TakesAt q P at b (record { processor = processor_at p o kept n; at = at }) b
  unfolding processor_of q
  piece-quiet alike is =
      record {
        inside = here;
        result = λ ω T m v.
            let w = quiet_rests o.front (get_or o.places 0 idle) base P.flags is q refl refl refl ω T P.values m alike bytes in
            let k = keeps.result T.values (recent-of ω T q m.is) in
            record {
              processor = (λ i. record { opening = p.opening; taken = ticks i; front = o.front; recent = k i; places = listed (four o.places); counts = o.counts }) ∙ w.processor;
              place = omega (arith, ap length w.none-due);
              buffer = sym (ap (λ (l : List Reply). over-at (records l) at b) w.none-due ∙ over-nil at b);
            };
      }
