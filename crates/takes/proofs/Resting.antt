-- A piece without flags, behind ticks without flags, edges and M, hands out nothing while no reply is due, and leaves words and machine as they are:
-- each of its ticks is a block that stays.
use Prim.Native.Nat.{ℕ, zero, suc, ◌+◌, ◌*◌, ◌/◌, ◌≤◌, ◌<◌}
use native.Mathlib.Omega.{arith}
use native.Mathlib.Numerals.{add-one}
use mathlib.Core.Path.{◌≡◌, refl, sym, ap, ◌∙◌, subst}
use mathlib.Core.Bool.{Bool, true, false}
use mathlib.Core.List.{List, [], ◌∷◌, ◌++◌}
use lib.ListN.{length, get_or, replicate, length-append, length-replicate}
use Rattle.rules.specs.declared.Opening.{Opening}
use Rattle.rules.specs.Records.{record_size}
use Rattle.rules.specs.declared.Place.{Place}
use Rattle.rules.specs.declared.Reply.{Reply}
use Rattle.rules.specs.Settings.{standard}
use Rattle.rules.specs.Lists.{All}
use Rattle.rules.specs.Samples.{Trace, ◌⧺◌, A, P, N, M, odd}
use Rattle.rules.specs.Calls.{take_room, fresh}
use Rattle.rules.proofs.HandingOut.{fresh-most}
use Rattle.packing.specs.declared.Planes.{Planes}
use Rattle.plane.specs.Words.{HoldsPart}
use Rattle.packing.specs.Packing.{PackedPart}
use Rattle.flags.specs.Flags.{no_flags}
use Rattle.flags.proofs.Flagless.{no-flag-at}
use Rattle.plane.proofs.BitLaws.{zero_bit}
use Rattle.processor.specs.declared.Processor.{Processor}
use Rattle.front.specs.declared.words.Front.{Front}
use Rattle.processor.specs.declared.Progress.{Progress}
use Rattle.processor.specs.State.{running, running_processor, processor_of, Made}
use Rattle.front.specs.Words.{recent_of}
use Rattle.front.specs.Post.{blank}
use Rattle.places.specs.Four.{Machine}
use Rattle.places.specs.Places.{idle}
use Rattle.blocks.specs.Steps.{none_due_lem, Fed, quiet}
use Rattle.blocks.specs.Feeding.{BlocksPost}
use Rattle.processor.specs.Arrays.{listed, progress_of_lem}
use Rattle.blocks.proofs.Quiet.{Quiet, quiet_is}
use Rattle.blocks.proofs.Blank.{none-due-before, stays_law}
use Rattle.blocks.proofs.Feeding.{Feeding, feed_start, feed_next, feed_end}
use Rattle.pieces.proofs.Pieces.{enters_piece}
use Rattle.processor.proofs.ProcessorLaws.{opening_of_lem, taken_of, front_of_lem, recent-of, machine-of, four_of}

-- the piece P behind the trace T hands out nothing, and leaves all but the count of ticks and the kept values as it is
pub record Rests (p : Processor) (ω : Opening) (T P : Trace) : Type 0 where
  pub none-due : fresh standard T P ≡ []
  pub processor : record { opening = p.opening; taken = p.taken + length P.flags; front = p.front; recent = recent_of (T.values ++ P.values); places = p.places; counts = p.counts }
      ≡ running_processor ω (T ⧺ P)

-- ---- one tick

abbrev none : Planes
none = record { a = 0; p = 0; n = 0; m = 0 }

-- a tick without flags, as words
tick-none : (flags : List ℕ) (i : ℕ) → get_or flags i 0 ≡ 0 → PackedPart flags i 1 none
unfolding A P N M
tick-none flags i e =
    record {
      a = part (A flags) (λ m l. ap odd (at m l));
      p = part (P flags) (λ m l. ap (λ (x : ℕ). odd (x / 2)) (at m l));
      n = part (N flags) (λ m l. ap (λ (x : ℕ). odd (x / 4)) (at m l));
      m = part (M flags) (λ m l. ap (λ (x : ℕ). odd (x / 8)) (at m l));
    }
  where
    at : (m : ℕ) → m < 1 → get_or flags (i + m) 0 ≡ 0
    at m l = let z : i ≡ i + m = omega arith in subst (λ (k : ℕ). get_or flags k 0 ≡ 0) z e

    part : (F : ℕ → Bool) → ((m : ℕ) → m < 1 → F (i + m) ≡ false) → HoldsPart F i 1 0
    part F f = record { below = omega arith; at = λ m l. zero_bit m ∙ sym (f m l); rest = λ m l. zero_bit m }

-- ---- a piece

module _ (o : Progress) (recent : List ℕ) (base : ℕ) (flags values b : List ℕ) (flagless : no_flags flags ≡ true) (words : blank o.front ≡ true)
    (waits : none_due_lem (get_or o.places 0 idle) (base + length flags) ≡ true) where
  resting : (i : ℕ) → i ≤ length flags → Feeding o recent base flags values b b o i
  resting zero h = feed_start o recent base flags values b
  resting (suc i) h =
      let t = base + (i + 1) in
      subst (λ (k : ℕ). Feeding o recent base flags values b b o k) (add-one i)
      (feed_next o recent base flags values b b o i 1 t none o b (omega arith) refl (tick-none flags i (no-flag-at flags flagless i))
      (stays_law o none 1 t recent base values b (omega arith) refl words (none-due-before (get_or o.places 0 idle) t (base + length flags) (omega arith) waits))
      (resting i (omega arith)))

  pub rests_law : BlocksPost o recent base flags values b o b
  rests_law = feed_end o recent base flags values b b o (length flags) (omega arith) (resting (length flags) (omega arith))

-- ---- the take of such a piece

no-replies : (l : List Reply) → 0 ≡ record_size * length l → l ≡ []
no-replies [] e = refl
no-replies (r ∷ l) e = absurd (omega arith)

module _ (p : Processor) (flags : List ℕ) (q : Quiet p.front (get_or p.places 0 idle) p.taken flags) (ω : Opening) (T : Trace) (values : List ℕ)
    (made : Made (running ω T) p) (alike : length flags ≡ length values) (bytes : All (λ v. v ≤ 255) values) where
  made_as : p ≡ running_processor ω T
  unfolding processor_of
  made_as = made.is

  o : Progress
  o = progress_of_lem p

  room : List ℕ
  room = replicate (take_room (length flags)) 0

  fed : Fed T (record { flags = flags; values = values }) room o room
  unfolding o room
  fed =
      (rests_law o p.recent p.taken flags values room q.flagless q.words q.waits).result T
      (enters_piece T o p.recent p.taken flags values room
      (record {
        front = front_of_lem ω T p made_as;
        machine = machine-of ω T p made_as;
        place = refl;
        kept = recent-of ω T p made_as;
        ticks = sym (taken_of ω T p made_as);
        alike = made.sound.alike;
        alike-piece = alike;
        bytes = made.sound.bytes;
        bytes-piece = bytes;
        limit = q.limit;
        room = omega (arith, length-replicate {A = ℕ} (take_room (length flags)) 0, fresh-most standard T (record { flags = flags; values = values }));
      }))

  rests : Rests p ω T (record { flags = flags; values = values })
  unfolding o running_processor
  rests =
      let e1 = opening_of_lem ω T p made_as in
      let e3 : p.taken + length flags ≡ length (T.flags ++ flags) = omega (arith, taken_of ω T p made_as, length-append T.flags flags) in
      let e4 = fed.front in
      let e6 = four_of ω T p made_as ∙ ap (λ (z : Machine). listed z.places) fed.machine in
      let e7 = ap (λ (z : Machine). z.counts) fed.machine in
      record {
        none-due = no-replies (fresh standard T (record { flags = flags; values = values })) fed.place;
        processor = λ i. record { opening = e1 i; taken = e3 i; front = e4 i; recent = recent_of (T.values ++ values); places = e6 i; counts = e7 i };
      }

-- every piece of quiet flags is such a piece for a processor with these words, this first place, and so many ticks taken
pub quiet_rests : (f : Front) (first : Place) (base : ℕ) (flags : List ℕ) → quiet f first base flags ≡ true
    → (p : Processor) → p.front ≡ f → get_or p.places 0 idle ≡ first → p.taken ≡ base
    → (ω : Opening) (T : Trace) (values : List ℕ) → Made (running ω T) p → length flags ≡ length values → All (λ v. v ≤ 255) values
    → Rests p ω T (record { flags = flags; values = values })
quiet_rests f first base flags is p words place ticks =
    rests p flags
    (subst (λ (g : Front). Quiet g (get_or p.places 0 idle) p.taken flags) (sym words)
    (subst (λ (x : Place). Quiet f x p.taken flags) (sym place) (subst (λ (t : ℕ). Quiet f first t flags) (sym ticks) (quiet_is f first base flags is))))
