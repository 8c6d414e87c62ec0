-- All pieces of a trace, one after the other: the buffer then holds the records of what is due.
use Prim.Native.Nat.{ℕ, zero, suc, ◌+◌, ◌-◌, ◌*◌, ◌/◌, ◌≤◌, ◌<◌, min}
use native.Mathlib.Omega.{arith}
use mathlib.Core.Path.{◌≡◌, refl, sym, ap, ◌∙◌, subst}
use mathlib.Core.Bool.{Bool, true}
use mathlib.Core.List.{List, [], ◌∷◌, ◌++◌}
use lib.ListN.{length, get_or, take, drop, length-append, length-take, length-drop}
use lib.Seq.{take-add, length-take-le, take_all}
use borrow.Rule.Slice.PartMut.{mid_of, put_mid}
use Rattle.rules.specs.declared.Opening.{Opening}
use Rattle.rules.specs.declared.Reply.{Reply}
use Rattle.rules.specs.declared.Place.{Place}
use Rattle.rules.specs.Settings.{standard}
use Rattle.rules.specs.Lists.{All}
use Rattle.rules.specs.Samples.{Trace, nothing, sweep_limit, ◌⧺◌}
use Rattle.rules.specs.Buffers.{over, over-at}
use Rattle.rules.specs.Machine.{after}
use Rattle.rules.specs.Records.{records, record_size}
use Rattle.rules.specs.Calls.{most_replies, handed, fresh}
use Rattle.rules.proofs.Buffers.{over-at-more}
use Rattle.rules.proofs.Joining.{handed-fresh, handed-done, records-append, records-length}
use Rattle.rules.proofs.HandingOut.{fresh-most}
use Rattle.processor.specs.declared.Processor.{Processor}
use Rattle.places.specs.Places.{idle}
use Rattle.processor.specs.declared.Progress.{Progress}
use Rattle.processor.specs.Arrays.{listed, machine_at, processor_at, progress_of_lem}
use Rattle.processor.specs.State.{running, running_processor, processor_of, Made}
use Rattle.blocks.specs.Steps.{quiet}
use Rattle.blocks.specs.Feeding.{BlocksPost}
use Rattle.front.specs.Post.{KeepPost}
use Rattle.rules.proofs.Answers.{standard_allowed}
use Rattle.processor.proofs.ProcessorLaws.{opening_of_lem, front_of_lem, recent-of, machine-of}
use Rattle.takes.specs.declared.Reached.{Reached}
use Rattle.takes.specs.Post.{arrived_at, Taken, Takes, TakeAllPost}
use Rattle.takes.proofs.Pieces.{Reaches, Fits, TakesAt, q, piece_fed, piece-quiet}

-- ---- lists

pub all_take : (n : ℕ) (l : List ℕ) → All (λ v. v ≤ 255) l → All (λ v. v ≤ 255) (take n l)
all_take zero l h = tt
all_take (suc n) [] h = tt
all_take (suc n) (x ∷ l) h = (h.0, all_take n l h.1)

pub all_drop : (n : ℕ) (l : List ℕ) → All (λ v. v ≤ 255) l → All (λ v. v ≤ 255) (drop n l)
all_drop zero l h = h
all_drop (suc n) [] h = tt
all_drop (suc n) (x ∷ l) h = all_drop n l h.1

-- ---- buffers

over-start : (l b : List ℕ) → over l b ≡ over-at l 0 b
unfolding over over-at
over-start l b = ap (λ (n : ℕ). l ++ drop n b) {x = length l} {y = 0 + length l} (omega arith)

-- more bytes behind those at the start
pub over-more : (l k b : List ℕ) (to : ℕ) → to ≡ length l → to ≤ length b → over-at k to (over l b) ≡ over (l ++ k) b
over-more l k b to e h = ap (over-at k to) (over-start l b) ∙ over-at-more l k b 0 to (omega (arith, e)) h ∙ sym (over-start (l ++ k) b)

-- ---- what is due of the first ticks

none-due : handed standard nothing ≡ []
unfolding after
none-due = handed-done standard standard_allowed nothing

pub handed-most : (T : Trace) → length (handed standard T) ≤ most_replies (length T.flags)
handed-most T =
    let e : handed standard T ≡ handed standard nothing ++ fresh standard nothing T = handed-fresh standard standard_allowed nothing T refl in
    omega (arith, ap length e, length-append (handed standard nothing) (fresh standard nothing T), ap length none-due, fresh-most standard nothing T)

-- the first i ticks, and those from i to before e
abbrev pub up_to : ℕ → Trace → Trace
up_to i T = record { flags = take i T.flags; values = take i T.values }

abbrev pub between : ℕ → ℕ → Trace → Trace
between i e T = record { flags = take (e - i) (drop i T.flags); values = take (e - i) (drop i T.values) }

pub up_more : (T : Trace) (i e : ℕ) → i ≤ e → up_to i T ⧺ between i e T ≡ up_to e T
up_more T i e h =
    let q : i + (e - i) ≡ e = omega arith in
    let f : take i T.flags ++ take (e - i) (drop i T.flags) ≡ take e T.flags = sym (take-add i (e - i) T.flags) ∙ ap (λ (n : ℕ). take n T.flags) q in
    let v : take i T.values ++ take (e - i) (drop i T.values) ≡ take e T.values = sym (take-add i (e - i) T.values) ∙ ap (λ (n : ℕ). take n T.values) q in
    λ j. record { flags = f j; values = v j }

pub up_all : (T : Trace) (n : ℕ) → n ≡ length T.flags → length T.flags ≡ length T.values → up_to n T ≡ T
up_all T n e a =
    let f : take n T.flags ≡ T.flags = take_all n T.flags (omega (arith, e)) in
    let v : take n T.values ≡ T.values = take_all n T.values (omega (arith, e, a)) in
    λ j. record { flags = f j; values = v j }

-- what is due of the first ticks is a beginning of what is due
handed-first : (T : Trace) (e : ℕ) → e ≤ length T.flags → length T.flags ≡ length T.values → length (handed standard (up_to e T)) ≤ length (handed standard T)
handed-first T e h alike =
    let n = length T.flags in
    let a : length (up_to e T).flags ≡ length (up_to e T).values = omega (arith, length-take-le e T.flags h, length-take-le e T.values (omega (arith, alike))) in
    let z = ap (handed standard) (sym (up_all T n refl alike) ∙ sym (up_more T e n h)) ∙ handed-fresh standard standard_allowed (up_to e T) (between e n T) a in
    omega (arith, ap length z, length-append (handed standard (up_to e T)) (fresh standard (up_to e T) (between e n T)))

-- ---- one piece more

pub record Takings (p : Processor) (T : Trace) (piece : ℕ) (b₀ : List ℕ) (y : Progress) (recent : List ℕ) (at i : ℕ) (b : List ℕ) : Type 0 where
  pub size : length b ≡ length b₀
  pub inside : at ≤ length b₀
  pub reach : i ≤ length T.flags
  pub start : y.at ≡ 0
  pub result : (ω : Opening) → p ≡ running_processor ω nothing → Takes ω T b₀
      → Taken ω (up_to i T) b₀ (arrived_at p y recent i at) b

module _ (p : Processor) (T : Trace) (piece : ℕ) (b₀ : List ℕ) (alike : length T.flags ≡ length T.values) where
  -- before the first piece
  pub takings_start : (y : Progress) → y ≡ progress_of_lem p → Takings p T piece b₀ y p.recent 0 0 b₀
  unfolding over records running_processor
  takings_start y is =
      record {
        size = refl;
        inside = omega arith;
        reach = omega arith;
        start = ap (λ (z : Progress). z.at) is;
        result = λ ω e t.
            let e1 = opening_of_lem ω nothing p e in
            let e4 = ap (λ (z : Progress). z.front) is ∙ front_of_lem ω nothing p e in
            let e5 = recent-of ω nothing p e in
            let e6 = ap machine_at is ∙ machine-of ω nothing p e in
            record {
              processor = λ i. record { opening = e1 i; taken = 0; front = e4 i; recent = e5 i; places = listed (e6 i).places; counts = (e6 i).counts };
              place = omega (arith, ap length none-due);
              buffer = ap (λ (l : List Reply). over (records l) b₀) (sym none-due);
            };
      }

  module _ (y : Progress) (recent : List ℕ) (at i end : ℕ) (b : List ℕ) (h : Takings p T piece b₀ y recent at i b) (more : i < length T.flags)
      (step : end ≡ i + min piece (length T.flags - i)) where
    here : end ≤ length T.flags
    here = omega (arith, step)

    size_i : length (up_to i T).flags ≡ i
    size_i = length-take-le i T.flags h.reach

    size-P : length (between i end T).flags ≡ end - i
    size-P = length-take-le (end - i) (drop i T.flags) (omega (arith, length-drop i T.flags, here))

    alike-P : length (between i end T).flags ≡ length (between i end T).values
    alike-P = size-P ∙ sym (length-take-le (end - i) (drop i T.values) (omega (arith, length-drop i T.values, here, alike)))

    alike_i : length (up_to i T).flags ≡ length (up_to i T).values
    alike_i = size_i ∙ sym (length-take-le i T.values (omega (arith, h.reach, alike)))

    module _ (y' : Progress) (kept : List ℕ) (to : ℕ) (b' : List ℕ) (begun : y'.at ≡ 0)
        (post : TakesAt (processor_at p y recent i) (between i end T) at b (arrived_at p y' kept end to) b') where
      module _ (ω : Opening) (e : p ≡ running_processor ω nothing) (t : Takes ω T b₀) where
        before : Taken ω (up_to i T) b₀ (arrived_at p y recent i at) b
        before = h.result ω e t

        made : Made (running ω (up_to i T)) (processor_at p y recent i)
        unfolding processor_of
        made =
            record {
              is = before.processor;
              sound = record { named = t.named; alike = alike_i; short = omega (arith, size_i, h.reach, t.short); bytes = all_take i T.values t.bytes };
            }

        joined : handed standard (up_to end T) ≡ handed standard (up_to i T) ++ fresh standard (up_to i T) (between i end T)
        joined =
            ap (handed standard) (sym (up_more T i end (omega (arith, step)))) ∙ handed-fresh standard standard_allowed (up_to i T) (between i end T) alike_i

        fits : Fits (up_to i T) (between i end T) (length b - at)
        fits =
            record {
              alike = alike-P;
              limit = omega (arith, size-P, size_i, t.short, here, step);
              records =
                  omega
                  (arith, before.place, h.size, t.room, ap length joined, length-append (handed standard (up_to i T)) (fresh standard (up_to i T) (between i end T)), handed-first T end here alike);
            }

        took : Reaches ω (up_to i T) (between i end T) at b (arrived_at p y' kept end to) b'
        took = post.result ω (up_to i T) made fits

        now_taken : Taken ω (up_to end T) b₀ (arrived_at p y' kept end to) b'
        now_taken =
            let H = handed standard (up_to i T) in
            let F = fresh standard (up_to i T) (between i end T) in
            record {
              processor = took.processor ∙ ap (running_processor ω) (up_more T i end (omega (arith, step)));
              place = omega (arith, took.place, before.place, ap length joined, length-append H F);
              buffer =
                  took.buffer ∙ ap (over-at (records F) at) before.buffer
                  ∙ over-more (records H) (records F) b₀ at (before.place ∙ sym (records-length H)) h.inside
                  ∙ ap (λ (l : List ℕ). over l b₀) (sym (records-append H F) ∙ ap records (sym joined));
            }

      takings_next : length b' ≡ length b → Takings p T piece b₀ y' kept to end b'
      takings_next l = record { size = l ∙ h.size; inside = omega (arith, post.inside, h.size); reach = here; start = begun; result = now_taken }

    -- one that is fed, and one that finds nothing
    module _ (bytes : All (λ v. v ≤ 255) T.values) (kept : List ℕ) (keeps : KeepPost recent (between i end T).values kept) where
      bytes-P : All (λ v. v ≤ 255) (between i end T).values
      bytes-P = all_take (end - i) (drop i T.values) (all_drop i T.values bytes)

      inside-b : at ≤ length b
      inside-b = omega (arith, h.inside, h.size)

      ticks : end ≡ i + length (between i end T).flags
      ticks = omega (arith, size-P, step)

      pub takings_fed : (z : Progress) (m' : List ℕ) (to : ℕ) → BlocksPost y recent i (between i end T).flags (between i end T).values (mid_of at (length b - at) b) z m'
          → to ≡ at + record_size * min (z.at / record_size) ((length b - at) / record_size) → length (put_mid at (length b - at) b m') ≡ length b
          → Takings p T piece b₀ (record { front = z.front; places = z.places; counts = z.counts; at = 0 }) kept to end (put_mid at (length b - at) b m')
      unfolding q
      takings_fed z m' to post e l =
          takings_next (record { front = z.front; places = z.places; counts = z.counts; at = 0 }) kept to (put_mid at (length b - at) b m') refl
          (piece_fed p y recent i (between i end T) at b inside-b bytes-P end ticks kept keeps h.start z m' post to e) l

      pub takings_quiet : (first : Place) (r : Bool) → first ≡ get_or y.places 0 idle → r ≡ quiet y.front first i (between i end T).flags → r ≡ true → Takings p T piece b₀ y kept at end b
      unfolding q
      takings_quiet first r f e is =
          let k : quiet y.front (get_or y.places 0 idle) i (between i end T).flags ≡ true =
          ap (λ (x : Place). quiet y.front x i (between i end T).flags) (sym f) ∙ sym e ∙ is in
          takings_next y kept at b h.start (piece-quiet p y recent i (between i end T) at b inside-b bytes-P end ticks kept keeps alike-P k) refl

  pub takings_end : (y : Progress) (recent : List ℕ) (at i n : ℕ) (b : List ℕ) (r : Reached) → length T.flags ≤ i → n ≡ length T.flags
      → r ≡ arrived_at p y recent n at → Takings p T piece b₀ y recent at i b → TakeAllPost p T b₀ r b
  takings_end y recent at i n b r l k is h =
      let m : n ≡ i = omega (arith, h.reach) in
      let q : r ≡ arrived_at p y recent i at = is ∙ ap (λ (z : ℕ). arrived_at p y recent z at) m in
      record {
        inside = omega (arith, h.inside, ap (λ (z : Reached). z.at) q);
        result = λ ω e t.
            subst (λ (X : Trace). Taken ω X b₀ r b) (up_all T i (omega (arith, h.reach)) alike)
            (subst (λ (z : Reached). Taken ω (up_to i T) b₀ z b) (sym q) (h.result ω e t));
      }

-- every value that a slice of bytes has is a byte
pub all-bytes : (l : List ℕ) → ((i : ℕ) → get_or l i 0 ≤ 255) → All (λ v. v ≤ 255) l
all-bytes [] h = tt
all-bytes (x ∷ l) h = (h 0, all-bytes l (λ i. h (suc i)))

-- a part of a sweep ends within the limit that the machine has
pub part-ends : (l : List ℕ) (from size : ℕ) → from < length l → length l ≤ sweep_limit → from + length (take size (drop from l)) < 65000
part-ends l from size a b = omega (arith, length-take size (drop from l), length-drop from l)
