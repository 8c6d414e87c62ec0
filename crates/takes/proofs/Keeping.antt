-- The values of pieces that find nothing are kept once a piece needs them: then they are those of every tick before it.
use Prim.Native.Nat.{ℕ, ◌+◌, ◌-◌, ◌*◌, ◌/◌, ◌≤◌, ◌<◌, min}
use native.Mathlib.Omega.{arith}
use mathlib.Core.Path.{◌≡◌, sym, ap, ◌∙◌, subst}
use mathlib.Core.Bool.{Bool, true}
use mathlib.Core.List.{List, ◌++◌, append-nil}
use lib.ListN.{length, get_or, take, drop}
use lib.Seq.{take-add}
use borrow.Rule.Slice.PartMut.{mid_of, put_mid}
use Rattle.rules.specs.declared.Opening.{Opening}
use Rattle.rules.specs.Records.{record_size}
use Rattle.rules.specs.declared.Place.{Place}
use Rattle.rules.specs.Lists.{All}
use Rattle.rules.specs.Samples.{Trace, nothing}
use Rattle.places.specs.Places.{idle}
use Rattle.processor.specs.declared.Processor.{Processor}
use Rattle.processor.specs.declared.Progress.{Progress}
use Rattle.processor.specs.Arrays.{progress_of_lem}
use Rattle.processor.specs.State.{running_processor}
use Rattle.processor.proofs.ProcessorLaws.{recent-of}
use Rattle.front.specs.Words.{recent_of}
use Rattle.front.specs.Post.{KeepPost}
use Rattle.front.proofs.ValueLaws.{recent_more}
use Rattle.blocks.specs.Steps.{quiet}
use Rattle.blocks.specs.Feeding.{BlocksPost}
use Rattle.takes.specs.declared.Reached.{Reached}
use Rattle.takes.specs.Post.{part, arrived_at, Taken, TakeAllPost}
use Rattle.takes.proofs.Taking.{Takings, takings_start, takings_fed, takings_quiet, takings_end}

-- nothing more is kept of a part that is empty
pub keep-none : (recent l : List ℕ) (from to : ℕ) → to ≤ from → KeepPost recent (part from to l) recent
keep-none recent l from to h =
    let z : to - from ≡ 0 = omega arith in
    record { result = λ old e. e ∙ ap recent_of (sym (append-nil old) ∙ ap (λ (n : ℕ). old ++ take n (drop from l)) (sym z)) }

up_part : (a b : ℕ) (l : List ℕ) → a ≤ b → take a l ++ part a b l ≡ take b l
up_part a b l h =
    let z : a + (b - a) ≡ b = omega arith in
    sym (take-add a (b - a) l) ∙ ap (λ (n : ℕ). take n l) z

-- p is the processor of an opening
abbrev Opens : Processor → Opening → Type 0
Opens p ω = p ≡ running_processor ω nothing

-- r has the values of the first n ticks
pub record KeptTo (p : Processor) (L : List ℕ) (n : ℕ) (r : List ℕ) : Type 0 where
  pub is : (ω : Opening) → Opens p ω → r ≡ recent_of (take n L)

kept_more : (p : Processor) (L : List ℕ) (from to : ℕ) (r r' : List ℕ) → from ≤ to → KeptTo p L from r → KeepPost r (part from to L) r' → KeptTo p L to r'
kept_more p L from to r r' h k q = record { is = λ ω e. q.result (take from L) (k.is ω e) ∙ ap recent_of (up_part from to L h) }

-- with the values of the first i ticks the pieces up to there are taken; those of the first `kept` are at hand
pub record Late (p : Processor) (T : Trace) (piece : ℕ) (b₀ : List ℕ) (y : Progress) (recent : List ℕ) (kept at i : ℕ) (b : List ℕ) : Type 0 where
  pub behind : kept ≤ i
  pub values : KeptTo p T.values kept recent
  pub takings : Takings p T piece b₀ y (recent_of (take i T.values)) at i b

module _ (p : Processor) (T : Trace) (piece : ℕ) (b₀ : List ℕ) (alike : length T.flags ≡ length T.values) where
  module _ (y : Progress) (at i : ℕ) (b r : List ℕ) (k : KeptTo p T.values i r) where
    at_hand : Takings p T piece b₀ y (recent_of (take i T.values)) at i b → Takings p T piece b₀ y r at i b
    at_hand h =
        record {
          size = h.size;
          inside = h.inside;
          reach = h.reach;
          start = h.start;
          result = λ ω e t. subst (λ (x : List ℕ). Taken ω (record { flags = take i T.flags; values = take i T.values }) b₀ (arrived_at p y x i at) b) (sym (k.is ω e)) (h.result ω e t);
        }

    by_trace : Takings p T piece b₀ y r at i b → Takings p T piece b₀ y (recent_of (take i T.values)) at i b
    by_trace h =
        record {
          size = h.size;
          inside = h.inside;
          reach = h.reach;
          start = h.start;
          result = λ ω e t. subst (λ (x : List ℕ). Taken ω (record { flags = take i T.flags; values = take i T.values }) b₀ (arrived_at p y x i at) b) (k.is ω e) (h.result ω e t);
        }

  pub late_start : (y : Progress) → y ≡ progress_of_lem p → Late p T piece b₀ y p.recent 0 0 0 b₀
  late_start y is =
      let k : KeptTo p T.values 0 p.recent = record { is = λ ω e. recent-of ω nothing p e } in
      record { behind = omega arith; values = k; takings = by_trace y 0 0 b₀ p.recent k (takings_start p T piece b₀ alike y is) }

  module _ (y : Progress) (recent : List ℕ) (kept at i end : ℕ) (b : List ℕ) (h : Late p T piece b₀ y recent kept at i b) (more : i < length T.flags)
      (step : end ≡ i + min piece (length T.flags - i)) (bytes : All (λ v. v ≤ 255) T.values) where
    on : i ≤ end
    on = omega (arith, step)

    -- one that finds nothing
    pub late_quiet : (first : Place) (r : Bool) → first ≡ get_or y.places 0 idle → r ≡ quiet y.front first i (part i end T.flags) → r ≡ true → Late p T piece b₀ y recent kept at end b
    late_quiet first r f e is =
        let L = T.values in
        let keeps : KeepPost (recent_of (take i L)) (part i end L) (recent_of (take end L)) =
        record { result = λ old q. ap recent_of (sym (up_part i end L on)) ∙ recent_more (take i L) old (part i end L) q } in
        record {
          behind = omega (arith, h.behind, on);
          values = h.values;
          takings = takings_quiet p T piece b₀ alike y (recent_of (take i L)) at i end b h.takings more step bytes (recent_of (take end L)) keeps first r f e is;
        }

    -- one that is fed
    pub late_fed : (old new : List ℕ) → KeepPost recent (part kept i T.values) old → KeepPost old (part i end T.values) new → (z : Progress) (m' : List ℕ) (to : ℕ)
        → BlocksPost y old i (part i end T.flags) (part i end T.values) (mid_of at (length b - at) b) z m'
        → to ≡ at + record_size * min (z.at / record_size) ((length b - at) / record_size) → length (put_mid at (length b - at) b m') ≡ length b
        → Late p T piece b₀ (record { front = z.front; places = z.places; counts = z.counts; at = 0 }) new end to end (put_mid at (length b - at) b m')
    late_fed old new ko kn z m' to post e l =
        let L = T.values in
        let k = kept_more p L kept i recent old h.behind h.values ko in
        let k' = kept_more p L i end old new on k kn in
        let z' : Progress = record { front = z.front; places = z.places; counts = z.counts; at = 0 } in
        let b' = put_mid at (length b - at) b m' in
        record {
          behind = omega arith;
          values = k';
          takings = by_trace z' to end b' new k' (takings_fed p T piece b₀ alike y old at i end b (at_hand y at i b old k h.takings) more step bytes new kn z m' to post e l);
        }

  pub late_end : (y : Progress) (recent : List ℕ) (kept at i n : ℕ) (b new : List ℕ) (r : Reached) → length T.flags ≤ i → n ≡ length T.flags
      → KeepPost recent (part kept n T.values) new → r ≡ arrived_at p y new n at → Late p T piece b₀ y recent kept at i b → TakeAllPost p T b₀ r b
  late_end y recent kept at i n b new r l k q is h =
      let m : n ≡ i = omega (arith, h.takings.reach) in
      let v = kept_more p T.values kept n recent new (omega (arith, h.behind)) h.values q in
      takings_end p T piece b₀ alike y new at i n b r l k is
      (at_hand y at i b new (subst (λ (j : ℕ). KeptTo p T.values j new) m v) h.takings)
