-- What the functions of a piece answer, for the trace that their words and values belong to.
use Rattle.std.specs.Prelude.{ℕ, ◌+◌, ◌-◌, ◌*◌, ◌≤◌, ◌<◌, Bool, true, not, ◌&&◌, ◌||◌, cond, List, ◌++◌, ◌≡◌, eqb, leb, ltb, length}
use Rattle.rules.specs.Settings.{standard}
use Rattle.rules.specs.Lists.{All}
use Rattle.rules.specs.Samples.{Trace, ◌⧺◌, piece_limit, sweep_limit}
use Rattle.rules.specs.Edges.{stands, edge_at}
use Rattle.rules.specs.Replies.{ended}
use Rattle.rules.specs.Machine.{given, State, after}
use Rattle.rules.specs.Records.{records, record_size}
use Rattle.rules.specs.Calls.{fresh}
use Rattle.places.specs.Places.{test, machine_of}
use Rattle.rules.specs.declared.Place.{Place}
use Rattle.rules.specs.Buffers.{over-at}
use Rattle.packing.specs.declared.Planes.{Planes}
use Rattle.flags.specs.Flags.{no_flags}
use Rattle.front.specs.declared.words.Front.{Front}
use Rattle.span.specs.declared.Span.{Span}
use Rattle.processor.specs.declared.Progress.{Progress}
use Rattle.processor.specs.Arrays.{machine_at}
use Rattle.front.specs.Words.{padded, front_of}
use Rattle.front.specs.Post.{Low, Reads, blank}
use Rattle.span.specs.Spans.{Spanned}

-- no flag
abbrev pub flagless : Planes → Bool
flagless x = eqb x.a 0 && (eqb x.p 0 && (eqb x.n 0 && eqb x.m 0))

-- a block has 64 ticks, or all that are left
abbrev pub block_length_lem : ℕ → ℕ
block_length_lem n = cond (ltb n 64) n 64

-- ---- the machine at work

-- the state of the rules after the ticks below c
abbrev pub state_at : Trace → ℕ → State
state_at T c = after ◌+◌ (given standard T) c

-- a trace on which sums of 16 bits are those of the rules: values are bytes, and edges stand below the limit of a sweep
pub record Bounded (T : Trace) : Type 0 where
  pub bytes : All (λ v. v ≤ 255) T.values
  pub edges : (u : ℕ) → stands (edge_at standard T u) ≡ true → u < sweep_limit

-- what the span, the values and the buffer's place have to do with the trace T of t ticks
pub record Shows (T : Trace) (t : ℕ) (s : Span) (recent : List ℕ) (base : ℕ) (values : List ℕ) : Type 0 where
  pub bounded : Bounded T
  pub ticks : length T.flags ≡ t
  pub spanned : Spanned (padded T.flags) t s
  pub reads : Reads T t recent base values

-- ---- a block of up to 64 ticks

-- T with P of its piece behind it: words, machine, and what P hands out in the buffer b, which was b₀
pub record Fed (T P : Trace) (b₀ : List ℕ) (y : Progress) (b : List ℕ) : Type 0 where
  pub front : y.front ≡ front_of (T.flags ++ P.flags)
  pub machine : machine_at y ≡ machine_of (state_at (T ⧺ P) (length (T.flags ++ P.flags) - 178))
  pub place : y.at ≡ record_size * length (fresh standard T P)
  pub buffer : b ≡ over-at (records (fresh standard T P)) 0 b₀

-- the block Q comes next, which makes t ticks
pub record Next (T P Q : Trace) (t : ℕ) (recent : List ℕ) (base : ℕ) (values : List ℕ) (b₀ b : List ℕ) : Type 0 where
  pub alike : length T.flags ≡ length T.values
  pub alike-piece : length P.flags ≡ length P.values
  pub ticks : length T.flags + length P.flags + length Q.flags ≡ t
  pub bounded : Bounded (T ⧺ (P ⧺ Q))
  pub reads : Reads (T ⧺ (P ⧺ Q)) t recent base values
  pub room : record_size * length (fresh standard T (P ⧺ Q)) ≤ length b₀
  pub same : length b ≡ length b₀

-- what a block of r ticks with the planes p makes of o, and what it leaves in the buffer
pub record BlockPost (o : Progress) (p : Planes) (r t : ℕ) (recent : List ℕ) (base : ℕ) (values : List ℕ) (b : List ℕ) (y : Progress) (b' : List ℕ) : Type 0 where
  pub same : length b' ≡ length b
  pub result : (T P Q : Trace) (b₀ : List ℕ) → Fed T P b₀ o b → length Q.flags ≡ r → Low Q.flags p → Next T P Q t recent base values b₀ b → Fed T (P ⧺ Q) b₀ y b'

-- the reply of the first place, if there is one, is not due once t ticks are taken
abbrev pub none_due_lem : Place → ℕ → Bool
none_due_lem p t = ltb t 179 || not (test (ended (t - 179)) p)

-- ---- a piece that finds nothing

-- a piece of these flags, behind `base` ticks, that finds nothing: it is no longer than a piece and within the sweep, no flag is set, no word has a bit, and the
-- reply of the first place does not become due
abbrev pub quiet : Front → Place → ℕ → List ℕ → Bool
quiet f first base flags =
    leb (length flags) piece_limit && (leb (base + length flags) sweep_limit && (no_flags flags && (blank f && none_due_lem first (base + length flags))))
