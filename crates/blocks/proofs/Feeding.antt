-- Flags and values, block by block. What each block hands out comes behind what the blocks before it did.
use Prim.Native.Nat.{ℕ, ◌+◌, ◌-◌, ◌*◌, ◌/◌, ◌≤◌, ◌<◌}
use native.Mathlib.Omega.{arith}
use mathlib.Core.Path.{◌≡◌, refl, sym, ap, ◌∙◌, subst}
use mathlib.Core.Bool.{Bool, true, false}
use mathlib.Core.List.{List, [], ◌++◌, append-nil}
use lib.ListN.{length, get_or, take, drop, length-take, length-drop}
use lib.Seq.{get_or-take, get_or-drop, take-add, take_all, length-take-le}
use Rattle.rules.specs.declared.Reply.{Reply}
use Rattle.rules.specs.Settings.{standard}
use Rattle.rules.specs.Samples.{Trace, ◌⧺◌, A, P, N, M, odd}
use Rattle.rules.specs.Buffers.{over-at}
use Rattle.rules.specs.Records.{records, record_size}
use Rattle.rules.specs.Calls.{fresh, handed}
use Rattle.rules.proofs.Joining.{append-same, handed-fresh}
use Rattle.rules.proofs.Answers.{standard_allowed, join_nothing}
use Rattle.plane.specs.Words.{Holds, HoldsPart}
use Rattle.plane.proofs.BitLaws.{zero_bit, bit-above}
use Rattle.packing.specs.declared.Planes.{Planes}
use Rattle.packing.specs.Packing.{Packed, PackedPart}
use Rattle.flags.specs.Flags.{FlaglessBlock}
use Rattle.packing.proofs.FlagBits.{A-bit, P-bit, N-bit, M-bit}
use Rattle.places.specs.Places.{machine_of}
use Rattle.front.specs.Words.{front_of}
use Rattle.front.specs.Post.{Low, Reads}
use Rattle.processor.specs.declared.Progress.{Progress}
use Rattle.blocks.specs.Steps.{state_at, Bounded, Fed, Next, BlockPost}
use Rattle.processor.specs.Arrays.{machine_at}
use Rattle.blocks.proofs.Working.{over-nil}
use Rattle.blocks.specs.Feeding.{up_to, Enters, BlocksPost}

abbrev nothing : Trace
nothing = record { flags = []; values = [] }

-- nothing taken, nothing handed out
fresh-nothing : (T : Trace) → length T.flags ≡ length T.values → fresh standard T nothing ≡ []
fresh-nothing T a =
    append-same (handed standard T) (fresh standard T nothing) []
    (sym (handed-fresh standard standard_allowed T nothing a) ∙ ap (handed standard) (join_nothing T) ∙ sym (append-nil (handed standard T)))

pub fed_nothing : (T : Trace) (o : Progress) (b : List ℕ) → length T.flags ≡ length T.values → o.front ≡ front_of T.flags → machine_at o ≡ machine_of (state_at T (length T.flags - 178))
    → o.at ≡ 0 → Fed T nothing b o b
fed_nothing T o b a f m p =
    let e = fresh-nothing T a in
    record {
      front = f ∙ ap front_of (sym (append-nil T.flags));
      machine =
          m
          ∙ ap (λ (n : ℕ). machine_of (state_at T (n - 178))) (ap length (sym (append-nil T.flags)))
          ∙ ap (λ (R : Trace). machine_of (state_at R (length (T.flags ++ []) - 178))) (sym (join_nothing T));
      place = p ∙ ap (λ (l : List Reply). record_size * length l) (sym e);
      buffer = sym (ap (λ (l : List Reply). over-at (records l) 0 b) e ∙ over-nil 0 b);
    }

-- ---- a piece

whole_word : (F : ℕ → Bool) (o x : ℕ) → Holds F o x → HoldsPart F o 64 x
whole_word F o x h = record { below = h.below; at = h.at; rest = λ i l. bit-above x 64 i h.below l }

pub packed_all : (flags : List ℕ) (o r : ℕ) (x : Planes) → r ≡ 64 → Packed flags o x → PackedPart flags o r x
packed_all flags o r x e h =
    subst (λ (n : ℕ). PackedPart flags o n x) (sym e)
    (record { a = whole_word (A flags) o x.a h.a; p = whole_word (P flags) o x.p h.p; n = whole_word (N flags) o x.n h.n; m = whole_word (M flags) o x.m h.m })

-- 64 ticks without flags
pub packed-flagless : (flags : List ℕ) (o r : ℕ) → r ≡ 64 → (b : Bool) → FlaglessBlock flags o b → b ≡ true → PackedPart flags o r (record { a = 0; p = 0; n = 0; m = 0 })
packed-flagless flags o r e b h t =
    subst (λ (n : ℕ). PackedPart flags o n (record { a = 0; p = 0; n = 0; m = 0 })) (sym e)
    (record {
      a = none (A flags) (λ i l. sym (A-bit flags (o + i)) ∙ h.yes t i 0 l (omega arith));
      p = none (P flags) (λ i l. sym (P-bit flags (o + i)) ∙ h.yes t i 1 l (omega arith));
      n = none (N flags) (λ i l. sym (N-bit flags (o + i)) ∙ h.yes t i 2 l (omega arith));
      m = none (M flags) (λ i l. sym (M-bit flags (o + i)) ∙ h.yes t i 3 l (omega arith));
    })
  where
    none : (F : ℕ → Bool) → ((i : ℕ) → i < 64 → F (o + i) ≡ false) → HoldsPart F o 64 0
    none F f = record { below = omega arith; at = λ i l. zero_bit i ∙ sym (f i l); rest = λ i l. zero_bit i }

-- the next r
abbrev pub block : List ℕ → List ℕ → ℕ → ℕ → Trace
block flags values n r = record { flags = take r (drop n flags); values = take r (drop n values) }

pub up_to-more : (flags values : List ℕ) (n r : ℕ) → up_to flags values n ⧺ block flags values n r ≡ up_to flags values (n + r)
up_to-more flags values n r =
    let f = sym (take-add n r flags) in
    let v = sym (take-add n r values) in
    λ i. record { flags = f i; values = v i }

-- flags of bytes that are the same
flag-A : (F G : List ℕ) (j k : ℕ) → get_or F j 0 ≡ get_or G k 0 → A F j ≡ A G k
unfolding A
flag-A F G j k e = ap odd e

flag-P : (F G : List ℕ) (j k : ℕ) → get_or F j 0 ≡ get_or G k 0 → P F j ≡ P G k
unfolding P
flag-P F G j k e = ap (λ (x : ℕ). odd (x / 2)) e

flag-N : (F G : List ℕ) (j k : ℕ) → get_or F j 0 ≡ get_or G k 0 → N F j ≡ N G k
unfolding N
flag-N F G j k e = ap (λ (x : ℕ). odd (x / 4)) e

flag-M : (F G : List ℕ) (j k : ℕ) → get_or F j 0 ≡ get_or G k 0 → M F j ≡ M G k
unfolding M
flag-M F G j k e = ap (λ (x : ℕ). odd (x / 8)) e

-- the planes of the next r ticks
pub low_block : (flags values : List ℕ) (n r : ℕ) (x : Planes) → n + r ≤ length flags → PackedPart flags n r x → Low (block flags values n r).flags x
low_block flags values n r x h p =
    record {
      a = λ m l. p.a.at m (short m l) ∙ flag-A flags G (n + m) m (at m (short m l));
      p = λ m l. p.p.at m (short m l) ∙ flag-P flags G (n + m) m (at m (short m l));
      n = λ m l. p.n.at m (short m l) ∙ flag-N flags G (n + m) m (at m (short m l));
      m = λ m l. p.m.at m (short m l) ∙ flag-M flags G (n + m) m (at m (short m l));
    }
  where
    G : List ℕ
    G = take r (drop n flags)

    short : (m : ℕ) → m < length G → m < r
    short m l = omega (arith, l, length-take r (drop n flags))

    at : (m : ℕ) → m < r → get_or flags (n + m) 0 ≡ get_or G m 0
    at m l = sym (get_or-take r (drop n flags) m 0 l ∙ get_or-drop n flags m 0)

-- ---- the loop over a piece

-- a block within the piece has its r ticks
pub block_ticks : (flags values : List ℕ) (i r : ℕ) → i + r ≤ length flags → length (block flags values i r).flags ≡ r
block_ticks flags values i r h = length-take-le r (drop i flags) (omega (arith, length-drop i flags))

-- the first i ticks are all of a piece that has no more
pub all_through : (flags values : List ℕ) (i : ℕ) → length flags ≡ length values → length flags ≤ i → up_to flags values i ≡ record { flags = flags; values = values }
all_through flags values i e h =
    let a = take_all i flags h in
    let v = take_all i values (omega (arith, e)) in
    λ j. record { flags = a j; values = v j }

-- the block that comes next
pub next_block : (T : Trace) (o : Progress) (recent : List ℕ) (base : ℕ) (flags values b₀ b : List ℕ) (i r t : ℕ) → Enters T o recent base flags values b₀ → length b ≡ length b₀
    → i + r ≤ length flags → t ≡ base + (i + r) → Next T (up_to flags values i) (block flags values i r) t recent base values b₀ b
next_block T o recent base flags values b₀ b i r t g same h e =
    let n = i + r in
    let lf = length-take-le i flags (omega arith) in
    let lv = length-take-le i values (omega (arith, g.alike-piece)) in
    let lq = block_ticks flags values i r h in
    let m = up_to-more flags values i r in
    record {
      alike = g.alike;
      alike-piece = lf ∙ sym lv;
      ticks = omega (arith, g.ticks, lf, lq, e);
      bounded = subst (λ (R : Trace). Bounded (T ⧺ R)) (sym m) (g.bounded n h);
      reads =
          subst (λ (R : Trace). Reads (T ⧺ R) t recent base values) (sym m)
          (subst (λ (c : ℕ). Reads (T ⧺ up_to flags values n) c recent base values) (sym e) (g.reads n h));
      room = subst (λ (R : Trace). record_size * length (fresh standard T R) ≤ length b₀) (sym m) (g.room n h);
      same = same;
    }

module _ (o : Progress) (recent : List ℕ) (base : ℕ) (flags values b₀ : List ℕ) where
  -- i ticks of the piece are through
  pub record Feeding (b : List ℕ) (y : Progress) (i : ℕ) : Type 0 where
    pub same : length b ≡ length b₀
    pub most : i ≤ length flags
    pub state : (T : Trace) → Enters T o recent base flags values b₀ → Fed T (up_to flags values i) b₀ y b

  pub feed_start : Feeding b₀ o 0
  feed_start = record { same = refl; most = omega arith; state = λ T g. fed_nothing T o b₀ g.alike g.front g.machine g.place }

  pub feed_next : (b : List ℕ) (y : Progress) (i r t : ℕ) (p : Planes) (z : Progress) (b' : List ℕ) → i + r ≤ length flags → t ≡ base + (i + r) → PackedPart flags i r p
      → BlockPost y p r t recent base values b z b' → Feeding b y i → Feeding b' z (i + r)
  feed_next b y i r t p z b' h e k post f =
      record {
        same = post.same ∙ f.same;
        most = h;
        state = λ T g.
            subst (λ (R : Trace). Fed T R b₀ z b') (up_to-more flags values i r)
            (post.result T (up_to flags values i) (block flags values i r) b₀ (f.state T g) (block_ticks flags values i r h) (low_block flags values i r p h k)
            (next_block T o recent base flags values b₀ b i r t g f.same h e));
      }

  pub feed_end : (b : List ℕ) (y : Progress) (i : ℕ) → length flags ≤ i → Feeding b y i → BlocksPost o recent base flags values b₀ y b
  feed_end b y i h f =
      record {
        same = f.same;
        result = λ T g. subst (λ (R : Trace). Fed T R b₀ y b) (all_through flags values i g.alike-piece h) (f.state T g);
      }
