-- A piece of a sweep, and the zeros past the end: what is asked of flags and values that go through the machine holds for them.
use Prim.Native.Nat.{ℕ, zero, suc, ◌+◌, ◌-◌, ◌*◌, ◌≤◌}
use native.Mathlib.Omega.{arith}
use mathlib.Core.Path.{◌≡◌, refl, sym, ap, ap₂, ◌∙◌, subst}
use mathlib.Core.Bool.{true}
use mathlib.Core.List.{List, [], ◌∷◌, ◌++◌}
use lib.ListN.{length, get_or, take, drop, take-append-drop, replicate, length-append, length-take, length-replicate, replicate-append-replicate}
use lib.Seq.{get_or-take, take-append-add, length-take-le}
use Rattle.rules.specs.Records.{record_size}
use Rattle.rules.specs.Settings.{standard}
use Rattle.rules.specs.Lists.{All}
use Rattle.rules.specs.Samples.{Trace, lent, sweep_limit, ◌⧺◌}
use Rattle.rules.specs.Edges.{stands, edge_at}
use Rattle.rules.specs.Calls.{fresh, silence}
use Rattle.rules.proofs.ListLaws.{all_append}
use Rattle.rules.proofs.Apart.{edge-end}
use Rattle.rules.proofs.Joining.{fresh_join}
use Rattle.rules.proofs.PastEnd.{zeros_alike, edge-silence, rest-silence}
use Rattle.rules.proofs.Answers.{standard_allowed}
use Rattle.places.specs.Places.{machine_of}
use Rattle.front.specs.Words.{front_of, recent_of}
use Rattle.front.specs.Post.{Reads, value_of}
use Rattle.front.proofs.ValueLaws.{value_law}
use Rattle.processor.specs.declared.Progress.{Progress}
use Rattle.processor.specs.Arrays.{machine_at}
use Rattle.blocks.specs.Steps.{Bounded, state_at}
use Rattle.blocks.specs.Feeding.{up_to, Enters, BlocksPost}
use Rattle.pieces.specs.Feeding.{Ends, DrainPost}

all_take : (n : ℕ) (l : List ℕ) → All (λ v. v ≤ 255) l → All (λ v. v ≤ 255) (take n l)
all_take zero l h = tt
all_take (suc n) [] h = tt
all_take (suc n) (x ∷ l) h = (h.0, all_take n l h.1)

-- ---- a piece

-- o is where a piece of flags and values begins, behind the trace T; the buffer b₀ has room for the records that the piece lets out
pub record Begins (T : Trace) (o : Progress) (recent : List ℕ) (base : ℕ) (flags values b₀ : List ℕ) : Type 0 where
  pub front : o.front ≡ front_of T.flags
  pub machine : machine_at o ≡ machine_of (state_at T (length T.flags - 178))
  pub place : o.at ≡ 0
  pub kept : recent ≡ recent_of T.values
  pub ticks : length T.flags ≡ base
  pub alike : length T.flags ≡ length T.values
  pub alike-piece : length flags ≡ length values
  pub bytes : All (λ v. v ≤ 255) T.values
  pub bytes-piece : All (λ v. v ≤ 255) values
  pub limit : base + length flags ≤ sweep_limit
  pub room : record_size * length (fresh standard T (lent flags values)) ≤ length b₀

module _ (T : Trace) (o : Progress) (recent : List ℕ) (base : ℕ) (flags values b₀ : List ℕ) (g : Begins T o recent base flags values b₀) where
  -- the trace up to tick n of the piece
  bounded : (n : ℕ) → n ≤ length flags → Bounded (T ⧺ up_to flags values n)
  bounded n h =
      record {
        bytes = all_append (λ v. v ≤ 255) T.values (take n values) g.bytes (all_take n values g.bytes-piece);
        edges =
            λ u st. omega (arith, edge-end standard standard_allowed (T ⧺ up_to flags values n) u st, length-append T.flags (take n flags), length-take n flags, g.ticks, g.limit);
      }

  reads : (n : ℕ) → n ≤ length flags → Reads (T ⧺ up_to flags values n) (base + n) recent base values
  reads n h =
      record {
        at =
            λ k l m.
            let old = T.values in
            let e : base ≡ length old = omega (arith, g.ticks, g.alike) in
            let z : length old + n ≡ base + n = omega arith in
            ap₂ (λ (r : List ℕ) (c : ℕ). value_of r c values k) g.kept e
            ∙ value_law old values k (omega arith)
            ∙ sym (get_or-take (length old + n) (old ++ values) k 0 (omega arith))
            ∙ ap (λ (l : List ℕ). get_or l k 0) (take-append-add old values n);
      }

  room : (n : ℕ) → n ≤ length flags → record_size * length (fresh standard T (up_to flags values n)) ≤ length b₀
  room n h =
      let A = up_to flags values n in
      let B : Trace = record { flags = drop n flags; values = drop n values } in
      let f = take-append-drop n flags in
      let v = take-append-drop n values in
      let z : A ⧺ B ≡ lent flags values = λ i. record { flags = f i; values = v i } in
      let a : length (take n flags) ≡ length (take n values) = omega (arith, length-take-le n flags h, length-take-le n values (omega (arith, g.alike-piece))) in
      let e = ap length (sym (ap (fresh standard T) z) ∙ fresh_join standard standard_allowed T A B g.alike a) in
      omega (arith, e, length-append (fresh standard T A) (fresh standard (T ⧺ A) B), g.room)

  pub enters_piece : Enters T o recent base flags values b₀
  enters_piece =
      record {
        front = g.front;
        machine = g.machine;
        place = g.place;
        ticks = g.ticks;
        alike = g.alike;
        alike-piece = g.alike-piece;
        bounded = bounded;
        reads = reads;
        room = room;
      }

-- ---- the piece goes through

-- ---- the ticks past the end

silence-more : (m n : ℕ) → silence m ⧺ silence n ≡ silence (m + n)
silence-more m n = let z = replicate-append-replicate {A = ℕ} m n 0 in λ i. record { flags = z i; values = z i }

take_zeros : (n k : ℕ) → n ≤ k → take n (replicate {A = ℕ} k 0) ≡ replicate n 0
take_zeros zero k h = refl
take_zeros (suc n) zero h = absurd (omega arith)
take_zeros (suc n) (suc k) h = ap {B = List ℕ} (λ l. 0 ∷ l) (take_zeros n k (omega arith))

-- the first n of the zeros
zeros_up_to : (n k : ℕ) → n ≤ k → up_to (replicate k 0) (replicate k 0) n ≡ silence n
zeros_up_to n k h = let z = take_zeros n k h in λ i. record { flags = z i; values = z i }

module _ (T : Trace) (o : Progress) (recent : List ℕ) (base : ℕ) (b₀ : List ℕ) (g : Ends T o recent base b₀) where
  all-zero : (n : ℕ) → All (λ v. v ≤ 255) (replicate n 0)
  all-zero zero = tt
  all-zero (suc n) = (omega arith, all-zero n)

  bounded-silence : (n : ℕ) → Bounded (T ⧺ silence n)
  bounded-silence n =
      record {
        bytes = all_append (λ v. v ≤ 255) T.values (replicate n 0) g.bytes (all-zero n);
        edges =
            λ u st.
            let e : stands (edge_at standard T u) ≡ true = ap stands (sym (edge-silence standard T n u)) ∙ st in
            omega (arith, edge-end standard standard_allowed T u e, g.ticks, g.limit);
      }

  reads-silence : (n : ℕ) → n ≤ 448 → Reads (T ⧺ silence n) (base + n) recent base (replicate 448 0)
  reads-silence n h =
      record {
        at =
            λ k l m.
            let old = T.values in
            let e : base ≡ length old = omega (arith, g.ticks, g.alike) in
            ap₂ (λ (r : List ℕ) (c : ℕ). value_of r c (replicate 448 0) k) g.kept e
            ∙ value_law old (replicate 448 0) k (omega arith)
            ∙ zeros_alike old 448 k
            ∙ sym (zeros_alike old n k);
      }

  -- what n zeros hand out is a beginning of what is left
  room-silence : (n : ℕ) → n ≤ 448 → record_size * length (fresh standard T (silence n)) ≤ length b₀
  room-silence n h =
      let k = 448 - n in
      let z : n + k ≡ 448 = omega arith in
      let a : length (replicate {A = ℕ} n 0) ≡ length (replicate {A = ℕ} n 0) = refl in
      let e = fresh_join standard standard_allowed T (silence n) (silence k) g.alike a in
      let w = ap (fresh standard T) (silence-more n k ∙ ap silence z) in
      let f = rest-silence standard standard_allowed T 448 (omega arith) in
      let q = ap length (sym e ∙ w ∙ f) in
      omega (arith, q, length-append (fresh standard T (silence n)) (fresh standard (T ⧺ silence n) (silence k)), g.room)

  enters_silence : Enters T o recent base (replicate 448 0) (replicate 448 0) b₀
  enters_silence =
      record {
        front = g.front;
        machine = g.machine;
        place = g.place;
        ticks = g.ticks;
        alike = g.alike;
        alike-piece = refl;
        bounded = λ n h. subst (λ (R : Trace). Bounded (T ⧺ R)) (sym (zeros_up_to n 448 (most n h))) (bounded-silence n);
        reads = λ n h. subst (λ (R : Trace). Reads (T ⧺ R) (base + n) recent base (replicate 448 0)) (sym (zeros_up_to n 448 (most n h))) (reads-silence n (most n h));
        room = λ n h. subst (λ (R : Trace). record_size * length (fresh standard T R) ≤ length b₀) (sym (zeros_up_to n 448 (most n h))) (room-silence n (most n h));
      }
    where
      most : (n : ℕ) → n ≤ length (replicate {A = ℕ} 448 0) → n ≤ 448
      most n h = omega (arith, length-replicate {A = ℕ} 448 0)

pub drain_law : (o : Progress) (recent : List ℕ) (base : ℕ) (b : List ℕ) (y : Progress) (b' : List ℕ) → BlocksPost o recent base (replicate 448 0) (replicate 448 0) b y b' → DrainPost o recent base b y b'
drain_law o recent base b y b' h = record { same = h.same; result = λ T g. h.result T (enters_silence T o recent base b g) }
