-- Lines of samples taken as one piece: the sweep takes the piece if and only if it takes the lines, and the replies are the same.
use Prim.Native.Nat.{ℕ, zero, suc, ◌+◌, ◌-◌, ◌*◌, ◌/◌, ◌≤◌, ◌<◌}
use Rattle.std.specs.Prelude.{Option, Some, None, IfSome}
use Rattle.rules.specs.declared.Refusal.TheVariants.{PieceLength, NoRoom}
use native.Mathlib.Omega.{arith}
use mathlib.Core.Path.{◌≡◌, refl, sym, ap, ap₂, ◌∙◌, subst}
use mathlib.Core.Bool.{Bool, true, false, not, ◌&&◌}
use mathlib.Core.List.{List, [], ◌∷◌, ◌++◌, append_assoc, append-nil}
use lib.Dec.{leb, ltb, eqb}
use lib.ListN.{length, get_or, take, drop, length-append}
use borrow.Rule.Slice.PartMut.{mid_of, post_of, put_mid, mid_len, same_len_mid}
use lib.Seq.{length-take-le, take-append_seam, take-append-add, take-append-le}
use borrow.Author.Tests.{leb-true, leb-false, lt-leb, le-leb, eq-eqb, le-ltb}
use Rattle.rules.specs.Records.{record_size}
use Rattle.rules.specs.declared.Reply.{Reply}
use Rattle.rules.specs.Settings.{standard}
use Rattle.rules.specs.Samples.{Trace, nothing, ◌⧺◌, bad, piece_limit, sweep_limit}
use Rattle.rules.specs.Buffers.{over, over-at}
use Rattle.rules.specs.Calls.{check, not_open, unequal, overlong, bad_flag, Answer, accepted, refused, take_answer, take_room, fresh, handed}
use Rattle.rules.proofs.Truth.{impossible}
use Rattle.rules.proofs.ListLaws.{all_append, any-first, any-second}
use Rattle.rules.proofs.Checks.{all_skip}
use Rattle.rules.proofs.Buffers.{over-at-nil}
use Rattle.rules.proofs.Joining.{handed-fresh, append-same, fresh_join}
use Rattle.rules.proofs.HandingOut.{fresh-most}
use Rattle.std.specs.Prelude.{Ok, Err}
use Rattle.processor.specs.declared.Processor.{Processor}
use Rattle.calls.specs.declared.Answered.{Answered}
use Rattle.processor.specs.State.{Sweep, none, running, Sound, Made}
use Rattle.calls.specs.Post.{longer, take_answer_at, TakePost}
use Rattle.rules.proofs.Answers.{standard_allowed, took, join_assoc, join_nothing}
use Rattle.rules.specs.declared.Refusal.{Refusal}
use Rattle.reading.specs.Frames.{Reading, opening, samples, closing, reading, refused as unread}
use Rattle.frames.specs.Writing.{reply_line, reply_lines_lem, first_lines}
use Rattle.reading.specs.Post.{Line, line_of, flags_after, values_after, ReadPost}
use Rattle.frames.specs.Post.{WritePost}
use Rattle.reading.proofs.Sizes.{Sized, reading_sized}
use Rattle.lines.specs.declared.batch.Gathering.{Gathering}
use Rattle.lines.specs.declared.batch.Batched.{Batched}
use Rattle.lines.specs.declared.scan.Scan.TheVariants.{Rest}
use Rattle.ends.specs.Ends.{LineEnd}
use Rattle.steps.specs.Outcomes.{Outcome, goes, taken_as, fresh_of, outcome_at, line_at, line_room}
use Rattle.steps.specs.Post.{piece_of, count_in_lem}
use Rattle.lines.specs.Survey.{lines_in, further, surveyed}
use Rattle.lines.specs.Post.{Scans}
use Rattle.lines.specs.Batches.{begins_samples, samples_in, AddPost, Takes, Gathered, Parts, GatherPost, batch_as, printed_as, TookAll, TakeAllPost, BatchPost, batch_room, batch_most}
use Rattle.steps.proofs.Answering.{Wrote, write_inside, said-most, turned_down, was_accepted, went_on, replies-wrote}
use Rattle.lines.proofs.Scanning.{good-take, part, survey-first, Scanning, scanning_start, scanning_batch}
use Rattle.lines.proofs.Laying.{laid_none, parts_more, Left, left-start, Next, next-line}

-- ---- the first two characters

module _ (input : List ℕ) (from : ℕ) where
  pub begins_short : length input < from + 2 → false ≡ begins_samples input from
  begins_short h = rw (lt-leb (from + 2) (length input) h)

  pub begins_long : from + 2 ≤ length input → (eqb (get_or input from 0) 48 && eqb (get_or input (from + 1) 0) 50) ≡ begins_samples input from
  begins_long h = rw (le-leb (from + 2) (length input) h)

-- ---- the samples of a line

first-over : (l b : List ℕ) → take (length l) (over l b) ≡ l
unfolding over
first-over l b = take-append_seam l (drop (length l) b)

module _ (f₀ v₀ : List ℕ) where
  added : (x : Reading) → Sized x → take (count_in_lem (line_of x)) (flags_after x f₀) ≡ (samples_in x).flags
  added (opening ω) s = refl
  added (samples P) s = first-over P.flags f₀
  added closing s = refl
  added (unread k) s = refl

  added_values : (x : Reading) → Sized x → take (count_in_lem (line_of x)) (values_after x v₀) ≡ (samples_in x).values
  added_values (opening ω) s = refl
  added_values (samples P) s = ap (λ (k : ℕ). take k (over P.values v₀)) s.alike ∙ first-over P.values v₀
  added_values closing s = refl
  added_values (unread k) s = refl

counted : (x : Reading) → count_in_lem (line_of x) ≡ length (samples_in x).flags
counted (opening ω) = refl
counted (samples P) = refl
counted closing = refl
counted (unread k) = refl

-- a line's samples land behind those that are there, in the part of the buffer from place n on
behind-put : (n k : ℕ) (b part l : List ℕ) → n + k ≤ length b → k ≤ length part → take k part ≡ l → take (n + k) (put_mid n (length b - n) b part) ≡ take n b ++ l
behind-put n k b part l h m e =
    ap (λ (x : ℕ). take (x + k) (put_mid n (length b - n) b part)) (sym (length-take-le n b (omega arith)))
    ∙ take-append-add (take n b) (part ++ post_of n (length b - n) b) k
    ∙ ap (λ (x : List ℕ). take n b ++ x) (take-append-le k part (post_of n (length b - n) b) m ∙ e)

module _ (line : List ℕ) (n : ℕ) (flags values : List ℕ) (f-room : n + 64 ≤ length flags) (v-room : n + 64 ≤ length values) where
  abbrev f₀ : List ℕ
  f₀ = mid_of n (length flags - n) flags

  abbrev v₀ : List ℕ
  v₀ = mid_of n (length values - n) values

  pub add-room : (b : List ℕ) → n + 64 ≤ length b → 64 ≤ length (mid_of n (length b - n) b)
  add-room b h = omega (arith, mid_len n (length b) b (omega arith))

  pub add_post : (said : Line) (f v : List ℕ) → ReadPost line f₀ v₀ said f v → length f ≡ length f₀ → length v ≡ length v₀ → (k : ℕ) → k ≡ count_in_lem said
      → AddPost line n flags values k (put_mid n (length flags - n) flags f) (put_mid n (length values - n) values v)
  add_post said f v r f-size v-size k e =
      record {
        count = count ∙ counted (reading line);
        flag_room = same_len_mid n (length flags - n) flags f f-size;
        value_room = same_len_mid n (length values - n) values v v-size;
        flag_bytes = behind-put n k flags f (samples_in (reading line)).flags (omega (arith, few)) (omega (arith, few, f-size, add-room flags f-room))
            (ap₂ take count r.flag_bytes ∙ added f₀ v₀ (reading line) (reading_sized line));
        value_bytes = behind-put n k values v (samples_in (reading line)).values (omega (arith, few)) (omega (arith, few, v-size, add-room values v-room))
            (ap₂ take count r.value_bytes ∙ added_values f₀ v₀ (reading line) (reading_sized line));
      }
    where
      count : k ≡ count_in_lem (line_of (reading line))
      count = e ∙ ap count_in_lem r.result

      few : k ≤ 64
      few = omega (arith, e, said-most line f₀ v₀ said f v r)

-- ---- a sweep that takes two traces end to end

takes_first : (σ : Sweep) (A B : Trace) → Takes σ (A ⧺ B) → Takes σ A
takes_first σ A B t =
    record { is_open = t.is_open; within = omega (arith, t.within, length-append A.flags B.flags); good = any-first bad A.flags B.flags t.good }

takes-second : (σ : Sweep) (A B : Trace) → Takes σ (A ⧺ B) → Takes (longer σ A) B
takes-second none A B t = absurd (impossible (sym t.is_open))
takes-second (running ω T) A B t =
    record {
      is_open = refl;
      within = omega (arith, t.within, length-append A.flags B.flags, length-append T.flags A.flags);
      good = any-second bad A.flags B.flags t.good;
    }

takes-accepted : (σ : Sweep) (P : Trace) (room : ℕ) → Takes σ P → length P.flags ≡ length P.values → length P.flags ≤ piece_limit → take_room (length P.flags) ≤ room
    → take_answer_at σ P room ≡ accepted
unfolding take_answer_at take_answer
takes-accepted none P room t a p r = absurd (impossible (sym t.is_open))
takes-accepted (running ω T) P room t a p r =
    let n = length P.flags in
    let m = length T.flags + n in
    all_skip (not_open true ∷ unequal P ∷ check PieceLength (ltb piece_limit n) ∷ overlong m ∷ check NoRoom (ltb room (take_room n)) ∷ bad_flag P.flags ∷ [])
    (refl, (ap not (eq-eqb n (length P.values) a), (le-ltb piece_limit n p, (le-ltb sweep_limit m t.within, (le-ltb room (take_room n) r, (t.good, tt))))))

accepted-takes : (σ : Sweep) (P : Trace) (room : ℕ) → take_answer_at σ P room ≡ accepted → Takes σ P
unfolding take_answer_at
accepted-takes none P room e = absurd (impossible (sym (took false 0 P room e).open-sweep))
accepted-takes (running ω T) P room e =
    let t = took true (length T.flags) P room e in
    record { is_open = refl; within = t.sweep; good = t.good }

-- ---- what two traces let out, and what they make of a sweep

fresh-none : (σ : Sweep) → Sound σ → fresh_of σ nothing ≡ []
fresh-none none s = refl
fresh-none (running ω T) s =
    append-same (handed standard T) (fresh standard T nothing) []
    (sym (handed-fresh standard standard_allowed T nothing s.alike) ∙ ap (handed standard) (join_nothing T) ∙ sym (append-nil (handed standard T)))

longer-none : (σ : Sweep) → longer σ nothing ≡ σ
longer-none none = refl
longer-none (running ω T) = ap (running ω) (join_nothing T)

longer-both : (σ : Sweep) (A B : Trace) → longer (longer σ A) B ≡ longer σ (A ⧺ B)
longer-both none A B = refl
longer-both (running ω T) A B = ap (running ω) (join_assoc T A B)

fresh-both : (σ : Sweep) → Sound σ → (A B : Trace) → length A.flags ≡ length A.values → fresh_of σ A ++ fresh_of (longer σ A) B ≡ fresh_of σ (A ⧺ B)
fresh-both none s A B a = refl
fresh-both (running ω T) s A B a = sym (fresh_join standard standard_allowed T A B s.alike a)

replies-both : (F G : List Reply) → reply_lines_lem (F ++ G) ≡ reply_lines_lem F ++ reply_lines_lem G
replies-both [] G = refl
replies-both (r ∷ F) G = ap (λ (l : List ℕ). reply_line r ++ l) (replies-both F G) ∙ sym (append_assoc (reply_line r) (reply_lines_lem F) (reply_lines_lem G))

-- ---- the lines so far

gathered_none : (input : List ℕ) (from : ℕ) → Gathered input from from nothing
gathered_none input from =
    record {
      start = omega arith;
      reach = λ h. h;
      alike = refl;
      bytes = tt;
      same = λ σ s t R.
          ap (surveyed (lines_in (drop from input ++ R))) (sym (longer-none σ))
          ∙ ap (λ (F : List Reply). reply_lines_lem F ++ surveyed (lines_in (drop from input ++ R)) (longer σ nothing)) (sym (fresh-none σ s));
    }

module _ (input : List ℕ) (from i to : ℕ) (T : Trace) (g : Gathered input from i T) (line : LineEnd input i to) where
  one_more : (P : Trace) → reading (part input i to) ≡ samples P → Sized (samples P) → Gathered input from to (T ⧺ P)
  unfolding line_at
  one_more P e z =
      record {
        start = omega (arith, g.start, line.some);
        reach = λ h. line.inside;
        alike = length-append T.flags P.flags ∙ ap₂ (λ (x y : ℕ). x + y) g.alike z.alike ∙ sym (length-append T.values P.values);
        bytes = all_append (λ v. v ≤ 255) T.values P.values g.bytes z.bytes;
        same = both;
      }
    where
      says : (σ : Sweep) → Takes σ P → line_at σ (part input i to) ≡ goes (longer σ P) (reply_lines_lem (fresh_of σ P))
      says σ t =
          ap (outcome_at σ) e
          ∙ ap (λ (v : Answer). taken_as v σ P) (takes-accepted σ P line_room t z.alike (omega (arith, z.most)) (omega (arith, z.most)))

      both : (σ : Sweep) → Sound σ → Takes σ (T ⧺ P) → (R : List ℕ)
          → surveyed (lines_in (drop from input ++ R)) σ ≡ reply_lines_lem (fresh_of σ (T ⧺ P)) ++ surveyed (lines_in (drop to input ++ R)) (longer σ (T ⧺ P))
      both σ s t R =
          g.same σ s (takes_first σ T P t) R
          ∙ ap (λ (l : List ℕ). reply_lines_lem (fresh_of σ T) ++ l)
          (survey-first input i to line R (longer σ T)
          ∙ ap (λ (o : Outcome). further o (surveyed (lines_in (drop to input ++ R)))) (says (longer σ T) (takes-second σ T P t)))
          ∙ sym (append_assoc (reply_lines_lem (fresh_of σ T)) (reply_lines_lem (fresh_of (longer σ T) P)) (surveyed (lines_in (drop to input ++ R)) (longer (longer σ T) P)))
          ∙ ap₂ (λ (l : List ℕ) (τ : Sweep). l ++ surveyed (lines_in (drop to input ++ R)) τ)
          (sym (replies-both (fresh_of σ T) (fresh_of (longer σ T) P)) ∙ ap reply_lines_lem (fresh-both σ s T P g.alike)) (longer-both σ T P)

  line-more : (x : Reading) → reading (part input i to) ≡ x → Sized x → 0 < length (samples_in x).flags → Gathered input from to (T ⧺ samples_in x)
  line-more (opening ω) e z h = absurd (omega arith)
  line-more (samples P) e z h = one_more P e z
  line-more closing e z h = absurd (omega arith)
  line-more (unread k) e z h = absurd (omega arith)

-- a line that adds samples says these
samples-said : (x : Reading) → 0 < length (samples_in x).flags → x ≡ samples (samples_in x)
samples-said (opening ω) h = absurd (omega arith)
samples-said (samples P) h = refl
samples-said closing h = absurd (omega arith)
samples-said (unread k) h = absurd (omega arith)

-- n samples are gathered, from the lines up to place i
pub record SoFar (input : List ℕ) (from : ℕ) (flags₀ values₀ flags values : List ℕ) (i n : ℕ) : Type 0 where
  pub most : n ≤ 4096
  pub flag-room : length flags ≡ length flags₀
  pub values_room : length values ≡ length values₀
  pub all : Gathered input from i (piece_of (take n flags) (take n values))
  pub parts : Parts input from i (take n flags) (take n values)

module _ (input : List ℕ) (from : ℕ) (flags₀ values₀ : List ℕ) where
  pub so_far_start : SoFar input from flags₀ values₀ flags₀ values₀ from 0
  so_far_start = record { most = omega arith; flag-room = refl; values_room = refl; all = gathered_none input from; parts = laid_none input from }

  module _ (flags values : List ℕ) (i n : ℕ) (h : SoFar input from flags₀ values₀ flags values i n) where
    pub so_far_end : (r : Gathering) → r.end ≡ i → r.n ≡ n → GatherPost input from r flags values
    so_far_end r e f =
        record {
          most = omega (arith, f, h.most);
          all = subst (λ (k : ℕ). Gathered input from r.end (piece_of (take k flags) (take k values))) (sym f)
              (subst (λ (k : ℕ). Gathered input from k (piece_of (take n flags) (take n values))) (sym e) h.all);
          parts = subst (λ (k : ℕ). Parts input from r.end (take k flags) (take k values)) (sym f)
              (subst (λ (k : ℕ). Parts input from k (take n flags) (take n values)) (sym e) h.parts);
        }

    module _ (to : ℕ) (k : ℕ) (flags' values' : List ℕ) (p : AddPost (part input i to) n flags values k flags' values') where
      abbrev read_here : Reading
      read_here = reading (part input i to)

      sizes : (y : Reading) → Sized y → (length (samples_in y).flags ≤ 64) × (length (samples_in y).flags ≡ length (samples_in y).values)
      sizes (opening ω) z = (omega arith, refl)
      sizes (samples P) z = (z.most, z.alike)
      sizes closing z = (omega arith, refl)
      sizes (unread j) z = (omega arith, refl)

      short : length (samples_in read_here).flags ≤ 64
      short = (sizes read_here (reading_sized (part input i to))).0

      alike : length (samples_in read_here).flags ≡ length (samples_in read_here).values
      alike = (sizes read_here (reading_sized (part input i to))).1

      none_added : (l b : List ℕ) → length l ≡ 0 → b ++ l ≡ b
      none_added [] b e = append-nil b
      none_added (x ∷ l) b e = absurd (omega (arith, e))

      pub so_far_few : k ≤ 64
      so_far_few = omega (arith, short, p.count)

      -- a line that says something else adds nothing
      pub so_far_same : k ≡ 0 → SoFar input from flags₀ values₀ flags' values' i n
      so_far_same e =
          record {
            most = h.most;
            flag-room = p.flag_room ∙ h.flag-room;
            values_room = p.value_room ∙ h.values_room;
            all = subst (Gathered input from i) (sym (ap₂ piece_of flags-same values_same)) h.all;
            parts = subst (λ (x : List ℕ). Parts input from i x (take n values')) (sym flags-same) (subst (Parts input from i (take n flags)) (sym values_same) h.parts);
          }
        where
          flags-same : take n flags' ≡ take n flags
          flags-same =
              ap (λ (m : ℕ). take m flags') {x = n} {y = n + k} (omega (arith, e)) ∙ p.flag_bytes ∙ none_added (samples_in read_here).flags (take n flags) (omega (arith, e, p.count))

          values_same : take n values' ≡ take n values
          values_same =
              ap (λ (m : ℕ). take m values') {x = n} {y = n + k} (omega (arith, e)) ∙ p.value_bytes
              ∙ none_added (samples_in read_here).values (take n values) (omega (arith, e, p.count, alike))

      pub so_far_next : n ≤ 4032 → LineEnd input i to → (k ≡ 0 → ⊥) → SoFar input from flags₀ values₀ flags' values' to (n + k)
      so_far_next s line d =
          record {
            most = omega (arith, short, p.count);
            flag-room = p.flag_room ∙ h.flag-room;
            values_room = p.value_room ∙ h.values_room;
            all = subst (Gathered input from to) (sym (ap₂ piece_of p.flag_bytes p.value_bytes))
                (line-more input from i to (piece_of (take n flags) (take n values)) h.all line read_here refl (reading_sized (part input i to)) (omega (arith, p.count, d)));
            parts = subst (λ (x : List ℕ). Parts input from to x (take (n + k) values')) (sym p.flag_bytes)
                (subst (Parts input from to (take n flags ++ (samples_in read_here).flags)) (sym p.value_bytes)
                (parts_more input from i (take n flags) (take n values) h.parts to (samples_in read_here) line (samples-said read_here (omega (arith, p.count, d)))));
          }

-- ---- the piece

some_not_none : {s : Batched} → Some s ≡ None → ⊥
some_not_none e = let z : ◌≡◌ {A = ℕ} 0 1 = cc in omega arith

same_some : {s t : Batched} → Some s ≡ Some t → s ≡ t
same_some e = cc

pub part-short : (l : List ℕ) (n m : ℕ) → n ≤ m → length (take n l) ≤ m
part-short l zero m h = omega arith
part-short [] (suc n) m h = omega arith
part-short (x ∷ l) (suc n) zero h = absurd (omega arith)
part-short (x ∷ l) (suc n) (suc m) h = omega (arith, part-short l n m (omega arith))

module _ (p : Processor) (T : Trace) (to at : ℕ) (b : List ℕ) (room : at + batch_most ≤ length b) (small : length T.flags ≤ 4096)
    (h₀ h : List ℕ) (lent : length h₀ ≡ batch_room) (t : Answered) (post : TakePost p T h₀ t h) where
  few : (σ : Sweep) → record_size * length (fresh_of σ T) ≤ batch_room
  few none = omega arith
  few (running ω T₀) = omega (arith, fresh-most standard T₀ T)

  pub all-refused : (k : Refusal) → t.answer ≡ Err k → TookAll p T to at b None b
  all-refused k e =
      record {
        place = tt;
        nothing = λ z. refl;
        result = λ σ m. ap (λ (v : Answer). batch_as v σ T to at) (sym (turned_down p at b T batch_room few h₀ h lent t post k e σ m));
        output = λ σ m. sym (over-at-nil at b) ∙ ap (λ (v : Answer). over-at (printed_as v σ T) at b) (sym (turned_down p at b T batch_room few h₀ h lent t post k e σ m));
      }

  pub all-accepted : (n : ℕ) → t.answer ≡ Ok n → (e : ℕ) (b' : List ℕ) → WritePost (first_lines n h) at b e b'
      → TookAll p T to at b (Some (record { processor = t.processor; from = to; at = e })) b'
  all-accepted n q e b' w =
      record {
        place = (refl, write_inside (first_lines n h) at b e b' (omega arith) w);
        nothing = λ z. absurd (some_not_none z);
        result = λ σ m.
            ap₂ (λ (x : ℕ) (y : Processor). Some (record { processor = y; from = to; at = x })) (put σ m).place (went_on p at b T batch_room few h₀ h lent t post n q σ m)
            ∙ ap (λ (v : Answer). batch_as v σ T to at) (sym (accepts σ m));
        output = λ σ m. (put σ m).buffer ∙ ap (λ (v : Answer). over-at (printed_as v σ T) at b) (sym (accepts σ m));
      }
    where
      accepts : (σ : Sweep) → Made σ p → take_answer_at σ T batch_room ≡ accepted
      accepts σ m = was_accepted p at b T batch_room few h₀ h lent t post n q σ m

      put : (σ : Sweep) → Made σ p → Wrote (reply_lines_lem (fresh_of σ T)) at b e b'
      put σ m = replies-wrote p at b T batch_room few h₀ h lent t post n q σ m e b' (omega (arith, few σ)) w

-- ---- the lines of the piece

pub batch-nothing : (p : Processor) (input : List ℕ) (from at : ℕ) (b : List ℕ) → BatchPost p input from at b (record { processor = p; from = from; at = at }) b
batch-nothing p input from at b =
    record {
      start = omega arith;
      reach = λ h. h;
      inside = λ h. h;
      past_end = λ h. (refl, refl);
      scans = λ σ m. record { new = []; next = σ; made = m; place = omega arith; output = sym (over-at-nil at b); why = tt; same = λ R. refl };
    }

module _ (p : Processor) (input : List ℕ) (from to at : ℕ) (b : List ℕ) (room : at + batch_most ≤ length b) (T : Trace) (g : Gathered input from to T)
    (r : Option Batched) (b' : List ℕ) (post : TookAll p T to at b r b') (s : Batched) (some : r ≡ Some s) where
  scans_by : (σ : Sweep) (m : Made σ p) (v : Answer) → take_answer_at σ T batch_room ≡ v
      → Scans σ input from at b (record { scan = Rest; processor = s.processor; from = s.from; at = s.at }) b'
  scans_by σ m accepted e =
      let is = same_some (sym some ∙ post.result σ m ∙ ap (λ (v : Answer). batch_as v σ T to at) e) in
      record {
        new = reply_lines_lem (fresh_of σ T);
        next = longer σ T;
        made = record { is = ap (λ (x : Batched). x.processor) is; sound = good-take σ m.sound T g.bytes batch_room accepted e };
        place = ap (λ (x : Batched). x.at) is;
        output = post.output σ m ∙ ap (λ (v : Answer). over-at (printed_as v σ T) at b) e;
        why = tt;
        same = λ R.
            g.same σ m.sound (accepted-takes σ T batch_room e) R
            ∙ ap (λ (k : ℕ). reply_lines_lem (fresh_of σ T) ++ surveyed (lines_in (drop k input ++ R)) (longer σ T)) (sym (ap (λ (x : Batched). x.from) is));
      }
  scans_by σ m (refused k) e = absurd (some_not_none (sym some ∙ post.result σ m ∙ ap (λ (v : Answer). batch_as v σ T to at) e))

  placed : (s.from ≡ to) × (s.at ≤ length b)
  placed = subst (λ (x : Option Batched). IfSome x (λ y. (y.from ≡ to) × (y.at ≤ length b))) some post.place

  batch_post : BatchPost p input from at b s b'
  batch_post =
      record {
        start = omega (arith, placed.0, g.start);
        reach = λ h. omega (arith, placed.0, g.reach h);
        inside = λ h. placed.1;
        past_end = λ h. absurd (omega (arith, room, h));
        scans = λ σ m. scans_by σ m (take_answer_at σ T batch_room) refl;
      }

-- ---- one piece, or line after line

module _ (p : Processor) (T : Trace) (to at : ℕ) (b : List ℕ) where
  pub all_without : length b < at + batch_most → TakeAllPost p T to at b None b
  all_without h = record { room = λ l. absurd (omega arith); no_room = λ l. (refl, refl) }

  module _ (r : Option Batched) (b' : List ℕ) where
    pub all_with : at + batch_most ≤ length b → TookAll p T to at b r b' → TakeAllPost p T to at b r b'
    all_with h t = record { room = λ l. t; no_room = λ l. absurd (omega arith) }

    module _ (h : TakeAllPost p T to at b r b') where
      -- whether there is room
      by_room : {A : Type 0} → (TookAll p T to at b r b' → at + batch_most ≤ length b → A) → ((r ≡ None) × (b' ≡ b) → A) → A
      by_room {A} f g = go (leb (at + batch_most) (length b)) refl
        where
          go : (t : Bool) → leb (at + batch_most) (length b) ≡ t → A
          go true e =
              let l = leb-true (at + batch_most) (length b) e in
              f (h.room l) l
          go false e = g (h.no_room (leb-false (at + batch_most) (length b) e))

      pub all_nothing : r ≡ None → b' ≡ b
      all_nothing z = by_room (λ t l. t.nothing z) (λ n. n.1)

      module _ (s : Batched) (some : r ≡ Some s) where
        pub all_to : s.from ≡ to
        all_to =
            by_room (λ t l. (subst (λ (x : Option Batched). IfSome x (λ y. (y.from ≡ to) × (y.at ≤ length b))) some t.place).0) (λ n. absurd (some_not_none (sym some ∙ n.0)))

        -- the lines that say T are carried out
        pub all-batch : (input : List ℕ) (from : ℕ) → Gathered input from to T → BatchPost p input from at b s b'
        all-batch input from g =
            by_room (λ t l. batch_post p input from to at b l T g r b' t s some) (λ n. absurd (some_not_none (sym some ∙ n.0)))

-- a piece that is not taken leaves the output as it was, so lines that are carried out from there on are carried out from the start
pub line_by_line : (p : Processor) (T : Trace) (to at : ℕ) (b : List ℕ) (r : Option Batched) (b' : List ℕ) → TakeAllPost p T to at b r b' → r ≡ None
    → (input : List ℕ) (from : ℕ) (s : Batched) (b'' : List ℕ) → BatchPost p input from at b' s b'' → BatchPost p input from at b s b''
line_by_line p T to at b r b' h z input from s b'' d = subst (λ (x : List ℕ). BatchPost p input from at x s b'') (all_nothing p T to at b r b' h z) d

-- the lines up to place i are carried out, and the samples from place a on are those of the others
pub record Going (p : Processor) (input : List ℕ) (from to at : ℕ) (flags values b₀ : List ℕ) (q : Processor) (i a place : ℕ) (b : List ℕ) : Type 0 where
  pub start : from ≤ i
  pub scanned : Scanning p input from at b₀ q i place b
  pub left : Left input i to a flags values

module _ (p : Processor) (input : List ℕ) (from to at : ℕ) (flags values b₀ : List ℕ) (room : at ≤ length b₀) where
  pub going_start : Parts input from to flags values → Going p input from to at flags values b₀ p from 0 at b₀
  going_start h =
      record { start = omega arith; scanned = scanning_start p input from at b₀; left = left-start input from to flags values h }

  pub going_end : (q : Processor) (i place : ℕ) (b : List ℕ) → from ≤ i → Scanning p input from at b₀ q i place b
      → BatchPost p input from at b₀ (record { processor = q; from = i; at = place }) b
  going_end q i place b s h =
      record { start = s; reach = h.reach; inside = h.inside; past_end = λ l. absurd (omega arith); scans = h.scans }

  module _ (q : Processor) (i place : ℕ) (b : List ℕ) where
    module _ (a : ℕ) (h : Going p input from to at flags values b₀ q i a place b) (less : i < to) (end : ℕ) (line : LineEnd input i end) where
      pub going_next_line : Next input i to a flags values end ((end - i) / 4)
      going_next_line = next-line input i to a flags values h.left less end line

      pub going_short : length flags ≤ 4096 → length (take (a + (end - i) / 4 - a) (drop a flags)) ≤ 4096
      going_short s = part-short (drop a flags) (a + (end - i) / 4 - a) 4096 (omega (arith, going_next_line.fits))

      module _ (k : ℕ) (e : k ≡ a + (end - i) / 4) (r : Option Batched) (b' : List ℕ) (size : length b' ≡ length b)
          (post : TakeAllPost q (piece_of (take (k - a) (drop a flags)) (take (k - a) (drop a values))) end place b r b') where
        n : Next input i to a flags values end ((end - i) / 4)
        n = next-line input i to a flags values h.left less end line

        T : Trace
        T = piece_of (take (k - a) (drop a flags)) (take (k - a) (drop a values))

        same : T ≡ n.said
        unfolding T
        same =
            ap₂ piece_of (ap (λ (x : ℕ). take x (drop a flags)) {x = k - a} {y = (end - i) / 4} (omega arith) ∙ n.flag_part)
            (ap (λ (x : ℕ). take x (drop a values)) {x = k - a} {y = (end - i) / 4} (omega arith) ∙ n.value_part)

        gathered : Gathered input i end T
        gathered =
            subst (Gathered input i end) (sym same)
            (one_more input i i end (piece_of [] []) (gathered_none input i) line n.said n.is (subst Sized n.is (reading_sized (part input i end))))

        -- nothing happened
        pub going_stopped : r ≡ None → BatchPost p input from at b₀ (record { processor = q; from = i; at = place }) b'
        unfolding T
        going_stopped z =
            going_end q i place b' h.start (subst (Scanning p input from at b₀ q i place) (sym (all_nothing q T end place b r b' post z)) h.scanned)

        module _ (s : Batched) (some : r ≡ Some s) where
          pub going_to : s.from ≡ end
          unfolding T
          going_to = all_to q T end place b r b' post s some

          pub going_on : Going p input from to at flags values b₀ s.processor s.from k s.at b'
          unfolding T
          going_on =
              record {
                start = omega (arith, h.start, line.some, going_to);
                scanned = scanning_batch p input from at b₀ q i place b h.scanned s b' size (all-batch q T end place b r b' post s some input i gathered);
                left = subst (λ (x : ℕ). Left input s.from to x flags values) (sym e) (subst (λ (x : ℕ). Left input x to (a + (end - i) / 4) flags values) (sym going_to) n.others);
              }
