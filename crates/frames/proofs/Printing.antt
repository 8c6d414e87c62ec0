-- The lines that are printed, one after the other.
use Prim.Native.Nat.{ℕ, zero, suc, ◌+◌, ◌-◌, ◌*◌, ◌/◌, ◌≤◌, ◌<◌, min}
use native.Mathlib.Omega.{arith}
use mathlib.Core.Path.{◌≡◌, refl, sym, ap, ap₂, ◌∙◌, subst}
use mathlib.Core.Bool.{Bool, true, false}
use mathlib.Core.List.{List, [], ◌∷◌, ◌++◌, append_assoc, append-nil}
use lib.Dec.{leb}
use lib.ListN.{length, get_or, take, drop, length-append, length-drop}
use lib.Seq.{get_or-take, take-suc, take-length, take-append_seam, drop-append_seam, drop-drop, length-take-le}
use borrow.Author.Tests.{le-leb, lt-leb, leb-true, leb-false}
use mir.Syntax.{w16}
use borrow.Rule.Slice.PartMut.{put_mid}
use Rattle.std.specs.Int.{to_be_bytes}
use Rattle.std.specs.List.{flat_map}
use Rattle.std.specs.Simd.{first_chunks}
use Rattle.std.proofs.lemmas.Grind.{common_steps}
use Rattle.std.proofs.lemmas.List.{flat_map_more}
use Rattle.std.proofs.lemmas.Slice.{take-put_mid}
use Rattle.frames.proofs.Chunks.{chunk-at}
use Rattle.rules.specs.declared.Reply.{Reply}
use Rattle.rules.specs.declared.Totals.{Totals}
use Rattle.rules.specs.Buffers.{over, over-at}
use Rattle.rules.specs.Records.{record_of, records, bytes, record_size}
use Rattle.rules.proofs.Buffers.{bytes-two}
use Rattle.rules.proofs.Joining.{records-length}
use Rattle.hexadecimal.specs.Digits.{written}
use Rattle.hexadecimal.proofs.Parts.{Putting, putting_start, putting_next}
use Rattle.hexadecimal.proofs.Digits.{written-length}
use Rattle.frames.specs.Writing.{reply_line, reply_lines_lem, record_lines, first_lines, totals_bytes_lem, totals_line_lem, reply_line_size, totals_line_size}
use Rattle.frames.specs.Post.{WritePost}

-- ---- records, each on a line

lines-add : (k : ℕ) (l : List ℕ) → record_lines (suc k) l ≡ record_lines k l ++ written (17 ∷ take record_size (drop (record_size * k) l))
lines-add zero l = append-nil (written (17 ∷ take record_size l))
lines-add (suc k) l =
    ap (λ (r : List ℕ). written (17 ∷ take record_size l) ++ r) (lines-add k (drop record_size l))
    ∙ sym (append_assoc (written (17 ∷ take record_size l)) (record_lines k (drop record_size l)) (written (17 ∷ take record_size (drop (record_size * k) (drop record_size l)))))
    ∙ ap (λ (r : List ℕ). (written (17 ∷ take record_size l) ++ record_lines k (drop record_size l)) ++ written (17 ∷ take record_size r)) (drop-drop (record_size * k) record_size l ∙ ap (λ (i : ℕ). drop i l) {x = 18 + record_size * k} {y = record_size * suc k} (omega arith))

pub lines-length : (k : ℕ) (l : List ℕ) → record_size * k ≤ length l → length (record_lines k l) ≡ reply_line_size * k
lines-length zero l h = refl
lines-length (suc k) l h =
    omega (arith, length-append (written (17 ∷ take record_size l)) (record_lines k (drop record_size l)), written-length (17 ∷ take record_size l), length-take-le record_size l (omega arith), lines-length k (drop record_size l) (omega (arith, length-drop record_size l)))

module _ (l : List ℕ) (n : ℕ) (whole : record_size * n ≤ length l) where
  abbrev pub lines_to : ℕ → List ℕ
  lines_to k = record_lines k l

  pub lines_start : (at : ℕ) (b : List ℕ) → Putting lines_to n at b b 0
  lines_start at b = putting_start lines_to n at b refl

  pub lines_next : (at : ℕ) (b₀ b b' one : List ℕ) (k : ℕ) → at + reply_line_size * n ≤ length b₀ → k < n → one ≡ take record_size (drop (record_size * k) l)
      → b' ≡ over-at (written (17 ∷ one)) (at + reply_line_size * k) b → Putting lines_to n at b₀ b k → Putting lines_to n at b₀ b' (k + 1)
  lines_next at b₀ b b' one k room s part p h =
      let here : length (lines_to k) ≡ reply_line_size * k = lines-length k l (omega arith) in
      putting_next lines_to n at b₀ b b' (written (17 ∷ one)) k (at + reply_line_size * k)
      (ap lines_to {x = k + 1} {y = suc k} (omega arith) ∙ lines-add k l ∙ ap (λ (r : List ℕ). record_lines k l ++ written (17 ∷ r)) (sym part))
      (omega (arith, here))
      (omega (arith, written-length (17 ∷ one), ap length part, length-take-le record_size (drop (record_size * k) l) (omega (arith, length-drop (record_size * k) l))))
      s p h

  -- of the records cut apart, the first n
  module _ (all : List (List ℕ)) (f : all ≡ first_chunks record_size (length l / record_size) l) where
    pub record_at : (k : ℕ) → k < n → get_or (take n all) k [] ≡ take record_size (drop (record_size * k) l)
    record_at k s =
        get_or-take n all k [] s ∙ ap (λ (x : List (List ℕ)). get_or x k []) f
        ∙ chunk-at record_size (length l / record_size) k l (omega (arith, whole))

    pub record_count : length all ≡ length l / record_size → length (take n all) ≡ n
    record_count e = length-take-le n all (omega (arith, whole, e))

  pub lines_end : (at : ℕ) (b₀ b : List ℕ) (k : ℕ) → n ≤ k → Putting lines_to n at b₀ b k → b ≡ over-at (record_lines n l) at b₀
  lines_end at b₀ b k s h = h.is ∙ ap (λ (i : ℕ). over-at (record_lines i l) at b₀) {x = k} {y = n} (omega (arith, h.most))

-- records end to end make a line for each reply
pub reply-lines : (l : List Reply) (x : List ℕ) → record_lines (length l) (records l ++ x) ≡ reply_lines_lem l
unfolding records
reply-lines [] x = refl
reply-lines (r ∷ l) x =
    let e : records (r ∷ l) ++ x ≡ record_of r ++ (records l ++ x) = append_assoc (record_of r) (records l) x in
    ap (record_lines (length (r ∷ l))) e
    ∙ ap₂ (λ (y z : List ℕ). written (17 ∷ y) ++ record_lines (length l) z) (take-append_seam (record_of r) (records l ++ x)) (drop-append_seam (record_of r) (records l ++ x))
    ∙ ap (λ (z : List ℕ). reply_line r ++ z) (reply-lines l x)

pub replies-length : (F : List Reply) → length (reply_lines_lem F) ≡ reply_line_size * length F
replies-length F =
    ap length (sym (reply-lines F [])) ∙ lines-length (length F) (records F ++ []) (omega (arith, records-length F, length-append (records F) []))

-- as many records as were handed out stand at the start of a lent buffer: their lines are those of the replies
pub first-lines : (F : List Reply) (h h₀ : List ℕ) (n : ℕ) → h ≡ over (records F) h₀ → n ≡ length F → record_size * length F ≤ length h₀ → first_lines n h ≡ reply_lines_lem F
unfolding over
first-lines F h h₀ n is count few =
    ap₂ record_lines {x = min n (length h / record_size)} {y = length F} (omega (arith, count, few, ap length is, size)) is ∙ reply-lines F (drop (length (records F)) h₀)
  where
    size : length (records F ++ drop (length (records F)) h₀) ≡ length h₀
    size = length-append (records F) (drop (length (records F)) h₀) ∙ omega (arith, few, records-length F, length-drop (length (records F)) h₀)

-- ---- totals

-- the first k of some numbers are put, two bytes each
pub record Totalled (l b : List ℕ) (k : ℕ) : Type 0 where
  pub size : length b ≡ 12
  pub so_far : take (2 * k) b ≡ flat_map (bytes 2) (take k l)

pub totals_next : (l b two : List ℕ) (k : ℕ) → k < length l → length l ≡ 6 → two ≡ to_be_bytes w16 (get_or l k 0) → Totalled l b k
    → Totalled l (put_mid (2 * k) (2 * k + 2 - 2 * k) b two) (k + 1)
totals_next l b two k h n e t =
    let x = get_or l k 0 in
    let two-is : two ≡ bytes 2 x = e ∙ bytes-two x in
    let two-size : length two ≡ 2 = ap length e in
    record {
      size = grind (arith, common_steps);
      so_far =
          take-put_mid (2 * k) (2 * k + 2 - 2 * k) b two (2 * (k + 1)) (omega (arith, two-size)) (omega (arith, t.size))
          ∙ ap₂ (λ (y z : List ℕ). y ++ z) t.so_far two-is
          ∙ flat_map_more (bytes 2) [] (take k l) x
          ∙ ap (flat_map (bytes 2)) (sym (take-suc l k 0 h) ∙ ap (λ (i : ℕ). take i l) {x = suc k} {y = k + 1} (omega arith));
    }

-- six numbers that are the totals, all put
pub totals_are : (t : Totals) (f r s g l h : ℕ) (b : List ℕ) (k : ℕ) → Totalled (f ∷ r ∷ s ∷ g ∷ l ∷ h ∷ []) b k → 6 ≤ k → k ≤ 6
    → f ≡ t.found → r ≡ t.replies → s ≡ t.sidelobe → g ≡ t.garbled → l ≡ t.lost → h ≡ t.phantoms → b ≡ totals_bytes_lem t
unfolding totals_bytes_lem
totals_are t f r s g l h b k p least most ef er es eg el eh =
    let e : k ≡ 6 = omega (arith, least, most) in
    let z : 2 * k ≡ length b = omega (arith, e, p.size) in
    sym (take-length b) ∙ ap (λ (i : ℕ). take i b) (sym z) ∙ p.so_far ∙ ap (λ (i : ℕ). flat_map (bytes 2) (take i (f ∷ r ∷ s ∷ g ∷ l ∷ h ∷ []))) e
    ∙ (λ i. flat_map (bytes 2) (ef i ∷ er i ∷ es i ∷ eg i ∷ el i ∷ eh i ∷ []))

pub totals-size : (t : Totals) → length (totals_bytes_lem t) ≡ 12
unfolding totals_bytes_lem bytes
totals-size t = refl

pub totals-length : (t : Totals) → length (totals_line_lem t) ≡ totals_line_size
unfolding totals_bytes_lem bytes
totals-length t = refl

-- the line with the bytes of the totals is that of the totals
pub totals-written : (t : Totals) (at : ℕ) (b bytes : List ℕ) → bytes ≡ totals_bytes_lem t → (r : ℕ) (b' : List ℕ) → WritePost (written (18 ∷ bytes)) at b r b'
    → WritePost (totals_line_lem t) at b r b'
totals-written t at b bytes is r b' h = subst (λ (l : List ℕ). WritePost (written (18 ∷ l)) at b r b') is h

-- ---- where the bytes fit, and where not

pub fits_not : (n at : ℕ) (b : List ℕ) → length b < at → leb (at + n) (length b) ≡ false
fits_not n at b h = lt-leb (at + n) (length b) (omega arith)

pub fits_rest : (n at m : ℕ) → at ≤ m → leb n (m - at) ≡ leb (at + n) m
fits_rest n at m h = go (leb n (m - at)) refl
  where
    go : (t : Bool) → leb n (m - at) ≡ t → leb n (m - at) ≡ leb (at + n) m
    go true e = e ∙ sym (le-leb (at + n) m (omega (arith, leb-true n (m - at) e)))
    go false e = e ∙ sym (lt-leb (at + n) m (omega (arith, leb-false n (m - at) e)))

module _ (l : List ℕ) (at : ℕ) (b : List ℕ) (n : ℕ) (size : length l ≡ n) where
  pub write_none : leb (at + n) (length b) ≡ false → WritePost l at b at b
  write_none q =
      let h : leb (at + length l) (length b) ≡ false = ap (λ (k : ℕ). leb (at + k) (length b)) size ∙ q in
      record { result = rw h; buffer = rw h }

  pub write_all : leb (at + n) (length b) ≡ true → (b' : List ℕ) → b' ≡ over-at l at b → WritePost l at b (at + n) b'
  write_all q b' p =
      let h : leb (at + length l) (length b) ≡ true = ap (λ (k : ℕ). leb (at + k) (length b)) size ∙ q in
      record { result = rw h (ap (λ (k : ℕ). at + k) (sym size)); buffer = rw h p }

-- n of the records of l
module _ (l : List ℕ) (count n : ℕ) (is : n ≡ min count (length l / record_size)) (at : ℕ) (b : List ℕ) where
  records-size : length (first_lines count l) ≡ reply_line_size * n
  records-size = lines-length (min count (length l / record_size)) l (omega arith) ∙ ap (λ (k : ℕ). reply_line_size * k) (sym is)

  pub records-none : length b < at + reply_line_size * n → WritePost (first_lines count l) at b at b
  records-none h = write_none (first_lines count l) at b (reply_line_size * n) records-size (lt-leb (at + reply_line_size * n) (length b) h)

  pub records-all : at + reply_line_size * n ≤ length b → (b' : List ℕ) → b' ≡ over-at (record_lines n l) at b → WritePost (first_lines count l) at b (at + reply_line_size * n) b'
  records-all h b' p =
      write_all (first_lines count l) at b (reply_line_size * n) records-size (le-leb (at + reply_line_size * n) (length b) h) b' (p ∙ ap (λ (k : ℕ). over-at (record_lines k l) at b) is)
