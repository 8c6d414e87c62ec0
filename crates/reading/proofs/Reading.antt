-- What a line says, case by case.
use Prim.Native.Nat.{ℕ, ◌+◌, ◌-◌, ◌*◌, ◌/◌, ◌%◌, ◌≤◌, ◌<◌}
use native.Mathlib.Omega.{arith}
use mathlib.Core.Path.{◌≡◌, refl, sym, ap, ap₂, ◌∙◌}
use mathlib.Core.Bool.{Bool, true, false, cond, ◌&&◌}
use mathlib.Core.List.{List, ◌∷◌}
use lib.Dec.{leb, eqb}
use lib.ListN.{length, get_or, take}
use borrow.Author.Tests.{leb-true, eqb-true, lt-leb, le-leb, eq-eqb, ne_eqb}
use Rattle.rules.proofs.Truth.{and_left, and_right}
use Rattle.std.specs.Prelude.{Ok, Err}
use Rattle.rules.specs.declared.Refusal.TheVariants.{Malformed, NoFrame}
use Rattle.reading.specs.declared.Frame.TheVariants.{Open, Samples, Close}
use Rattle.reading.specs.Frames.{Reading, opening, samples, closing, refused, digits, ended, well_formed_lem, bytes, flags_in, values_in, opening_of, samples_of, closing_of, frame, reading}
use Rattle.characters.specs.Characters.{are_digits_lem, Digits}
use Rattle.rules.specs.Buffers.{over}
use Rattle.reading.specs.Post.{line_of, flags_after, values_after, behind, AllDigits, FillPost, ReadPost}
use Rattle.reading.proofs.Pairs.{byte, two_digits, kind-first, behind-length, behind-at, flags-length}

-- what a well formed line is
pub record Formed (l : List ℕ) : Type 0 where
  pub two : 2 ≤ length l
  pub most : length l ≤ 259
  pub odd : length l % 2 ≡ 1
  pub all : AllDigits l (length l - 1)

pub formed : (l : List ℕ) → well_formed_lem l ≡ true → Formed l
unfolding well_formed_lem
formed l h =
    let a = leb 2 (length l) in
    let b = leb (length l) 259 in
    let c = eqb (length l % 2) 1 in
    let d = ended l in
    let e = are_digits_lem (digits l) in
    let h₁ = and_right a (b && (c && (d && e))) h in
    let h₂ = and_right b (c && (d && e)) h₁ in
    let h₃ = and_right c (d && e) h₂ in
    record {
      two = leb-true 2 (length l) (and_left a (b && (c && (d && e))) h);
      most = leb-true (length l) 259 (and_left b (c && (d && e)) h₁);
      odd = eqb-true (length l % 2) 1 (and_left c (d && e) h₂);
      all = record { room = omega arith; all = and_right d e h₃ };
    }

post : (l f v : List ℕ) (x : Reading) → reading l ≡ x → ReadPost l f v (line_of x) (flags_after x f) (values_after x v)
post l f v x e =
    record {
      result = ap line_of (sym e);
      flag_bytes = ap (λ (y : Reading). flags_after y f) (sym e);
      value_bytes = ap (λ (y : Reading). values_after y v) (sym e);
    }

pub read_9 : (l f v : List ℕ) → well_formed_lem l ≡ false → ReadPost l f v (Err Malformed) f v
unfolding reading
read_9 l f v h = post l f v (refused Malformed) (ap (λ b. cond b (frame (bytes (digits l))) (refused Malformed)) h)

module _ (l f v : List ℕ) (w : well_formed_lem l ≡ true) where
  h : Formed l
  h = formed l w

  abbrev m : ℕ
  m = length l - 1

  abbrev half : ℕ
  half = (length l - 3) / 2

  -- the two digits at an even place k
  pub kind_digits : Digits l 0
  kind_digits = two_digits l m 0 h.all (omega (arith, h.two, h.odd))

  pub opening_digits : (k : ℕ) → m ≡ 8 → k ≤ 6 → Digits l k
  opening_digits k n s = two_digits l m k h.all (omega (arith, n, s))

  -- room for the samples, whose digits are all there
  pub samples_fit : 64 ≤ length f → 64 ≤ length v → m % 4 ≡ 2 → (m / 4 ≤ 64) × (m / 4 ≤ length f) × (m / 4 ≤ length v) × AllDigits l (4 * (m / 4) + 2)
  samples_fit a b o =
      let whole : m ≡ 4 * (m / 4) + 2 = omega (arith, o) in
      (omega (arith, h.most), omega (arith, h.most, a), omega (arith, h.most, b), record { room = omega (arith, whole, h.two); all = ap (λ (i : ℕ). are_digits_lem (take i l)) (sym whole) ∙ h.all.all })

  even : m ≡ 2 * half + 2
  even = omega (arith, h.two, h.odd)

  framed : reading l ≡ frame (byte l 0 ∷ behind l m)
  unfolding reading
  framed = ap (λ b. cond b (frame (bytes (digits l))) (refused Malformed)) w ∙ ap frame (kind-first l m (omega (arith, h.two, h.odd)) (omega arith))

  size : length (behind l m) ≡ half
  size = behind-length l m half (omega arith) even

  pub read_other : (byte l 0 ≡ 1 → ⊥) → (byte l 0 ≡ 2 → ⊥) → (byte l 0 ≡ 3 → ⊥) → ReadPost l f v (Err NoFrame) f v
  read_other a b c = post l f v (refused NoFrame) (framed ∙ rw (ne_eqb (byte l 0) 1 a, ne_eqb (byte l 0) 2 b, ne_eqb (byte l 0) 3 c))

  -- ---- open

  first : byte l 0 ≡ 1 → reading l ≡ opening_of (behind l m)
  first k = framed ∙ rw (eq-eqb (byte l 0) 1 k)

  pub read-open_10 : byte l 0 ≡ 1 → (m ≡ 8 → ⊥) → ReadPost l f v (Err NoFrame) f v
  read-open_10 k n = post l f v (refused NoFrame) (first k ∙ rw (ne_eqb (length (behind l m)) 3 (λ e. n (omega (arith, e, size, even)))))

  pub read-open : byte l 0 ≡ 1 → m ≡ 8 → (mode high low : ℕ) → mode ≡ byte l 2 → high ≡ byte l 4 → low ≡ byte l 6
      → ReadPost l f v (Ok (Open (record { mode = mode; azimuth = 256 * high + low }))) f v
  read-open k n mode high low a b c =
      post l f v (opening (record { mode = mode; azimuth = 256 * high + low }))
      (first k
      ∙ ap (λ t. cond t (opening (record { mode = get_or (behind l m) 0 0; azimuth = 256 * get_or (behind l m) 1 0 + get_or (behind l m) 2 0 })) (refused NoFrame))
      (eq-eqb (length (behind l m)) 3 (omega (arith, size, even, n)))
      ∙ ap₂ (λ (x y : ℕ). opening (record { mode = x; azimuth = y })) (behind-at l m 0 (omega arith) (omega (arith, n)) ∙ sym a)
      (ap₂ (λ (x y : ℕ). 256 * x + y) (behind-at l m 1 (omega arith) (omega (arith, n)) ∙ sym b) (behind-at l m 2 (omega arith) (omega (arith, n)) ∙ sym c)))

  -- ---- samples

  second : byte l 0 ≡ 2 → reading l ≡ samples_of (behind l m)
  second k = framed ∙ rw (ne_eqb (byte l 0) 1 (λ e. omega (arith, e, k)), eq-eqb (byte l 0) 2 k)

  pub read_uneven : byte l 0 ≡ 2 → (m % 4 ≡ 2 → ⊥) → ReadPost l f v (Err NoFrame) f v
  read_uneven k n =
      post l f v (refused NoFrame)
      (second k ∙ ap (λ t. cond t (samples (record { flags = flags_in (behind l m); values = values_in (behind l m) })) (refused NoFrame)) (go (leb 2 (length (behind l m)))))
    where
      go : (t : Bool) → (t && eqb (length (behind l m) % 2) 0) ≡ false
      go false = refl
      go true = ne_eqb (length (behind l m) % 2) 0 (λ e. n (omega (arith, e, size, even)))

  pub read_none : byte l 0 ≡ 2 → m < 6 → m % 4 ≡ 2 → ReadPost l f v (Err NoFrame) f v
  read_none k n o =
      post l f v (refused NoFrame) (second k ∙ rw (lt-leb 2 (length (behind l m)) (omega (arith, size, even, n, o))))

  pub read-samples : byte l 0 ≡ 2 → m % 4 ≡ 2 → 6 ≤ m → (f' v' : List ℕ) → FillPost l (m / 4) f v f' v' → ReadPost l f v (Ok (Samples (m / 4))) f' v'
  read-samples k o s f' v' p =
      record {
        result = ap (λ (k : ℕ). Ok (Samples k)) (sym (flags-length (behind l m) (m / 4) both)) ∙ ap line_of (sym is);
        flag_bytes = p.flag_bytes ∙ ap (λ (i : ℕ). over (flags_in (behind l i)) f) whole ∙ ap (λ (y : Reading). flags_after y f) (sym is);
        value_bytes = p.value_bytes ∙ ap (λ (i : ℕ). over (values_in (behind l i)) v) whole ∙ ap (λ (y : Reading). values_after y v) (sym is);
      }
    where
      whole : 4 * (m / 4) + 2 ≡ m
      whole = omega (arith, o)

      both : length (behind l m) ≡ 2 * (m / 4)
      both = omega (arith, size, even, whole)

      is : reading l ≡ samples (record { flags = flags_in (behind l m); values = values_in (behind l m) })
      is =
          second k
          ∙ rw (le-leb 2 (length (behind l m)) (omega (arith, both, whole, s)), eq-eqb (length (behind l m) % 2) 0 (omega (arith, both)))

  -- ---- close

  third : byte l 0 ≡ 3 → reading l ≡ closing_of (behind l m)
  third k =
      framed
      ∙ rw (ne_eqb (byte l 0) 1 (λ e. omega (arith, e, k)), ne_eqb (byte l 0) 2 (λ e. omega (arith, e, k)), eq-eqb (byte l 0) 3 k)

  pub read-close_10 : byte l 0 ≡ 3 → (m ≡ 2 → ⊥) → ReadPost l f v (Err NoFrame) f v
  read-close_10 k n = post l f v (refused NoFrame) (third k ∙ rw (ne_eqb (length (behind l m)) 0 (λ e. n (omega (arith, e, size, even)))))

  pub read-close : byte l 0 ≡ 3 → m ≡ 2 → ReadPost l f v (Ok Close) f v
  read-close k n = post l f v closing (third k ∙ rw (eq-eqb (length (behind l m)) 0 (omega (arith, size, even, n))))
