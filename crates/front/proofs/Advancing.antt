-- The words go on by r ticks: each is slid along, and the newest are detected anew. All of them then belong to the longer trace.
use Prim.Native.Nat.{ℕ, ◌+◌, ◌/◌, ◌≤◌, ◌<◌}
use native.Mathlib.Omega.{arith}
use mathlib.Core.Path.{◌≡◌, refl, sym, ap, ◌∙◌, subst}
use mathlib.Core.Bool.{Bool}
use mathlib.Core.List.{List, ◌++◌}
use lib.ListN.{length, get_or, length-append}
use lib.Seq.{get_or-append-add}
use Rattle.rules.specs.Samples.{A, P, N, M, odd}
use Rattle.rules.specs.Sentences.{lead_at}
use Rattle.packing.specs.declared.Planes.{Planes}
use Rattle.plane.specs.Words.{bit, Holds, Slid}
use Rattle.edges.specs.Planes.{calm_at, chain_at, has_edge}
use Rattle.edges.specs.Detection.{Ahead, Detected}
use Rattle.front.specs.declared.words.Front.{Front}
use Rattle.front.specs.Words.{padded, front_of}
use Rattle.front.specs.Post.{Low, AdvancePost}
use Rattle.front.proofs.WordLaws.{holds_word, word_is, holds_same}
use Rattle.front.proofs.Growing.{A-append, P-append, N-append, M-append, lead_at-append, calm_at-append, chain_at-append, has_edge-append, padded-length, padded-append}

-- the words f hold the planes of the flags w, padded, where t ticks are taken
pub record Fronted (w : List ℕ) (t : ℕ) (f : Front) : Type 0 where
  pub a : Holds (A w) (t + 256) f.a
  pub a1 : Holds (A w) (t + 192) f.a1
  pub p : Holds (P w) (t + 256) f.p
  pub p1 : Holds (P w) (t + 192) f.p1
  pub n : Holds (N w) (t + 256) f.n
  pub n1 : Holds (N w) (t + 192) f.n1
  pub l : Holds (lead_at w) (t + 254) f.l
  pub l1 : Holds (lead_at w) (t + 190) f.l1
  pub k : Holds (calm_at w) (t + 254) f.k
  pub k1 : Holds (calm_at w) (t + 190) f.k1
  pub h : Holds (chain_at w) (t + 254) f.h
  pub h1 : Holds (chain_at w) (t + 190) f.h1
  pub e : Holds (has_edge w) (t + 247) f.e
  pub e1 : Holds (has_edge w) (t + 183) f.e1
  pub e2 : Holds (has_edge w) (t + 119) f.e2
  pub e3 : Holds (has_edge w) (t + 55) f.e3
  pub m : Holds (M w) (t + 256) f.m
  pub m1 : Holds (M w) (t + 192) f.m1
  pub m2 : Holds (M w) (t + 128) f.m2
  pub m3 : Holds (M w) (t + 64) f.m3

front-holds : (F : List ℕ) → Fronted (padded F) (length F) (front_of F)
unfolding front_of
front-holds F =
    let w = padded F in
    let t = length F in
    record {
      a = holds_word (A w) (t + 256);
      a1 = holds_word (A w) (t + 192);
      p = holds_word (P w) (t + 256);
      p1 = holds_word (P w) (t + 192);
      n = holds_word (N w) (t + 256);
      n1 = holds_word (N w) (t + 192);
      l = holds_word (lead_at w) (t + 254);
      l1 = holds_word (lead_at w) (t + 190);
      k = holds_word (calm_at w) (t + 254);
      k1 = holds_word (calm_at w) (t + 190);
      h = holds_word (chain_at w) (t + 254);
      h1 = holds_word (chain_at w) (t + 190);
      e = holds_word (has_edge w) (t + 247);
      e1 = holds_word (has_edge w) (t + 183);
      e2 = holds_word (has_edge w) (t + 119);
      e3 = holds_word (has_edge w) (t + 55);
      m = holds_word (M w) (t + 256);
      m1 = holds_word (M w) (t + 192);
      m2 = holds_word (M w) (t + 128);
      m3 = holds_word (M w) (t + 64);
    }

pub fronted : (F : List ℕ) (f : Front) → f ≡ front_of F → Fronted (padded F) (length F) f
fronted F f e = subst (Fronted (padded F) (length F)) (sym e) (front-holds F)

pub front-is : (F : List ℕ) (f : Front) → Fronted (padded F) (length F) f → f ≡ front_of F
unfolding front_of
front-is F f h =
    let w = padded F in
    let t = length F in
    let q-a = word_is (A w) (t + 256) f.a h.a in
    let q-a1 = word_is (A w) (t + 192) f.a1 h.a1 in
    let q-p = word_is (P w) (t + 256) f.p h.p in
    let q-p1 = word_is (P w) (t + 192) f.p1 h.p1 in
    let q-n = word_is (N w) (t + 256) f.n h.n in
    let q-n1 = word_is (N w) (t + 192) f.n1 h.n1 in
    let q-l = word_is (lead_at w) (t + 254) f.l h.l in
    let q-l1 = word_is (lead_at w) (t + 190) f.l1 h.l1 in
    let q-k = word_is (calm_at w) (t + 254) f.k h.k in
    let q-k1 = word_is (calm_at w) (t + 190) f.k1 h.k1 in
    let q-h = word_is (chain_at w) (t + 254) f.h h.h in
    let q-h1 = word_is (chain_at w) (t + 190) f.h1 h.h1 in
    let q-e = word_is (has_edge w) (t + 247) f.e h.e in
    let q-e1 = word_is (has_edge w) (t + 183) f.e1 h.e1 in
    let q-e2 = word_is (has_edge w) (t + 119) f.e2 h.e2 in
    let q-e3 = word_is (has_edge w) (t + 55) f.e3 h.e3 in
    let q-m = word_is (M w) (t + 256) f.m h.m in
    let q-m1 = word_is (M w) (t + 192) f.m1 h.m1 in
    let q-m2 = word_is (M w) (t + 128) f.m2 h.m2 in
    let q-m3 = word_is (M w) (t + 64) f.m3 h.m3 in
    λ i.
    record {
      a = q-a i;
      a1 = q-a1 i;
      p = q-p i;
      p1 = q-p1 i;
      n = q-n i;
      n1 = q-n1 i;
      l = q-l i;
      l1 = q-l1 i;
      k = q-k i;
      k1 = q-k1 i;
      h = q-h i;
      h1 = q-h1 i;
      e = q-e i;
      e1 = q-e1 i;
      e2 = q-e2 i;
      e3 = q-e3 i;
      m = q-m i;
      m1 = q-m1 i;
      m2 = q-m2 i;
      m3 = q-m3 i;
    }

-- ---- sliding

-- a word of a plane f, slid by r ticks that are known, belongs to a plane g that agrees with f on them
slid_old : (f g : ℕ → Bool) (b r before now x : ℕ) → r ≤ 64 → Slid before now r x → Holds f b before → Holds f (b + 64) now
    → ((j : ℕ) → j < b + 128 → f j ≡ g j) → Holds g (b + r) x
slid_old f g b r before now x h s k l e =
    holds_same f g (b + r) x (λ i m. e (b + r + i) (omega arith)) (s.holds f b k (λ m n. l.at m (omega arith)))

-- a word of a plane f, slid by the r new ticks of g
slid_new : (f g : ℕ → Bool) (b r before now x : ℕ) → Slid before now r x → Holds f b before → ((m : ℕ) → m < r → bit now m ≡ g (b + 64 + m))
    → ((j : ℕ) → j < b + 64 → f j ≡ g j) → Holds g (b + r) x
slid_new f g b r before now x s k l e = s.holds g b (holds_same f g b before (λ i m. e (b + i) (omega arith)) k) l

-- the base of a slid word
rebase : (g : ℕ → Bool) (t r c x : ℕ) → Holds g (t + c + r) x → Holds g (t + r + c) x
rebase g t r c x h = let z : t + c + r ≡ t + r + c = omega arith in subst (λ (b : ℕ). Holds g b x) z h

-- a base written as a sum, both ways
pub on : (g : ℕ → Bool) (b c d e x : ℕ) → c ≡ d + e → Holds g (b + c) x → Holds g (b + d + e) x
on g b c d e x q h = let z : b + c ≡ b + d + e = omega arith in subst (λ (k : ℕ). Holds g k x) z h

pub off : (g : ℕ → Bool) (b c d e x : ℕ) → c ≡ d + e → Holds g (b + d + e) x → Holds g (b + c) x
off g b c d e x q h = let z : b + d + e ≡ b + c = omega arith in subst (λ (k : ℕ). Holds g k x) z h

-- the word behind it starts 64 ticks later
at_64 : (g : ℕ → Bool) (t c x : ℕ) → Holds g (t + (c + 64)) x → Holds g (t + c + 64) x
at_64 g t c x h = on g t (c + 64) c 64 x refl h

-- ---- all words

-- f' is f slid by r ticks, with the new bits of x, and with what is then detected
pub record Slides (f : Front) (x : Planes) (r : ℕ) (f' : Front) : Type 0 where
  pub a : Slid f.a x.a r f'.a
  pub a1 : Slid f.a1 f.a r f'.a1
  pub p : Slid f.p x.p r f'.p
  pub p1 : Slid f.p1 f.p r f'.p1
  pub n : Slid f.n x.n r f'.n
  pub n1 : Slid f.n1 f.n r f'.n1
  pub l1 : Slid f.l1 f.l r f'.l1
  pub k1 : Slid f.k1 f.k r f'.k1
  pub h1 : Slid f.h1 f.h r f'.h1
  pub e1 : Slid f.e1 f.e r f'.e1
  pub e2 : Slid f.e2 f.e1 r f'.e2
  pub e3 : Slid f.e3 f.e2 r f'.e3
  pub m : Slid f.m x.m r f'.m
  pub m1 : Slid f.m1 f.m r f'.m1
  pub m2 : Slid f.m2 f.m1 r f'.m2
  pub m3 : Slid f.m3 f.m2 r f'.m3
  pub found : Detected (record { a = f'.a1; p = f'.p1; n = f'.n1; lead = f'.l1; calm = f'.k1; chain = f'.h1 }) f'.a f'.p f'.n
      (record { lead = f'.l; calm = f'.k; chain = f'.h; edge = f'.e })

module _ (F G : List ℕ) where
  -- a plane of the longer trace agrees with that of the shorter where it is known
  longer : (X : List ℕ → ℕ → Bool) (c j : ℕ) → ((w : List ℕ) → j + c < length w → X (w ++ G) j ≡ X w j) → j + c < length F + 320 → X (padded F) j ≡ X (padded (F ++ G)) j
  longer X c j s h = sym (s (padded F) (omega (arith, padded-length F))) ∙ ap (λ (v : List ℕ). X v j) (sym (padded-append F G))

  -- the new ticks
  new-flag : (φ : ℕ → Bool) (m : ℕ) → φ (get_or G m 0) ≡ φ (get_or (padded (F ++ G)) (length F + 256 + 64 + m) 0)
  new-flag φ m =
      let w = padded F in
      let z : length w + m ≡ length F + 256 + 64 + m = omega (arith, padded-length F) in
      sym (ap φ (get_or-append-add w G m 0)) ∙ ap (λ (k : ℕ). φ (get_or (w ++ G) k 0)) z ∙ ap (λ (v : List ℕ). φ (get_or v (length F + 256 + 64 + m) 0)) (sym (padded-append F G))

  module _ (f f' : Front) (x : Planes) (r : ℕ) (h : r ≤ 64) (lr : length G ≡ r) (low : Low G x) (o : Fronted (padded F) (length F) f) (s : Slides f x r f') where
    same_A : (j : ℕ) → j < length F + 320 → A (padded F) j ≡ A (padded (F ++ G)) j
    same_A j l = longer A 0 j (λ u k. A-append u G j (omega arith)) (omega arith)

    same-P : (j : ℕ) → j < length F + 320 → P (padded F) j ≡ P (padded (F ++ G)) j
    same-P j l = longer P 0 j (λ u k. P-append u G j (omega arith)) (omega arith)

    same-N : (j : ℕ) → j < length F + 320 → N (padded F) j ≡ N (padded (F ++ G)) j
    same-N j l = longer N 0 j (λ u k. N-append u G j (omega arith)) (omega arith)

    same-M : (j : ℕ) → j < length F + 320 → M (padded F) j ≡ M (padded (F ++ G)) j
    same-M j l = longer M 0 j (λ u k. M-append u G j (omega arith)) (omega arith)

    same-lead : (j : ℕ) → j < length F + 318 → lead_at (padded F) j ≡ lead_at (padded (F ++ G)) j
    same-lead j l = longer lead_at 2 j (λ u k. lead_at-append u G j (omega arith)) (omega arith)

    same-calm : (j : ℕ) → j < length F + 318 → calm_at (padded F) j ≡ calm_at (padded (F ++ G)) j
    same-calm j l = longer calm_at 2 j (λ u k. calm_at-append u G j k) (omega arith)

    same-chain : (j : ℕ) → j < length F + 318 → chain_at (padded F) j ≡ chain_at (padded (F ++ G)) j
    same-chain j l = longer chain_at 2 j (λ u k. chain_at-append u G j k) (omega arith)

    same-edge : (j : ℕ) → j < length F + 311 → has_edge (padded F) j ≡ has_edge (padded (F ++ G)) j
    same-edge j l = longer has_edge 9 j (λ u k. has_edge-append u G j (omega arith)) (omega arith)

    new-A : (m : ℕ) → m < r → bit x.a m ≡ A (padded (F ++ G)) (length F + 256 + 64 + m)
    unfolding A
    new-A m l = low.a m (omega arith) ∙ new-flag odd m

    new-P : (m : ℕ) → m < r → bit x.p m ≡ P (padded (F ++ G)) (length F + 256 + 64 + m)
    unfolding P
    new-P m l = low.p m (omega arith) ∙ new-flag (λ (y : ℕ). odd (y / 2)) m

    new-N : (m : ℕ) → m < r → bit x.n m ≡ N (padded (F ++ G)) (length F + 256 + 64 + m)
    unfolding N
    new-N m l = low.n m (omega arith) ∙ new-flag (λ (y : ℕ). odd (y / 4)) m

    new-M : (m : ℕ) → m < r → bit x.m m ≡ M (padded (F ++ G)) (length F + 256 + 64 + m)
    unfolding M
    new-M m l = low.m m (omega arith) ∙ new-flag (λ (y : ℕ). odd (y / 8)) m

    -- the words that look back
    moved-a : Holds (A (padded (F ++ G))) (length F + r + 256) f'.a
    moved-a =
        rebase (A (padded (F ++ G))) (length F) r 256 f'.a
        (slid_new (A (padded F)) (A (padded (F ++ G))) (length F + 256) r f.a x.a f'.a s.a o.a new-A (λ j l. same_A j (omega arith)))

    moved_a1 : Holds (A (padded (F ++ G))) (length F + r + 192) f'.a1
    moved_a1 =
        rebase (A (padded (F ++ G))) (length F) r 192 f'.a1
        (slid_old (A (padded F)) (A (padded (F ++ G))) (length F + 192) r f.a1 f.a f'.a1 h s.a1 o.a1 (at_64 (A (padded F)) (length F) 192 f.a o.a) (λ j l. same_A j (omega arith)))

    moved-p : Holds (P (padded (F ++ G))) (length F + r + 256) f'.p
    moved-p =
        rebase (P (padded (F ++ G))) (length F) r 256 f'.p
        (slid_new (P (padded F)) (P (padded (F ++ G))) (length F + 256) r f.p x.p f'.p s.p o.p new-P (λ j l. same-P j (omega arith)))

    moved-p1 : Holds (P (padded (F ++ G))) (length F + r + 192) f'.p1
    moved-p1 =
        rebase (P (padded (F ++ G))) (length F) r 192 f'.p1
        (slid_old (P (padded F)) (P (padded (F ++ G))) (length F + 192) r f.p1 f.p f'.p1 h s.p1 o.p1 (at_64 (P (padded F)) (length F) 192 f.p o.p) (λ j l. same-P j (omega arith)))

    moved-n : Holds (N (padded (F ++ G))) (length F + r + 256) f'.n
    moved-n =
        rebase (N (padded (F ++ G))) (length F) r 256 f'.n
        (slid_new (N (padded F)) (N (padded (F ++ G))) (length F + 256) r f.n x.n f'.n s.n o.n new-N (λ j l. same-N j (omega arith)))

    moved_n1 : Holds (N (padded (F ++ G))) (length F + r + 192) f'.n1
    moved_n1 =
        rebase (N (padded (F ++ G))) (length F) r 192 f'.n1
        (slid_old (N (padded F)) (N (padded (F ++ G))) (length F + 192) r f.n1 f.n f'.n1 h s.n1 o.n1 (at_64 (N (padded F)) (length F) 192 f.n o.n) (λ j l. same-N j (omega arith)))

    moved-m : Holds (M (padded (F ++ G))) (length F + r + 256) f'.m
    moved-m =
        rebase (M (padded (F ++ G))) (length F) r 256 f'.m
        (slid_new (M (padded F)) (M (padded (F ++ G))) (length F + 256) r f.m x.m f'.m s.m o.m new-M (λ j l. same-M j (omega arith)))

    moved_m1 : Holds (M (padded (F ++ G))) (length F + r + 192) f'.m1
    moved_m1 =
        rebase (M (padded (F ++ G))) (length F) r 192 f'.m1
        (slid_old (M (padded F)) (M (padded (F ++ G))) (length F + 192) r f.m1 f.m f'.m1 h s.m1 o.m1 (at_64 (M (padded F)) (length F) 192 f.m o.m) (λ j l. same-M j (omega arith)))

    moved_m2 : Holds (M (padded (F ++ G))) (length F + r + 128) f'.m2
    moved_m2 =
        rebase (M (padded (F ++ G))) (length F) r 128 f'.m2
        (slid_old (M (padded F)) (M (padded (F ++ G))) (length F + 128) r f.m2 f.m1 f'.m2 h s.m2 o.m2 (at_64 (M (padded F)) (length F) 128 f.m1 o.m1) (λ j l. same-M j (omega arith)))

    moved_m3 : Holds (M (padded (F ++ G))) (length F + r + 64) f'.m3
    moved_m3 =
        rebase (M (padded (F ++ G))) (length F) r 64 f'.m3
        (slid_old (M (padded F)) (M (padded (F ++ G))) (length F + 64) r f.m3 f.m2 f'.m3 h s.m3 o.m3 (at_64 (M (padded F)) (length F) 64 f.m2 o.m2) (λ j l. same-M j (omega arith)))

    moved_l1 : Holds (lead_at (padded (F ++ G))) (length F + r + 190) f'.l1
    moved_l1 =
        rebase (lead_at (padded (F ++ G))) (length F) r 190 f'.l1
        (slid_old (lead_at (padded F)) (lead_at (padded (F ++ G))) (length F + 190) r f.l1 f.l f'.l1 h s.l1 o.l1 (at_64 (lead_at (padded F)) (length F) 190 f.l o.l) (λ j l. same-lead j (omega arith)))

    moved_k1 : Holds (calm_at (padded (F ++ G))) (length F + r + 190) f'.k1
    moved_k1 =
        rebase (calm_at (padded (F ++ G))) (length F) r 190 f'.k1
        (slid_old (calm_at (padded F)) (calm_at (padded (F ++ G))) (length F + 190) r f.k1 f.k f'.k1 h s.k1 o.k1 (at_64 (calm_at (padded F)) (length F) 190 f.k o.k) (λ j l. same-calm j (omega arith)))

    moved_h1 : Holds (chain_at (padded (F ++ G))) (length F + r + 190) f'.h1
    moved_h1 =
        rebase (chain_at (padded (F ++ G))) (length F) r 190 f'.h1
        (slid_old (chain_at (padded F)) (chain_at (padded (F ++ G))) (length F + 190) r f.h1 f.h f'.h1 h s.h1 o.h1 (at_64 (chain_at (padded F)) (length F) 190 f.h o.h) (λ j l. same-chain j (omega arith)))

    moved_e1 : Holds (has_edge (padded (F ++ G))) (length F + r + 183) f'.e1
    moved_e1 =
        rebase (has_edge (padded (F ++ G))) (length F) r 183 f'.e1
        (slid_old (has_edge (padded F)) (has_edge (padded (F ++ G))) (length F + 183) r f.e1 f.e f'.e1 h s.e1 o.e1 (at_64 (has_edge (padded F)) (length F) 183 f.e o.e) (λ j l. same-edge j (omega arith)))

    moved_e2 : Holds (has_edge (padded (F ++ G))) (length F + r + 119) f'.e2
    moved_e2 =
        rebase (has_edge (padded (F ++ G))) (length F) r 119 f'.e2
        (slid_old (has_edge (padded F)) (has_edge (padded (F ++ G))) (length F + 119) r f.e2 f.e1 f'.e2 h s.e2 o.e2 (at_64 (has_edge (padded F)) (length F) 119 f.e1 o.e1) (λ j l. same-edge j (omega arith)))

    moved_e3 : Holds (has_edge (padded (F ++ G))) (length F + r + 55) f'.e3
    moved_e3 =
        rebase (has_edge (padded (F ++ G))) (length F) r 55 f'.e3
        (slid_old (has_edge (padded F)) (has_edge (padded (F ++ G))) (length F + 55) r f.e3 f.e2 f'.e3 h s.e3 o.e3 (at_64 (has_edge (padded F)) (length F) 55 f.e2 o.e2) (λ j l. same-edge j (omega arith)))

    -- the words of the newest ticks
    ahead : Ahead (padded (F ++ G)) (length F + r + 190) (record { lead = f'.l; calm = f'.k; chain = f'.h; edge = f'.e })
    ahead =
        let b = length F + r in
        let W = padded (F ++ G) in
        s.found.holds W (b + 190)
        (record {
          a = on (A W) b 192 190 2 f'.a1 refl moved_a1;
          p = on (P W) b 192 190 2 f'.p1 refl moved-p1;
          n = on (N W) b 192 190 2 f'.n1 refl moved_n1;
          lead = moved_l1;
          calm = moved_k1;
          chain = moved_h1;
        })
        (on (A W) b 256 190 66 f'.a refl moved-a) (on (P W) b 256 190 66 f'.p refl moved-p) (on (N W) b 256 190 66 f'.n refl moved-n)

    advanced : Fronted (padded (F ++ G)) (length F + r) f'
    advanced =
        let b = length F + r in
        let W = padded (F ++ G) in
        record {
          a = moved-a;
          a1 = moved_a1;
          p = moved-p;
          p1 = moved-p1;
          n = moved-n;
          n1 = moved_n1;
          l = off (lead_at W) b 254 190 64 f'.l refl ahead.lead;
          l1 = moved_l1;
          k = off (calm_at W) b 254 190 64 f'.k refl ahead.calm;
          k1 = moved_k1;
          h = off (chain_at W) b 254 190 64 f'.h refl ahead.chain;
          h1 = moved_h1;
          e = off (has_edge W) b 247 190 57 f'.e refl ahead.edge;
          e1 = moved_e1;
          e2 = moved_e2;
          e3 = moved_e3;
          m = moved-m;
          m1 = moved_m1;
          m2 = moved_m2;
          m3 = moved_m3;
        }

-- the words of the longer trace
pub advance_law : (f f' : Front) (x : Planes) (r : ℕ) → r ≤ 64 → Slides f x r f' → AdvancePost f x r f'
advance_law f f' x r h s =
    record {
      result =
          λ F G e lr low.
          let z : length F + r ≡ length (F ++ G) = omega (arith, length-append F G) in
          front-is (F ++ G) f' (subst (λ (k : ℕ). Fronted (padded (F ++ G)) k f') z (advanced F G f f' x r h lr low (fronted F f e) s));
    }
