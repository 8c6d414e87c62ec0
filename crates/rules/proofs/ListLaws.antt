-- Lists and tests: filtering, rejecting and counting over appended lists, and properties of every element.
use Prim.Native.Nat.{suc, ◌+◌, ◌≤◌}
use native.Mathlib.Omega.{arith}
use mathlib.Core.Path.{◌≡◌, refl, sym, ap, ap₂, ◌∙◌}
use mathlib.Core.Bool.{Bool, true, false, ◌||◌, cond}
use mathlib.Core.List.{List, [], ◌∷◌, ◌++◌}
use lib.ListN.{length, length-append}
use Rattle.rules.specs.Lists.{any, filter, reject, count, All}
use Rattle.rules.proofs.Truth.{impossible, or_left, or_right}

module _ {X : Type 0} where
  -- ---- appended lists

  cond-append : (b : Bool) (x : X) (l l' r : List X) → l ≡ l' ++ r → cond b (x ∷ l) l ≡ cond b (x ∷ l') l' ++ r
  cond-append true x l l' r e = ap {B = List X} (λ z. x ∷ z) e
  cond-append false x l l' r e = e

  pub filter-append : (p : X → Bool) (l r : List X) → filter p (l ++ r) ≡ filter p l ++ filter p r
  filter-append p [] r = refl
  filter-append p (x ∷ l) r = cond-append (p x) x (filter p (l ++ r)) (filter p l) (filter p r) (filter-append p l r)

  pub count-append : (p : X → Bool) (l r : List X) → count p (l ++ r) ≡ count p l + count p r
  count-append p l r = ap length (filter-append p l r) ∙ length-append (filter p l) (filter p r)

  -- ---- counting

  part : (b : Bool) (x : X) (l m : List X) → length (cond b (x ∷ l) l) + length (cond b m (x ∷ m)) ≡ suc (length l + length m)
  part true x l m = omega arith
  part false x l m = omega arith

  -- each element passes or does not
  pub count_split : (p : X → Bool) (l : List X) → count p l + length (reject p l) ≡ length l
  count_split p [] = omega arith
  count_split p (x ∷ l) = part (p x) x (filter p l) (reject p l) ∙ ap suc (count_split p l)

  pub reject_short : (p : X → Bool) (l : List X) → length (reject p l) ≤ length l
  reject_short p l = omega (arith, count_split p l)

  -- fewer elements, fewer that pass
  cond-count : (b c : Bool) (x : X) (p : X → Bool) (l m : List X) → p x ≡ c → count p l ≤ length m → count p (cond b l (x ∷ l)) ≤ length (cond c (x ∷ m) m)
  cond-count true true x p l m e h = omega arith
  cond-count true false x p l m e h = h
  cond-count false true x p l m e h = rw e (omega arith)
  cond-count false false x p l m e h = rw e h

  pub count_reject : (p q : X → Bool) (l : List X) → count p (reject q l) ≤ count p l
  count_reject p q [] = omega arith
  count_reject p q (x ∷ l) = cond-count (q x) (p x) x p (reject q l) (filter p l) refl (count_reject p q l)

  pub count_most : (p : X → Bool) (l : List X) → count p l ≤ length l
  count_most p l = omega (arith, count_split p l)

  -- ---- every element

  module _ (P : X → Type 0) where
    cond-all : (b : Bool) (x : X) (l : List X) → P x → All P l → All P (cond b (x ∷ l) l)
    cond-all true x l h k = (h, k)
    cond-all false x l h k = k

    pub all_filter : (p : X → Bool) (l : List X) → All P l → All P (filter p l)
    all_filter p [] h = tt
    all_filter p (x ∷ l) h = cond-all (p x) x (filter p l) h.0 (all_filter p l h.1)

    cond_all' : (b : Bool) (x : X) (l : List X) → P x → All P l → All P (cond b l (x ∷ l))
    cond_all' true x l h k = k
    cond_all' false x l h k = (h, k)

    pub all_reject : (p : X → Bool) (l : List X) → All P l → All P (reject p l)
    all_reject p [] h = tt
    all_reject p (x ∷ l) h = cond_all' (p x) x (reject p l) h.0 (all_reject p l h.1)

    pub all_append : (l r : List X) → All P l → All P r → All P (l ++ r)
    all_append [] r h k = k
    all_append (x ∷ l) r h k = (h.0, all_append l r h.1 k)

    -- what passes a test has what the test says
    pub all-passed : (p : X → Bool) → ((x : X) → p x ≡ true → P x) → (l : List X) → All P (filter p l)
    all-passed p s [] = tt
    all-passed p s (x ∷ l) = go (p x) refl (all-passed p s l)
      where
        go : (b : Bool) → p x ≡ b → All P (filter p l) → All P (cond b (x ∷ filter p l) (filter p l))
        go true e k = (s x e, k)
        go false e k = k

    pub all-kept : (p : X → Bool) → ((x : X) → p x ≡ false → P x) → (l : List X) → All P (reject p l)
    all-kept p s [] = tt
    all-kept p s (x ∷ l) = go (p x) refl (all-kept p s l)
      where
        go : (b : Bool) → p x ≡ b → All P (reject p l) → All P (cond b (reject p l) (x ∷ reject p l))
        go true e k = k
        go false e k = (s x e, k)

  pub all_map : (P Q : X → Type 0) → ((x : X) → P x → Q x) → (l : List X) → All P l → All Q l
  all_map P Q f [] h = tt
  all_map P Q f (x ∷ l) h = (f x h.0, all_map P Q f l h.1)

  -- none passes
  pub count_none : (p : X → Bool) (l : List X) → All (λ x. p x ≡ false) l → count p l ≡ 0
  count_none p [] h = refl
  count_none p (x ∷ l) h = rw h.0 (count_none p l h.1)

  pub filter_none : (p : X → Bool) (l : List X) → All (λ x. p x ≡ false) l → filter p l ≡ []
  filter_none p [] h = refl
  filter_none p (x ∷ l) h = rw h.0 (filter_none p l h.1)

  pub filter-all : (p : X → Bool) (l : List X) → All (λ x. p x ≡ true) l → filter p l ≡ l
  filter-all p [] h = refl
  filter-all p (x ∷ l) h = rw h.0 (ap {B = List X} (λ z. x ∷ z) (filter-all p l h.1))

  pub reject_none : (p : X → Bool) (l : List X) → All (λ x. p x ≡ false) l → reject p l ≡ l
  reject_none p [] h = refl
  reject_none p (x ∷ l) h = rw h.0 (ap {B = List X} (λ z. x ∷ z) (reject_none p l h.1))

  pub reject_all : (p : X → Bool) (l : List X) → All (λ x. p x ≡ true) l → reject p l ≡ []
  reject_all p [] h = refl
  reject_all p (x ∷ l) h = rw h.0 (reject_all p l h.1)

  -- tests that agree pick the same
  pub filter_same : (p q : X → Bool) → ((x : X) → p x ≡ q x) → (l : List X) → filter p l ≡ filter q l
  filter_same p q h [] = refl
  filter_same p q h (x ∷ l) = rw (h x, filter_same p q h l)

  -- first elements that agree under a test
  pub count-cons : (p : X → Bool) (x y : X) (l m : List X) → p x ≡ p y → count p l ≡ count p m → count p (x ∷ l) ≡ count p (y ∷ m)
  count-cons p x y l m e h = both (p x) (p y) e
    where
      both : (b c : Bool) → b ≡ c → length (cond b (x ∷ filter p l) (filter p l)) ≡ length (cond c (y ∷ filter p m) (filter p m))
      both true true q = ap suc h
      both true false q = absurd (impossible q)
      both false true q = absurd (impossible (sym q))
      both false false q = h

  -- what passes one test passes one of two others
  pub count-or : (p q r : X → Bool) → ((x : X) → p x ≡ true → (q x || r x) ≡ true) → (l : List X) → count p l ≤ count q l + count r l
  count-or p q r f [] = omega arith
  count-or p q r f (x ∷ l) = go (p x) (q x) (r x) (f x) (count-or p q r f l)
    where
      go : (a b c : Bool) → (a ≡ true → (b || c) ≡ true) → count p l ≤ count q l + count r l
          → length (cond a (x ∷ filter p l) (filter p l)) ≤ length (cond b (x ∷ filter q l) (filter q l)) + length (cond c (x ∷ filter r l) (filter r l))
      go true true true g h = omega arith
      go true true false g h = omega arith
      go true false true g h = omega arith
      go true false false g h = absurd (impossible (sym (g refl)))
      go false true true g h = omega arith
      go false true false g h = omega arith
      go false false true g h = omega arith
      go false false false g h = h

  -- what passes q and not p passes r
  pub count-between : (p q r : X → Bool) → ((x : X) → p x ≡ false → q x ≡ true → r x ≡ true) → (l : List X) → length (reject p (filter q l)) ≤ count r l
  count-between p q r f [] = omega arith
  count-between p q r f (x ∷ l) = go (q x) (p x) (r x) refl refl (f x) (count-between p q r f l)
    where
      go : (b a c : Bool) → q x ≡ b → p x ≡ a → (p x ≡ false → q x ≡ true → c ≡ true) → length (reject p (filter q l)) ≤ count r l
          → length (reject p (cond b (x ∷ filter q l) (filter q l))) ≤ length (cond c (x ∷ filter r l) (filter r l))
      go true true true e d g h = rw d (omega arith)
      go true true false e d g h = rw d h
      go true false true e d g h = rw d (omega arith)
      go true false false e d g h = absurd (impossible (sym (g d e)))
      go false a true e d g h = omega arith
      go false a false e d g h = h

-- ---- none of two lists passes

pub any_append {ℓ} : {X : Type ℓ} (p : X → Bool) (l k : List X) → any p l ≡ false → any p k ≡ false → any p (l ++ k) ≡ false
any_append p [] k h g = g
any_append p (x ∷ l) k h g = ap₂ (λ (a c : Bool). a || c) (or_left (p x) (any p l) h) (any_append p l k (or_right (p x) (any p l) h) g)

pub any-first {ℓ} : {X : Type ℓ} (p : X → Bool) (l k : List X) → any p (l ++ k) ≡ false → any p l ≡ false
any-first p [] k h = refl
any-first p (x ∷ l) k h = ap₂ (λ (a c : Bool). a || c) (or_left (p x) (any p (l ++ k)) h) (any-first p l k (or_right (p x) (any p (l ++ k)) h))

pub any-second {ℓ} : {X : Type ℓ} (p : X → Bool) (l k : List X) → any p (l ++ k) ≡ false → any p k ≡ false
any-second p [] k h = h
any-second p (x ∷ l) k h = any-second p l k (or_right (p x) (any p (l ++ k)) h)
