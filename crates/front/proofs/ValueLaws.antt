-- Values are read from the piece or from the 256 values before it; both are those of the joined trace.
use Prim.Native.Nat.{ℕ, ◌+◌, ◌-◌, ◌≤◌, ◌<◌}
use native.Mathlib.Omega.{arith}
use mathlib.Core.Path.{◌≡◌, refl, sym, ap, ◌∙◌}
use mathlib.Core.Bool.{Bool, true, false, cond}
use mathlib.Core.List.{List, ◌++◌, append_assoc}
use lib.Dec.{leb}
use lib.ListN.{length, get_or, drop, replicate, length-append, length-replicate, get_or-append, get_or-eq_default}
use lib.Seq.{get_or-drop, get_or-append-add, drop-append-le, drop-drop}
use borrow.Author.Tests.{leb-true, leb-false, le-leb, lt-leb}
use Rattle.front.specs.Words.{recent_of}
use Rattle.front.specs.Post.{value_of, KeepPost}

recent_at : (old : List ℕ) (t : ℕ) → t < length old → length old ≤ t + 256 → get_or (recent_of old) (t + 256 - length old) 0 ≡ get_or old t 0
unfolding recent_of
recent_at old t l m =
    let n = length old in
    let z : n + (t + 256 - n) ≡ length (replicate {A = ℕ} 256 0) + t = omega (arith, length-replicate {A = ℕ} 256 0) in
    get_or-drop n (replicate 256 0 ++ old) (t + 256 - n) 0
    ∙ ap (λ (k : ℕ). get_or (replicate 256 0 ++ old) k 0) z
    ∙ get_or-append-add (replicate 256 0) old t 0

-- the value as the code finds it
module _ (recent : List ℕ) (base : ℕ) (values : List ℕ) (t : ℕ) where
  pub value-piece : base ≤ t → get_or values (t - base) 0 ≡ value_of recent base values t
  unfolding value_of
  value-piece h = rw (le-leb base t h)

  pub value-past : base ≤ t → length values ≤ t - base → 0 ≡ value_of recent base values t
  unfolding value_of
  value-past h l = rw (le-leb base t h) (sym (get_or-eq_default values 0 {n = t - base} l))

  pub value-lost : t < base → 256 < base - t → 0 ≡ value_of recent base values t
  unfolding value_of
  value-lost h l = rw (lt-leb base t h, lt-leb base (t + 256) (omega arith))

  pub value_recent : t < base → base - t ≤ 256 → get_or recent (256 - (base - t)) 0 ≡ value_of recent base values t
  unfolding value_of
  value_recent h l =
      let z : 256 - (base - t) ≡ t + 256 - base = omega arith in
      rw (lt-leb base t h, le-leb base (t + 256) (omega arith)) (ap (λ (k : ℕ). get_or recent k 0) z)

-- a value of the last 256 ticks before the piece, or of the piece, is that of the joined values
pub value_law : (old values : List ℕ) (t : ℕ) → length old ≤ t + 256 → value_of (recent_of old) (length old) values t ≡ get_or (old ++ values) t 0
unfolding value_of
value_law old values t h = go (leb (length old) t) refl
  where
    n : ℕ
    n = length old

    go : (b : Bool) → leb (length old) t ≡ b
        → cond b (get_or values (t - length old) 0) (cond (leb (length old) (t + 256)) (get_or (recent_of old) (t + 256 - length old) 0) 0) ≡ get_or (old ++ values) t 0
    go true e =
        let z : length old + (t - length old) ≡ t = omega (arith, leb-true (length old) t e) in
        sym (get_or-append-add old values (t - length old) 0) ∙ ap (λ (k : ℕ). get_or (old ++ values) k 0) z
    go false e =
        let l = leb-false (length old) t e in
        rw (le-leb (length old) (t + 256) h) (recent_at old t l h ∙ sym (get_or-append old values 0 t l))

more-values : (old values : List ℕ) → drop (length values) (recent_of old ++ values) ≡ recent_of (old ++ values)
unfolding recent_of
more-values old values =
    let n = length old in
    let zs = replicate {A = ℕ} 256 0 in
    ap (drop (length values))
    (sym (drop-append-le n (zs ++ old) values (omega (arith, length-append zs old))) ∙ ap (drop n) (append_assoc zs old values))
    ∙ drop-drop (length values) n (zs ++ (old ++ values))
    ∙ ap (λ (k : ℕ). drop k (zs ++ (old ++ values))) (sym (length-append old values))

-- what is kept once more values come depends on what was kept before alone
pub recent_more : (a b values : List ℕ) → recent_of a ≡ recent_of b → recent_of (a ++ values) ≡ recent_of (b ++ values)
recent_more a b values e = sym (more-values a values) ∙ ap (λ (r : List ℕ). drop (length values) (r ++ values)) e ∙ more-values b values

-- the values kept once the piece is taken
pub keep_law : (recent values recent' : List ℕ) → recent' ≡ drop (length values) (recent ++ values) → KeepPost recent values recent'
keep_law recent values recent' e =
    record { result = λ old q. e ∙ ap (λ (r : List ℕ). drop (length values) (r ++ values)) q ∙ more-values old values }
