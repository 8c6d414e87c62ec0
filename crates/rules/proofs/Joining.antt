-- Replies by pieces: what was handed out once T is taken, with what a take of P then hands out, is what is handed out once T and P are taken.
-- With what is left at a close it is every reply of the trace.
use Prim.Native.Nat.{ℕ, ◌+◌, ◌-◌, ◌*◌, ◌≤◌}
use native.Mathlib.Omega.{arith}
use mathlib.Core.Path.{◌≡◌, refl, sym, ap, ◌∙◌}
use mathlib.Core.Bool.{Bool, true, false, cond}
use mathlib.Core.List.{List, [], ◌∷◌, ◌++◌, append_assoc, map}
use lib.Dec.{leb}
use lib.ListN.{length, length-append}
use borrow.Author.Tests.{le-leb, lt-leb, leb-true, leb-false}
use Rattle.rules.specs.declared.Reply.{Reply}
use Rattle.rules.specs.Settings.{Settings, Allowed}
use Rattle.rules.specs.Lists.{filter, reject, joined}
use Rattle.rules.specs.Samples.{Trace, ◌⧺◌}
use Rattle.rules.specs.Replies.{f1}
use Rattle.rules.specs.Machine.{given, after, final}
use Rattle.rules.specs.Records.{record_size, bytes, record_of, records, replies}
use Rattle.rules.specs.Calls.{due, handed, fresh, rest}
use Rattle.rules.proofs.Truth.{impossible}
use Rattle.rules.proofs.Order.{Rising, Earlier, split_rising}
use Rattle.rules.proofs.Settled.{settled, due-after, due-none, after-append, edge_timed}
use Rattle.rules.proofs.Printed.{final_ordered}

due_earlier : (n : ℕ) → Earlier (due n)
due_earlier n = record { earlier = λ r x l q. lt-leb (f1 x + 385) n (omega (arith, leb-false (f1 r + 385) n q)) }

-- what is due is due later too
due-later : (n m : ℕ) → n ≤ m → (r : Reply) → due n r ≡ true → due m r ≡ true
due-later n m h r q = le-leb (f1 r + 385) m (omega (arith, leb-true (f1 r + 385) n q))

-- where p implies q, to pick by q first changes nothing
module _ (p q : Reply → Bool) (i : (r : Reply) → p r ≡ true → q r ≡ true) where
  filter-twice : (l : List Reply) → filter p (filter q l) ≡ filter p l
  filter-twice [] = refl
  filter-twice (r ∷ l) = go (p r) (q r) refl refl (filter-twice l)
    where
      go : (b c : Bool) → p r ≡ b → q r ≡ c → filter p (filter q l) ≡ filter p l → filter p (cond c (r ∷ filter q l) (filter q l)) ≡ cond b (r ∷ filter p l) (filter p l)
      go true true e d h = rw e (ap {B = List Reply} (λ z. r ∷ z) h)
      go false true e d h = rw e h
      go false false e d h = h
      go true false e d h = absurd (impossible (sym (i r e) ∙ d))

-- a part of a rising list rises
rising_filter : (p : Reply → Bool) (t u : ℕ) (l : List Reply) → Rising t u l → Rising t u (filter p l)
rising_filter p t u [] s = s
rising_filter p t u (r ∷ l) s = go (p r) (rising_filter p (f1 r + 1) u l s.1)
  where
    lower : (m : List Reply) → Rising (f1 r + 1) u m → Rising t u m
    lower [] k = omega (arith, s.0)
    lower (x ∷ m) k = (omega (arith, s.0, k.0), k.1)

    go : (b : Bool) → Rising (f1 r + 1) u (filter p l) → Rising t u (cond b (r ∷ filter p l) (filter p l))
    go true k = (s.0, k)
    go false k = lower (filter p l) k

module _ (set : Settings) (ok : Allowed set) where
  -- a take adds to what was handed out
  pub handed-fresh : (T P : Trace) → length T.flags ≡ length T.values → handed set (T ⧺ P) ≡ handed set T ++ fresh set T P
  unfolding handed fresh
  handed-fresh T P a =
      let n = length T.flags in
      let m = length T.flags + length P.flags in
      let l = replies (final set (T ⧺ P)) in
      let h = filter (due m) l in
      let N = length (T.flags ++ P.flags) in
      ap (λ (k : ℕ). filter (due k) l) (length-append T.flags P.flags)
      ∙ sym (split_rising (due n) (due_earlier n) 0 N h (rising_filter (due m) 0 N l (final_ordered set (T ⧺ P)).rising))
      ∙ ap {B = List Reply} (λ z. z ++ reject (due n) h)
      (filter-twice (due n) (due m) (due-later n m (omega arith)) l ∙ settled set ok T P a)

  -- what was handed out and what is left are all replies
  pub handed-rest : (T : Trace) → handed set T ++ rest set T ≡ replies (final set T)
  unfolding handed rest
  handed-rest T =
      let n = length T.flags in
      split_rising (due n) (due_earlier n) 0 n (replies (final set T)) (final_ordered set T).rising

-- ---- by pieces

-- lists with the same beginning
pub append-same : (d l k : List Reply) → d ++ l ≡ d ++ k → l ≡ k
append-same [] l k e = e
append-same (x ∷ d) l k e = append-same d l k (cons_tail e)
  where
    cons_tail : {a b : List Reply} → x ∷ a ≡ x ∷ b → a ≡ b
    cons_tail q = cc

-- three traces end to end
pub assoc : (T P Q : Trace) → T ⧺ (P ⧺ Q) ≡ (T ⧺ P) ⧺ Q
assoc T P Q =
    let f = append_assoc T.flags P.flags Q.flags in
    let v = append_assoc T.values P.values Q.values in
    λ i. record { flags = sym f i; values = sym v i }

module _ (set : Settings) (ok : Allowed set) where
  -- a take in two pieces hands out what the two hand out
  pub fresh_join : (T P Q : Trace) → length T.flags ≡ length T.values → length P.flags ≡ length P.values
      → fresh set T (P ⧺ Q) ≡ fresh set T P ++ fresh set (T ⧺ P) Q
  fresh_join T P Q a b =
      append-same (handed set T) (fresh set T (P ⧺ Q)) (fresh set T P ++ fresh set (T ⧺ P) Q)
      (sym (handed-fresh set ok T (P ⧺ Q) a)
      ∙ ap (handed set) (assoc T P Q)
      ∙ handed-fresh set ok (T ⧺ P) Q (omega (arith, length-append T.flags P.flags, length-append T.values P.values))
      ∙ ap {B = List Reply} (λ z. z ++ fresh set (T ⧺ P) Q) (handed-fresh set ok T P a)
      ∙ append_assoc (handed set T) (fresh set T P) (fresh set (T ⧺ P) Q))

  -- what was handed out are the replies done after all ticks but 178
  pub handed-done : (T : Trace) → handed set T ≡ (after ◌+◌ (given set T) (length T.flags - 178)).done
  unfolding handed final after
  handed-done T = go (leb 178 (length T.flags)) refl
    where
      n : ℕ
      n = length T.flags

      l : List Reply
      l = replies (after ◌+◌ (given set T) (length T.flags))

      go : (b : Bool) → leb 178 (length T.flags) ≡ b → filter (due (length T.flags)) l ≡ (after ◌+◌ (given set T) (length T.flags - 178)).done
      go true e = due-after (given set T) (edge_timed set T) n n (leb-true 178 n e) (omega arith)
      go false e =
          let z : n - 178 ≡ 0 = omega (arith, leb-false 178 n e) in
          due-none n (omega (arith, leb-false 178 n e)) l ∙ sym (ap (λ (c : ℕ). (after ◌+◌ (given set T) c).done) z)

  -- the machine after all ticks but 178 does not change by what follows
  pub after_known : (T P : Trace) → length T.flags ≡ length T.values
      → after ◌+◌ (given set (T ⧺ P)) (length T.flags - 178) ≡ after ◌+◌ (given set T) (length T.flags - 178)
  unfolding after
  after_known T P a = go (leb 178 (length T.flags)) refl
    where
      n : ℕ
      n = length T.flags

      go : (b : Bool) → leb 178 (length T.flags) ≡ b
          → after ◌+◌ (given set (T ⧺ P)) (length T.flags - 178) ≡ after ◌+◌ (given set T) (length T.flags - 178)
      go true e = after-append set ok T P a (n - 178) (omega (arith, leb-true 178 n e))
      go false e =
          let z : n - 178 ≡ 0 = omega (arith, leb-false 178 n e) in
          ap (after ◌+◌ (given set (T ⧺ P))) z ∙ sym (ap (after ◌+◌ (given set T)) z)

-- ---- records end to end

pub records-append : (l m : List Reply) → records (l ++ m) ≡ records l ++ records m
unfolding records
records-append [] m = refl
records-append (r ∷ l) m = ap {B = List ℕ} (λ z. record_of r ++ z) (records-append l m) ∙ sym (append_assoc (record_of r) (joined (map record_of l)) (joined (map record_of m)))

record-length : (r : Reply) → length (record_of r) ≡ record_size
unfolding record_of bytes
record-length r = refl

pub records-length : (l : List Reply) → length (records l) ≡ record_size * length l
unfolding records
records-length [] = refl
records-length (r ∷ l) = omega (arith, length-append (record_of r) (joined (map record_of l)), record-length r, records-length l)
