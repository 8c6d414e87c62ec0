-- What holds of every reply of a trace: its numbers are in range, its F1 is early enough for an F2, and where F2 is its reference F2 has M.
-- Each is a property that a reply has when it opens and that settling keeps.
use Prim.Native.Nat.{ℕ, zero, suc, ◌+◌, ◌-◌, ◌*◌, ◌^◌, ◌≤◌}
use native.Mathlib.Omega.{arith}
use mathlib.Core.Path.{◌≡◌, refl, sym, ap, ◌∙◌, subst}
use mathlib.Core.Bool.{Bool, true, false, not, ◌&&◌, ◌||◌, cond}
use mathlib.Core.List.{List, [], ◌∷◌}
use lib.Dec.{leb, eqb}
use lib.ListN.{length, get_or}
use Rattle.rules.specs.declared.Tick.{Tick}
use Rattle.rules.specs.declared.Estimate.{Estimate}
use Rattle.rules.specs.declared.Marks.{Marks}
use Rattle.rules.specs.declared.Reply.{Reply}
use Rattle.rules.specs.declared.Pulse.{Pulse}
use Rattle.std.proofs.Common.{Some, None}
use Rattle.rules.specs.declared.Fate.TheVariants.{Opens}
use Rattle.rules.specs.Settings.{Settings, Allowed}
use Rattle.rules.specs.Lists.{any, All}
use Rattle.rules.specs.Samples.{Trace, bit}
use Rattle.rules.specs.Edges.{stands, edge_at}
use Rattle.rules.specs.Replies.{f1, level, position, takes, verdict, agrees, heard_at, covers, hear}
use Rattle.rules.specs.Machine.{Given, given, bracket_at, fate_by, clear, fate, opened, opened_by_lem, after, final}
use Rattle.rules.specs.Records.{is_average_lem, flags_of, replies}
use Rattle.rules.specs.Ranges.{Ranged, InRange, ReplyFacts}
use Rattle.rules.proofs.Truth.{impossible}
use Rattle.rules.proofs.ListLaws.{all_map}
use Rattle.rules.proofs.Each.{Each, each, each_replies}
use Rattle.rules.proofs.Order.{hear-f1, opened-f1}
use Rattle.rules.proofs.Ranges.{ranged-opened, ranged-hear, in_range}
use Rattle.rules.proofs.References.{near-exact}
use Rattle.rules.proofs.Apart.{edge-end}
use Rattle.rules.proofs.Settled.{edge_timed}

-- ---- F2

-- what the F2 of a bracket is: the edge 168, 167 or 169 ticks later
pub data Framing (G : Given) (u : ℕ) (f : Pulse) : Type 0 where
  at168 : stands (G.edge (u + 168)) ≡ true → f ≡ (G.edge (u + 168)).pulse → Framing G u f
  at167 : stands (G.edge (u + 167)) ≡ true → f ≡ (G.edge (u + 167)).pulse → Framing G u f
  at169 : stands (G.edge (u + 169)) ≡ true → f ≡ (G.edge (u + 169)).pulse → Framing G u f

with_same : (f g : Pulse) → Some f ≡ Some g → g ≡ f
with_same f g e = cc

pub framing : (G : Given) (u : ℕ) (f : Pulse) → bracket_at G u ≡ Some f → Framing G u f
unfolding bracket_at
framing G u f = go (stands (G.edge (u + 168))) (eqb G.settings.tolerance 0) (stands (G.edge (u + 167))) (stands (G.edge (u + 169))) refl refl refl
  where
    go : (a t b c : Bool) → stands (G.edge (u + 168)) ≡ a → stands (G.edge (u + 167)) ≡ b → stands (G.edge (u + 169)) ≡ c
        → cond a (Some (G.edge (u + 168)).pulse) (cond t None (cond b (Some (G.edge (u + 167)).pulse) (cond c (Some (G.edge (u + 169)).pulse) None))) ≡ Some f → Framing G u f
    go true t b c p q r e = at168 p (with_same (G.edge (u + 168)).pulse f e)
    go false true b c p q r e = absurd (let z : ◌≡◌ {A = ℕ} 0 1 = cc in omega arith)
    go false false true c p q r e = at167 q (with_same (G.edge (u + 167)).pulse f e)
    go false false false true p q r e = at169 r (with_same (G.edge (u + 169)).pulse f e)
    go false false false false p q r e = absurd (let z : ◌≡◌ {A = ℕ} 0 1 = cc in omega arith)

average-bit : (m : Marks) (e : Estimate) → bit 0 (flags_of m e) ≡ is_average_lem e
average-bit m e = go (is_average_lem e) m.second m.main m.military
  where
    go : (a b c d : Bool) → bit 0 (cond a 1 0 + (cond b 2 0 + (cond c 0 4 + cond d 8 0))) ≡ a
    go true true true true = refl
    go true true true false = refl
    go true true false true = refl
    go true true false false = refl
    go true false true true = refl
    go true false true false = refl
    go true false false true = refl
    go true false false false = refl
    go false true true true = refl
    go false true true false = refl
    go false true false true = refl
    go false true false false = refl
    go false false true true = refl
    go false false true false = refl
    go false false false true = refl
    go false false false false = refl

reply_facts : (set : Settings) → Allowed set → (r : Reply) → Ranged r → ReplyFacts set r
unfolding agrees
reply_facts set ok r h =
    let i = in_range r h in
    let k = r.reference.n - 1 in
    record {
      n-least = h.least;
      n-most = i.n;
      s-most = i.s;
      reference = i.reference;
      code = i.code;
      confidence = i.confidence;
      averaged = average-bit r.marks r.reference.estimate ∙ h.averages;
      whole = h.whole;
      exact = h.exact;
      agrees =
          λ v l.
          let z : v * 2 ^ k + set.window * 2 ^ k ≡ (v + set.window) * 2 ^ k = omega arith in
          near-exact k h.whole v set.window (level r.reference.estimate) (omega (arith, i.n)) h.bounded l ok.window h.exact
          ∙ ap (λ (x : ℕ). leb h.whole x && leb (v * 2 ^ k) (h.whole + set.window * 2 ^ k)) z;
    }

module _ (set : Settings) (ok : Allowed set) (T : Trace) where
  -- ---- a reply's F1 is 168 ticks or more before the end

  record Early (r : Reply) : Type 0 where
    early : f1 r + 168 ≤ length T.flags

  early_tick : (r : Reply) (t : Tick) → r.f1 ≡ t → t.0 + 168 ≤ length T.flags → Early r
  early_tick r t e h = record { early = subst (λ (x : Tick). x.0 + 168 ≤ length T.flags) (sym e) h }

  framed_early : (u : ℕ) (f : Pulse) → Framing (given set T) u f → u + 168 ≤ length T.flags
  framed_early u f (at168 p q) = omega (arith, edge-end set ok T (u + 168) p)
  framed_early u f (at167 p q) = omega (arith, edge-end set ok T (u + 167) p)
  framed_early u f (at169 p q) = omega (arith, edge-end set ok T (u + 169) p)

  early_each : (n : ℕ) → Each Early (after ◌+◌ (given set T) n)
  early_each =
      each Early (given set T)
      (λ u other r h. early_tick (hear ◌+◌ set (edge_at set T u).pulse other r) r.f1 (hear-f1 set (edge_at set T u).pulse other r) h.early)
      (λ u s f b ks x.
      early_tick (opened (edge_at set T u).pulse f ks) (edge_at set T u).pulse.tick (opened-f1 (edge_at set T u).pulse f ks)
      (subst (λ (v : ℕ). v + 168 ≤ length T.flags) (sym ((edge_timed set T).tick u)) (framed_early u f (framing (given set T) u f b))))

  pub all_early : All (λ r. f1 r + 168 ≤ length T.flags) (replies (final set T))
  unfolding final
  all_early =
      all_map Early (λ r. f1 r + 168 ≤ length T.flags) (λ r h. h.early) (replies (after ◌+◌ (given set T) (length T.flags)))
      (each_replies Early (after ◌+◌ (given set T) (length T.flags)) (early_each (length T.flags)))

  -- ---- ranges

  -- the value of every edge is a byte
  module _ (bytes : All (λ v. v ≤ 255) T.values) where
    pub value_byte : (u : ℕ) → (edge_at set T u).pulse.value ≤ 255
    unfolding edge_at
    value_byte u = go T.values (u + 1) bytes
      where
        go : (l : List ℕ) (n : ℕ) → All (λ v. v ≤ 255) l → get_or l n 0 ≤ 255
        go [] n h = omega arith
        go (v ∷ l) zero h = h.0
        go (v ∷ l) (suc n) h = go l n h.1

    pub framed_byte : (u : ℕ) (f : Pulse) → Framing (given set T) u f → f.value ≤ 255
    framed_byte u f (at168 p q) = rw q (value_byte (u + 168))
    framed_byte u f (at167 p q) = rw q (value_byte (u + 167))
    framed_byte u f (at169 p q) = rw q (value_byte (u + 169))

    pub ranged_each : (n : ℕ) → Each Ranged (after ◌+◌ (given set T) n)
    ranged_each =
        each Ranged (given set T) (λ u other r h. ranged-hear set (edge_at set T u).pulse other r (value_byte u) h)
        (λ u s f b ks x. ranged-opened (edge_at set T u).pulse f ks (value_byte u) (framed_byte u f (framing (given set T) u f b)))

    -- N of 1 to 16, S at most 4,080, code and confidence without bit 15, a reference from 0 to 255
    pub all_in_range : All InRange (replies (final set T))
    unfolding final
    all_in_range =
        all_map Ranged InRange in_range (replies (after ◌+◌ (given set T) (length T.flags)))
        (each_replies Ranged (after ◌+◌ (given set T) (length T.flags)) (ranged_each (length T.flags)))

    -- all that is known of each
    pub all_facts : All (ReplyFacts set) (replies (final set T))
    unfolding final
    all_facts =
        all_map Ranged (ReplyFacts set) (reply_facts set ok) (replies (after ◌+◌ (given set T) (length T.flags)))
        (each_replies Ranged (after ◌+◌ (given set T) (length T.flags)) (ranged_each (length T.flags)))

-- ---- where F2 is the reference, F2 has M

pub record Clear (r : Reply) : Type 0 where
  pub clear : r.marks.second ≡ true → r.marks.main ≡ true

-- a bracket that opens has a framing pulse with M that is uncovered
opens-clear : (a c d : Bool) → fate_by a c d ≡ Opens → c ≡ true
opens-clear false c d e = absurd (let z : ◌≡◌ {A = ℕ} 0 1 = cc in omega arith)
opens-clear true true d e = refl
opens-clear true false d e = absurd (let z : ◌≡◌ {A = ℕ} 0 1 = cc in omega arith)

second-main : (m n covered b : Bool) → (m && not covered || n && b) ≡ true → covered ≡ true → n ≡ true
second-main m n false b h e = absurd (impossible (sym e))
second-main false true true b h e = refl
second-main true true true b h e = refl
second-main false false true b h e = absurd (impossible (sym h))
second-main true false true b h e = absurd (impossible (sym h))

clear-opened : (e f : Pulse) (ks : List Reply) → fate e f ks ≡ Opens → Clear (opened e f ks)
unfolding fate clear opened opened_by_lem
clear-opened e f ks x = record { clear = go (any (covers e.tick.0) ks) refl }
  where
    free : Bool
    free = not (any (covers f.tick.0) ks)

    go : (b : Bool) → any (covers e.tick.0) ks ≡ b → b ≡ true → (cond b f e).main ≡ true
    go false q h = absurd (impossible (sym h))
    go true q h =
        second-main e.main f.main (any (covers e.tick.0) ks) free (opens-clear (e.main || f.main) _ (leb 4 (length ks)) x) q

clear-hear : (set : Settings) (e : Pulse) (other : Bool) (r : Reply) → Clear r → Clear (hear ◌+◌ set e other r)
unfolding hear
clear-hear set e other r h = go (takes (position (f1 r) e.tick.0) r.word.settled)
  where
    go : (b : Bool) → Clear (cond b (heard_at ◌+◌ (position (f1 r) e.tick.0) e (verdict e.main (agrees set e.value r) other) r) r)
    go true = record { clear = h.clear }
    go false = h

-- so flag bits 1 and 2 are never both set
pub all-clear : (set : Settings) (T : Trace) → All Clear (replies (final set T))
unfolding final
all-clear set T =
    let n = length T.flags in
    each_replies Clear (after ◌+◌ (given set T) n)
    (each Clear (given set T) (λ u other r h. clear-hear set (edge_at set T u).pulse other r h) (λ u s f b ks x. clear-opened (edge_at set T u).pulse f ks x) n)
