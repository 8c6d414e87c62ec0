-- However the input is cut into reads: each scan's contract holds whatever comes behind its input, so the scans fit end to end.
use Prim.Native.Nat.{ℕ, ◌+◌, ◌-◌, ◌≤◌}
use native.Mathlib.Omega.{arith}
use mathlib.Core.Path.{◌≡◌, refl, sym, ap, ap₂, ◌∙◌, subst}
use mathlib.Core.List.{List, [], ◌∷◌, ◌++◌, append_assoc, append-nil}
use lib.ListN.{length, take, drop}
use lib.Seq.{take-append_seam, drop_at, length-take-le}
use Rattle.rules.specs.Buffers.{over-at}
use Rattle.processor.specs.declared.Processor.{Processor}
use Rattle.processor.specs.State.{Sweep, none, idle_processor, processor_of, Made}
use Rattle.lines.specs.declared.scan.Scan.{Scan}
use Rattle.rules.specs.declared.Refusal.{Refusal}
use Rattle.lines.specs.declared.scan.Scan.TheVariants.{Rest, Stopped, Full as NoRoom}
use Rattle.lines.specs.declared.scan.Scanned.{Scanned}
use Rattle.lines.specs.Survey.{lines_in, surveyed, survey}
use Rattle.lines.specs.Post.{afterwards, Scans}
use Rattle.lines.specs.Whole.{Turn, turn, Then, Chain, all_read, all_printed, last_scan, last_processor, last_held, AnyCutting}

-- what was printed, read back from the output
pub read_back : (new : List ℕ) (at place : ℕ) (b b' : List ℕ) → at ≤ length b → place ≡ at + length new → b' ≡ over-at new at b → take (place - at) (drop at b') ≡ new
unfolding over-at
read_back new at place b b' h e is =
    ap₂ (λ (n : ℕ) (x : List ℕ). take n (drop at x)) {x = place - at} {y = length new} (omega (arith, e)) (is ∙ append_assoc (take at b) new (drop (at + length new) b))
    ∙ ap (take (length new)) (drop_at (take at b) (new ++ drop (at + length new) b) at (length-take-le at b h))
    ∙ take-append_seam new (drop (at + length new) b)

-- the survey has not stopped
abbrev Open : Scan → Type 0
Open Rest = Unit {0}
Open NoRoom = Unit {0}
Open (Stopped k) = ⊥

on_goes : (s : Scan) → Open s → (ls : List (List ℕ)) (σ : Sweep) → surveyed ls σ ≡ afterwards s ls σ
on_goes Rest o ls σ = refl
on_goes NoRoom o ls σ = refl
on_goes (Stopped k) o ls σ = absurd o

-- from a sweep on, with bytes held, after a scan that ended with s
record From (p : Processor) (held : List ℕ) (σ : Sweep) (s : Scan) (ts : List Turn) : Type 0 where
  next : Sweep
  made : Made next (last_processor p ts)
  same : (R : List ℕ) → surveyed (lines_in (held ++ (all_read ts ++ R))) σ ≡ all_printed ts ++ afterwards (last_scan s ts) (lines_in (last_held held ts ++ R)) next

-- the bytes read by a scan and by the later ones
regroup : (held new more R : List ℕ) → held ++ ((new ++ more) ++ R) ≡ (held ++ new) ++ (more ++ R)
regroup held new more R = ap (λ (x : List ℕ). held ++ x) (append_assoc new more R) ∙ sym (append_assoc held new (more ++ R))

module _ (p : Processor) (held new input : List ℕ) (from at : ℕ) (b : List ℕ) (r : Scanned) (b' : List ℕ) (σ : Sweep) (is : drop from input ≡ held ++ new)
    (place : at ≤ length b) (d : Scans σ input from at b r b') where
  abbrev shown : List ℕ
  shown = take (r.at - at) (drop at b')

  -- what the scan did, whatever comes behind
  one : (X : List ℕ) → surveyed (lines_in ((held ++ new) ++ X)) σ ≡ shown ++ afterwards r.scan (lines_in (drop r.from input ++ X)) d.next
  one X =
      ap (λ (x : List ℕ). surveyed (lines_in (x ++ X)) σ) (sym is) ∙ d.same X
      ∙ ap (λ (x : List ℕ). x ++ afterwards r.scan (lines_in (drop r.from input ++ X)) d.next) (sym (read_back d.new at r.at b b' place d.place d.output))

  -- it goes on, and then come the others
  going : (s : Scan) (ts : List Turn) → Open r.scan → From r.processor (drop r.from input) d.next r.scan ts → From p held σ s (turn new input from at b r b' ∷ ts)
  going s ts o f =
      record {
        next = f.next;
        made = f.made;
        same = λ R.
            ap (λ (x : List ℕ). surveyed (lines_in x) σ) (regroup held new (all_read ts) R)
            ∙ one (all_read ts ++ R)
            ∙ ap (λ (x : List ℕ). shown ++ x) (sym (on_goes r.scan o (lines_in (drop r.from input ++ (all_read ts ++ R))) d.next) ∙ f.same R)
            ∙ sym (append_assoc shown (all_printed ts) (afterwards (last_scan r.scan ts) (lines_in (last_held (drop r.from input) ts ++ R)) f.next));
      }

  -- a refusal is the end
  stopping : (s : Scan) (k : Refusal) → r.scan ≡ Stopped k → From p held σ s (turn new input from at b r b' ∷ [])
  stopping s k e =
      record {
        next = d.next;
        made = d.made;
        same = λ R.
            ap (λ (x : List ℕ). surveyed (lines_in x) σ) (regroup held new [] R)
            ∙ one R
            ∙ ap (λ (x : List ℕ). x ++ afterwards r.scan (lines_in (drop r.from input ++ R)) d.next) (sym (append-nil shown));
      }

from-any : (ts : List Turn) (p : Processor) (held : List ℕ) (σ : Sweep) (s : Scan) → Open s → Made σ p → Chain p held ts → From p held σ s ts
from-any [] p held σ s o m c =
    record { next = σ; made = m; same = λ R. on_goes s o (lines_in (held ++ R)) σ }
from-any (turn new input from at b r b' ∷ ts) p held σ s o m c =
    go r.scan refl c.3 (λ x y. from-any ts r.processor (drop r.from input) (c.2.scans σ m).next r.scan x (c.2.scans σ m).made y)
  where
    d : Scans σ input from at b r b'
    d = c.2.scans σ m

    go : (x : Scan) → r.scan ≡ x → Then x ts (Chain r.processor (drop r.from input) ts)
        → (Open r.scan → Chain r.processor (drop r.from input) ts → From r.processor (drop r.from input) d.next r.scan ts)
        → From p held σ s (turn new input from at b r b' ∷ ts)
    go Rest e t others =
        let o' : Open r.scan = subst Open (sym e) tt in
        going p held new input from at b r b' σ c.0 c.1 d s ts o' (others o' t)
    go NoRoom e t others =
        let o' : Open r.scan = subst Open (sym e) tt in
        going p held new input from at b r b' σ c.0 c.1 d s ts o' (others o' t)
    go (Stopped k) e t others =
        subst (λ (x : List Turn). From p held σ s (turn new input from at b r b' ∷ x)) (sym t)
        (stopping p held new input from at b r b' σ c.0 c.1 d s k e)

idle-made : Made none idle_processor
unfolding processor_of
idle-made = record { is = refl; sound = tt }

pub any-cutting : AnyCutting
unfolding survey
any-cutting ts c =
    let f = from-any ts idle_processor [] none Rest tt idle-made c in
    record { next = f.next; made = f.made; same = f.same }
