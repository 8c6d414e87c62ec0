-- What is printed of the bytes that were read, and what is kept of them.
use Rattle.std.specs.Prelude.{◌≡◌, ℕ, ◌-◌, ◌≤◌, Bool, true, false, List, [], ◌++◌, length, take, drop, Result, Ok, Err, IfOk, IfErr, MatchResult}
use Rattle.processor.specs.declared.Processor.{Processor}
use Rattle.processor.specs.State.{Sweep, Made}
use Rattle.ends.specs.Ends.{LinePast}
use Rattle.lines.specs.declared.scan.Scan.{Scan}
use Rattle.lines.specs.declared.scan.Scan.TheVariants.{Rest, Stopped, Full as NoPlace}
use Rattle.lines.specs.declared.scan.Scanned.{Scanned}
use Rattle.lines.specs.Survey.{lines_in, surveyed}
use Rattle.rules.specs.declared.Refusal.{Refusal}
use Rattle.rules.specs.declared.Refusal.TheVariants.{Malformed}
use Rattle.steps.specs.Outcomes.{stops, printed}
use Rattle.lines.specs.Post.{afterwards}
use Rattle.carrying.specs.Failing.{Failing}
use Rattle.carrying.specs.declared.Headway.{Headway}
use Rattle.carrying.specs.declared.Stop.{Stop}
use Rattle.carrying.specs.declared.Stop.TheVariants.{Refused, Unread, CannotRead, CannotWrite, NoRoom}
use Rattle.carrying.specs.declared.Survey.{Survey}

-- ---- what is printed

-- what may come behind bytes of input: anything, and nothing at its end
abbrev pub Behind : Bool → List ℕ → Type 0
Behind false R = Unit {0}
Behind true R = R ≡ []

-- From the sweep σ on, the bytes `held` are carried out up to `rest`, with p the processor of the sweep `next` then: whatever comes behind, what the
-- survey prints for it all is `new`, and then, unless it has stopped, what it prints for the rest.
pub record Carries (σ : Sweep) (held : List ℕ) (complete : Bool) (scan : Scan) (p : Processor) (rest new : List ℕ) : Type 0 where
  pub next : Sweep
  pub made : Made next p
  pub same : (R : List ℕ) → Behind complete R → surveyed (lines_in (held ++ R)) σ ≡ new ++ afterwards scan (lines_in (rest ++ R)) next

-- whether a survey goes on after a scan
abbrev pub goes_on_after : Scan → Bool
goes_on_after Rest = true
goes_on_after NoPlace = true
goes_on_after (Stopped k) = false

-- how far a scan came
abbrev pub headway_of : Scanned → Headway
headway_of r = record { processor = r.processor; from = r.from; goes_on = goes_on_after r.scan }

-- a scan after which it goes on, or has stopped; which refusal stopped it changes nothing of what is printed then (`afterwards`)
abbrev pub scan_of : Bool → Scan
scan_of true = Rest
scan_of false = Stopped Malformed

-- The bytes that may be printed: just those of the lines that r says were carried out, from the processor p and the place `from` on.
pub record Prints (p : Processor) (input : List ℕ) (from : ℕ) (complete : Bool) (r : Headway) (bytes : List ℕ) : Type 0 where
  pub carries : (σ : Sweep) → Made σ p → Carries σ (drop from input) complete (scan_of r.goes_on) r.processor (drop r.from input) bytes

-- what a survey stops for without a refusal
abbrev pub Fails : Stop → Type 0
Fails (Refused k used) = ⊥
Fails Unread = Failing
Fails (CannotRead e) = Failing
Fails (CannotWrite e) = Failing
Fails NoRoom = Failing

-- it stops for a failed write alone
pub record PrintPost (r : Result (Unit {0}) Stop) : Type 0 where
  pub failing : IfErr r Fails

-- ---- what is carried out

-- what was printed ends in the line of the refusal k
pub record EndsIn (k : Refusal) (new : List ℕ) : Type 0 where
  pub before : List ℕ
  pub last : new ≡ before ++ printed (stops k)

-- one scan: `new` was printed; if the lines are at their end, the rest holds no whole one; if a refusal stopped them, its line is the last
pub record Passed (p : Processor) (input : List ℕ) (from : ℕ) (r : Scanned) : Type 0 where
  pub reach : r.from ≤ length input
  pub past : (σ : Sweep) → Made σ p → r.scan ≡ Rest → LinePast input r.from
  pub new : (σ : Sweep) → Made σ p → List ℕ
  pub carries : (σ : Sweep) (m : Made σ p) → Carries σ (drop from input) false r.scan r.processor (drop r.from input) (new σ m)
  pub stopped : (σ : Sweep) (m : Made σ p) (k : Refusal) → r.scan ≡ Stopped k → EndsIn k (new σ m)

abbrev pub PassPost : Processor → List ℕ → ℕ → Result Scanned Stop → Type 0
PassPost p input from r = MatchResult r (Passed p input from) Fails

-- A survey that is refused printed all there is, whatever comes behind, and last the line of this refusal; of one that a failed write ended nothing is
-- known.
abbrev pub Stops : Stop → Sweep → List ℕ → List ℕ → Type 0
Stops (Refused k used) σ held new = ((R : List ℕ) → surveyed (lines_in (held ++ R)) σ ≡ new) × EndsIn k new
Stops Unread σ held new = Failing
Stops (CannotRead e) σ held new = Failing
Stops (CannotWrite e) σ held new = Failing
Stops NoRoom σ held new = Failing

-- What is known of the bytes held, those kept and those printed. A survey that goes on has carried out all whole lines.
abbrev pub Left : Result Survey Stop → Sweep → List ℕ → List ℕ → List ℕ → Type 0
Left (Ok s) σ held input new = LinePast (take s.kept input) 0 × Carries σ held false Rest s.processor (take s.kept input) new
Left (Err x) σ held input new = Stops x σ held new

-- all lines of the bytes held: what is left is at the start of the input buffer
pub record CarriedPost (p : Processor) (held : List ℕ) (r : Result Survey Stop) (input : List ℕ) : Type 0 where
  pub inside : IfOk r (λ s. s.kept ≤ length input)
  pub new : (σ : Sweep) → Made σ p → List ℕ
  pub left : (σ : Sweep) (m : Made σ p) → Left r σ held input (new σ m)

-- the bytes between two places are at the start of the input buffer
pub record ToStartPost (from to : ℕ) (input : List ℕ) (r : ℕ) (input' : List ℕ) : Type 0 where
  pub count : r ≡ to - from
  pub moved : take (to - from) input' ≡ take (to - from) (drop from input)
