-- What a close returns.
use Prim.Native.Nat.{◌-◌, ◌<◌}
use native.Mathlib.Omega.{arith}
use mathlib.Core.Path.{◌≡◌}
use Rattle.rules.specs.declared.Counts.{Counts}
use Rattle.rules.specs.declared.Totals.{Totals}
use Rattle.processor.specs.declared.Processor.{Processor}
use Rattle.processor.specs.State.{idle_processor}
use Rattle.calls.specs.Answers.{Answer}
use Rattle.calls.specs.declared.Closed.{Closed}
use Rattle.calls.specs.Post.{totals_from}

pub closed_law : (a : Answer) (x : Totals) (q : Processor) (t : Totals) → x ≡ t → q ≡ idle_processor
    → ◌≡◌ {A = Closed} (record { answer = a; totals = x; processor = q }) (record { answer = a; totals = t; processor = idle_processor })
closed_law a x q t e f = λ i. record { answer = a; totals = e i; processor = f i }

-- more phantoms than replies opened: no calls make such counts
pub no-replies : (c : Counts) → c.opened < c.phantoms
    → record { found = c.found; replies = 0; sidelobe = c.sidelobe; garbled = c.garbled; lost = c.lost; phantoms = c.phantoms } ≡ totals_from c
no-replies c h =
    let z : 0 ≡ c.opened - c.phantoms = omega arith in
    λ i. record { found = c.found; replies = z i; sidelobe = c.sidelobe; garbled = c.garbled; lost = c.lost; phantoms = c.phantoms }
