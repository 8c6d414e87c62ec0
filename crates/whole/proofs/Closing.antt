-- The close behind all pieces: the buffer then holds the records of every reply.
use Prim.Native.Nat.{ℕ, ◌+◌, ◌-◌, ◌*◌, ◌/◌, ◌≤◌, min}
use native.Mathlib.Omega.{arith}
use mathlib.Core.Path.{◌≡◌, sym, ap, ap₂, ◌∙◌}
use mathlib.Core.Bool.{true≢false}
use mathlib.Core.List.{List, ◌++◌, append-nil}
use lib.ListN.{length, take, drop, length-drop}
use borrow.Rule.Slice.PartMut.{mid_of, put_mid}
use Rattle.rules.specs.declared.Opening.{Opening}
use Rattle.rules.specs.declared.Totals.{Totals}
use Rattle.rules.specs.Settings.{standard}
use Rattle.rules.specs.Samples.{Trace}
use Rattle.rules.specs.Buffers.{over, over-at}
use Rattle.rules.specs.Records.{records, record_size}
use Rattle.rules.specs.declared.Refusal.{Refusal}
use Rattle.rules.specs.Calls.{accepted, most_left, rest}
use Rattle.rules.proofs.HandingOut.{rest-most}
use Rattle.frames.specs.Writing.{totals_bytes_lem}
use Rattle.std.specs.Prelude.{Ok, Err}
use Rattle.processor.specs.declared.Processor.{Processor}
use Rattle.calls.specs.declared.Closed.{Closed}
use Rattle.processor.specs.State.{running, Made}
use Rattle.calls.specs.Post.{close_as, close_buffer_as, ClosedOpen}
use Rattle.rules.proofs.Answers.{standard_allowed}
use Rattle.whole.specs.Post.{CloseAtPost}
use Rattle.takes.proofs.Pieces.{is_refused, count_in_lem, over-rest, mid_is, post_is}

module _ (p : Processor) (at : ℕ) (b : List ℕ) (here : at ≤ length b) (x : Closed) (m' : List ℕ) (post : ClosedOpen p (mid_of at (length b - at) b) x m') where
  module _ (ω : Opening) (T : Trace) (m : Made (running ω T) p) (room : record_size * length (rest standard T) ≤ length b - at) where
    did : (x ≡ close_as accepted (running ω T)) × (m' ≡ close_buffer_as accepted (running ω T) (mid_of at (length b - at) b))
    did = post.done ω T m (omega (arith, ap length (mid_is at b), length-drop at b))

    is : x ≡ close_as accepted (running ω T)
    is = did.0

    records_are : put_mid at (length b - at) b m' ≡ over-at (records (rest standard T)) at b
    records_are =
        ap₂ (λ (y z : List ℕ). take at b ++ (y ++ z)) (did.1 ∙ ap (over (records (rest standard T))) (mid_is at b)) (post_is at b here)
        ∙ ap (λ (y : List ℕ). take at b ++ y) (append-nil (over (records (rest standard T)) (drop at b)))
        ∙ over-rest (records (rest standard T)) at b

  pub closed-accepted : (c c' : List ℕ) → c' ≡ over (totals_bytes_lem x.totals) c → (n k : ℕ) → x.answer ≡ Ok n → k ≡ min n most_left
      → CloseAtPost p at b c (at / record_size + k) (put_mid at (length b - at) b m') c'
  unfolding count_in_lem
  closed-accepted c c' w n k e q =
      record {
        result = λ ω T m room.
            let count : n ≡ length (rest standard T) = ap count_in_lem (sym e ∙ ap (λ (y : Closed). y.answer) (is ω T m room)) in
            omega (arith, q, count, rest-most standard standard_allowed T);
        record_bytes = records_are;
        total_bytes = λ ω T m room.
            w ∙ ap (λ (y : Totals). over (totals_bytes_lem y) c) (ap (λ (y : Closed). y.totals) (is ω T m room));
      }

  pub closed-refused : (c c' : List ℕ) → (n : Refusal) → x.answer ≡ Err n → CloseAtPost p at b c (at / record_size) (put_mid at (length b - at) b m') c'
  unfolding is_refused
  closed-refused c c' n e =
      record {
        result = λ ω T m room. absurd (never ω T m room);
        record_bytes = λ ω T m room. absurd (never ω T m room);
        total_bytes = λ ω T m room. absurd (never ω T m room);
      }
    where
      never : (ω : Opening) (T : Trace) → Made (running ω T) p → record_size * length (rest standard T) ≤ length b - at → ⊥
      never ω T m room = true≢false (ap is_refused (sym e ∙ ap (λ (y : Closed). y.answer) (is ω T m room)))
