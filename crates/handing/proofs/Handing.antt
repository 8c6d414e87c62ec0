-- Handing out: a place's reply is written once it is no longer open. The replies stand in order of F1, so where the first is open still, all are.
use Prim.Native.Nat.{ℕ, ◌+◌, ◌≤◌, ◌<◌}
use native.Mathlib.Omega.{arith}
use mathlib.Core.Path.{◌≡◌, refl, sym, ap, ◌∙◌}
use mathlib.Core.Bool.{true, false}
use mathlib.Core.List.{List, [], ◌∷◌, ◌++◌, append-nil}
use lib.ListN.{length}
use Rattle.rules.specs.declared.Reply.{Reply}
use Rattle.rules.specs.declared.Slot.{Slot}
use Rattle.rules.specs.declared.Slot.TheVariants.{Idle, Open}
use Rattle.rules.specs.Lists.{All}
use Rattle.rules.specs.Replies.{f1, ended}
use Rattle.rules.specs.Machine.{State}
use Rattle.rules.specs.Records.{record_of, records, replies, record_size}
use Rattle.rules.proofs.ListLaws.{all_map}
use Rattle.rules.proofs.Order.{Rising, rising_all, Ordered, ended_earlier}
use Rattle.places.specs.Places.{test, placed}
use Rattle.rules.specs.Buffers.{over-at}
use Rattle.handing.specs.Post.{due_slot, HandedPost, InOrder, Queue}
use Rattle.rules.proofs.Buffers.{over-at-nil}

-- ---- one place

module _ (u at : ℕ) (b : List ℕ) where
  stay : (n : ℕ) → HandedPost n [] at b at b
  unfolding records
  stay n =
      record {
        from = omega arith;
        most = omega arith;
        inside = λ h. h;
        place = λ h. omega arith;
        buffer = λ h. sym (over-at-nil at b);
        short = λ h. refl;
        unwritten = λ h. refl;
      }

  module _ (s : Slot) where
    pub hand_idle : s ≡ Idle → HandedPost 1 (due_slot u s) at b at b
    hand_idle e = rw e (stay 1)

    module _ (r : Reply) (e : s ≡ Open r) where
      pub hand_open : ended u r ≡ false → HandedPost 1 (due_slot u s) at b at b
      hand_open n = rw (e, n) (stay 1)

      pub hand_short : ended u r ≡ true → length b < at + record_size → HandedPost 1 (due_slot u s) at b at b
      hand_short n l =
          rw (e, n)
          (record {
            from = omega arith;
            most = omega arith;
            inside = λ h. h;
            place = λ h. absurd (omega arith);
            buffer = λ h. absurd (omega arith);
            short = λ h. refl;
            unwritten = λ h. refl;
          })

      pub hand_done : ended u r ≡ true → at + record_size ≤ length b → (b' : List ℕ) → b' ≡ over-at (record_of r) at b → HandedPost 1 (due_slot u s) at b (at + record_size) b'
      unfolding records
      hand_done n l b' w =
          rw (e, n)
          (record {
            from = omega arith;
            most = omega arith;
            inside = λ h. omega arith;
            place = λ h. omega arith;
            buffer = λ h. w ∙ ap (λ (x : List ℕ). over-at x at b) (sym (append-nil (record_of r)));
            short = λ h. absurd (omega arith);
            unwritten = λ h. absurd (omega arith);
          })

-- a reply that is open still: so are those after it
none-due : (u : ℕ) (r : Reply) (l : List Reply) → InOrder (r ∷ l) → ended u r ≡ false → All (λ x. ended u x ≡ false) (r ∷ l)
none-due u r l o e = (e, all_map (λ x. f1 r ≤ f1 x) (λ x. ended u x ≡ false) (λ x h. (ended_earlier u).earlier r x h e) l o.0)

pub all-open : (u : ℕ) (l : List Reply) → InOrder l → test (ended u) (placed l).p0 ≡ false → All (λ x. ended u x ≡ false) l
all-open u [] o e = tt
all-open u (r ∷ l) o e = none-due u r l o e

-- ---- replies after any number of ticks stand in order

rising_order : (t u : ℕ) (l : List Reply) → Rising t u l → InOrder l
rising_order t u [] h = tt
rising_order t u (r ∷ l) h =
    (all_map (λ x. (f1 r + 1 ≤ f1 x) × (f1 x < u)) (λ x. f1 r ≤ f1 x) (λ x k. omega (arith, k.0)) l (rising_all (f1 r + 1) u l h.1), rising_order (f1 r + 1) u l h.1)

order-behind : (d l : List Reply) → InOrder (d ++ l) → InOrder l
order-behind [] l h = h
order-behind (x ∷ d) l h = order-behind d l h.1

pub ordered_queue : (n : ℕ) (s : State) → Ordered n s → Queue s
ordered_queue n s h = record { four = h.four; order = order-behind s.done s.live (rising_order 0 n (replies s) h.rising) }
