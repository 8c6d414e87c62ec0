-- What is left at the end of the input: bytes without a newline, refused with 9.
use Prim.Native.Nat.{ℕ, ◌+◌, ◌<◌}
use native.Mathlib.Omega.{arith}
use mathlib.Core.Path.{◌≡◌, sym, ap, ap₂, ◌∙◌, subst}
use mathlib.Core.Bool.{Bool, true, false}
use mathlib.Core.List.{List}
use lib.ListN.{length}
use borrow.Author.Tests.{leb-true}
use Rattle.processor.specs.State.{Sweep}
use Rattle.rules.specs.declared.Refusal.TheVariants.{Malformed}
use Rattle.reading.specs.Frames.{reading, refused as unread}
use Rattle.frames.specs.Writing.{refusal_line_lem}
use Rattle.reading.proofs.Sizes.{no_newline}
use Rattle.ends.specs.Ends.{LinePast}
use Rattle.ends.proofs.Newlines.{plain, plain_last}
use Rattle.steps.specs.declared.Step.{Step}
use Rattle.steps.specs.declared.Step.TheVariants.{Stops, Full}
use Rattle.steps.specs.Outcomes.{Outcome, stops, outcome_at, line_at}
use Rattle.steps.specs.Post.{stepped_as, output_as, has_room_lem, StopPost, RestPost, line_most}
use Rattle.steps.proofs.Answering.{Wrote, wrote, write_inside}

pub nine : (σ : Sweep) (l : List ℕ) → reading l ≡ unread Malformed → line_at σ l ≡ stops Malformed
unfolding line_at
nine σ l e = ap (outcome_at σ) e

pub rest_nine : (l : List ℕ) (σ : Sweep) → LinePast l 0 → 0 < length l → line_at σ l ≡ stops Malformed
rest_nine l σ h s = nine σ l (no_newline l (plain_last l (plain l (λ k q e. h.before.none k (omega arith) q e)) s))

-- so that nothing of them, and nothing of the sweep, has to be looked at
module _ (at : ℕ) (b : List ℕ) where
  pub rest_full : has_room_lem at b ≡ false → RestPost at b Full b
  rest_full z =
      record {
        inside = λ h. h;
        result = λ σ p l h s. ap (λ (t : Bool). stepped_as t (line_at σ l) p at) (sym z);
        output = λ σ l h s. ap (λ (t : Bool). output_as t (line_at σ l) at b) (sym z);
      }

  pub rest-stops : has_room_lem at b ≡ true → (s : Step) (b' : List ℕ) → StopPost Malformed at b s b' → RestPost at b s b'
  rest-stops z s b' h =
      subst (λ (x : Step). RestPost at b x b') (sym h.step)
      (record {
        inside = λ l. write_inside (refusal_line_lem 9) at b h.place b' l h.prints;
        result = λ σ p l t q.
            ap (λ (x : ℕ). record { step = Stops Malformed x; processor = p }) done.place
            ∙ ap₂ (λ (t : Bool) (o : Outcome). stepped_as t o p at) (sym z) (sym (rest_nine l σ t q));
        output = λ σ l t q. done.buffer ∙ ap₂ (λ (t : Bool) (o : Outcome). output_as t o at b) (sym z) (sym (rest_nine l σ t q));
      })
    where
      done : Wrote (refusal_line_lem 9) at b h.place b'
      done = wrote (refusal_line_lem 9) at b h.place b' (omega (arith, leb-true (at + line_most) (length b) z)) h.prints
