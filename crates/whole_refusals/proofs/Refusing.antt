-- A whole sweep in one call: the first refusal that holds, test by test.
use Rattle.std.specs.Prelude.{Result, Ok, Err, IsErr, IsErrAnd}
use Prim.Native.Nat.{ℕ, ◌≤◌, ◌<◌}
use mathlib.Core.Path.{◌≡◌, sym, ap, ◌∙◌}
use mathlib.Core.Bool.{true, false}
use lib.ListN.{length}
use borrow.Author.Tests.{lt-leb, le-leb, lt-ltb, le-ltb, eq-eqb, ne_eqb}
use Rattle.rules.specs.declared.Opening.{Opening}
use Rattle.rules.specs.Lists.{any}
use Rattle.rules.specs.Samples.{Trace, bad}
use Rattle.rules.specs.Records.{totals_size}
use Rattle.rules.specs.declared.Refusal.{Refusal}
use Rattle.rules.specs.declared.Refusal.TheVariants.{Unequal, PieceLength, SweepLength, NoRoom, BadFlag}
use Rattle.rules.specs.Calls.{Answer, answer_from, accepted, refused, first_of, open_checks, open_answer}
use Rattle.rules.proofs.Checks.{first_past, first-before}
use Rattle.whole_refusals.specs.Whole.{whole_room_lem, lent_checks, whole_answer}

-- a refusal that `?` hands on is the answer
pub handed_on : (x : Result Unit Refusal) (r : Refusal) → IsErr x × IsErrAnd x (λ e. e ≡ r) → answer_from x ≡ refused r
handed_on (Ok _) r h = absurd h.1
handed_on (Err _) r h = ap refused h.1

module _ (ω : Opening) (T : Trace) (piece room totalsRoom : ℕ) where
  -- the opening is refused
  pub opening-refused : (r : Refusal) → refused r ≡ open_answer ω → refused r ≡ whole_answer ω T piece room totalsRoom
  unfolding open_answer whole_answer
  opening-refused r e = sym (first-before (open_checks ω) (lent_checks T piece room totalsRoom) r (sym e))

  -- or not
  pub opening-passed : (v : Answer) → accepted ≡ open_answer ω → v ≡ first_of (lent_checks T piece room totalsRoom)
      → v ≡ whole_answer ω T piece room totalsRoom
  unfolding open_answer whole_answer
  opening-passed v e h = h ∙ sym (first_past (open_checks ω) (lent_checks T piece room totalsRoom) (sym e))

module _ (T : Trace) (piece room totalsRoom : ℕ) where
  -- the answer that what is lent gives
  abbrev pub Gives : Answer → Type 0
  Gives v = v ≡ first_of (lent_checks T piece room totalsRoom)

  pub gives_4 : (length T.flags ≡ length T.values → ⊥) → Gives (refused Unequal)
  gives_4 h = rw (ne_eqb (length T.flags) (length T.values) h)

  module _ (e : length T.flags ≡ length T.values) where
    pub gives_5_low : piece < 1 → Gives (refused PieceLength)
    gives_5_low h = rw (eq-eqb (length T.flags) (length T.values) e, lt-leb 1 piece h)

    module _ (p₁ : 1 ≤ piece) where
      pub gives_5_high : 4096 < piece → Gives (refused PieceLength)
      gives_5_high h = rw (eq-eqb (length T.flags) (length T.values) e, le-leb 1 piece p₁, lt-leb piece 4096 h)

      module _ (p₂ : piece ≤ 4096) where
        pub gives_6 : 32768 < length T.flags → Gives (refused SweepLength)
        gives_6 h = rw (eq-eqb (length T.flags) (length T.values) e, le-leb 1 piece p₁, le-leb piece 4096 p₂, lt-ltb 32768 (length T.flags) h)

        module _ (s : length T.flags ≤ 32768) where
          pub gives_7 : room < whole_room_lem (length T.flags) → Gives (refused NoRoom)
          gives_7 h =
              rw (
                eq-eqb (length T.flags) (length T.values) e,
                le-leb 1 piece p₁,
                le-leb piece 4096 p₂,
                le-ltb 32768 (length T.flags) s,
                lt-ltb room (whole_room_lem (length T.flags)) h,
              )

          module _ (r : whole_room_lem (length T.flags) ≤ room) where
            pub gives_7_totals : totalsRoom < totals_size → Gives (refused NoRoom)
            gives_7_totals h =
                rw (
                  eq-eqb (length T.flags) (length T.values) e,
                  le-leb 1 piece p₁,
                  le-leb piece 4096 p₂,
                  le-ltb 32768 (length T.flags) s,
                  le-ltb room (whole_room_lem (length T.flags)) r,
                  lt-ltb totalsRoom totals_size h,
                )

            module _ (t : totals_size ≤ totalsRoom) where
              pub gives_8 : any bad T.flags ≡ true → Gives (refused BadFlag)
              gives_8 h =
                  rw (
                    eq-eqb (length T.flags) (length T.values) e,
                    le-leb 1 piece p₁,
                    le-leb piece 4096 p₂,
                    le-ltb 32768 (length T.flags) s,
                    le-ltb room (whole_room_lem (length T.flags)) r,
                    le-ltb totalsRoom totals_size t,
                    h,
                  )

              pub gives_none : any bad T.flags ≡ false → Gives accepted
              gives_none h =
                  rw (
                    eq-eqb (length T.flags) (length T.values) e,
                    le-leb 1 piece p₁,
                    le-leb piece 4096 p₂,
                    le-ltb 32768 (length T.flags) s,
                    le-ltb room (whole_room_lem (length T.flags)) r,
                    le-ltb totalsRoom totals_size t,
                    h,
                  )
