-- A list of calls with one more at its end.
use mathlib.Core.Path.{◌≡◌, refl, sym, ap, ◌∙◌}
use mathlib.Core.List.{List, [], ◌∷◌, ◌++◌, append-nil, append_assoc}
use Prim.Native.Nat.{ℕ}
use Rattle.rules.specs.declared.Totals.{Totals}
use Rattle.rules.specs.Samples.{Trace, ◌⧺◌}
use Rattle.rules.proofs.Answers.{join_assoc, join_nothing}
use Rattle.processor.specs.declared.Processor.{Processor}
use Rattle.calls.specs.Whole.{Call, request, Bytes, Meets, left, Chain, last, piece, joined_trace, handed_out, all_handed_out, totals_in, all_totals}

pub chain_more : (cs : List Call) (p : Processor) (c : Call) → Chain p cs → Bytes (request c) → Meets (last p cs) c → Chain p (cs ++ (c ∷ []))
chain_more [] p c h b m = (b, m, tt)
chain_more (d ∷ cs) p c h b m = (h.0, h.1, chain_more cs (left d) c h.2 b m)

pub last_more : (cs : List Call) (p : Processor) (c : Call) → last p (cs ++ (c ∷ [])) ≡ left c
last_more [] p c = refl
last_more (d ∷ cs) p c = last_more cs (left d) c

pub joined-more : (cs : List Call) (c : Call) → joined_trace (cs ++ (c ∷ [])) ≡ joined_trace cs ⧺ piece c
joined-more [] c = join_nothing (piece c)
joined-more (d ∷ cs) c = ap (λ (R : Trace). piece d ⧺ R) (joined-more cs c) ∙ sym (join_assoc (piece d) (joined_trace cs) (piece c))

pub handed-more : (cs : List Call) (c : Call) → all_handed_out (cs ++ (c ∷ [])) ≡ all_handed_out cs ++ handed_out c
handed-more [] c = append-nil (handed_out c)
handed-more (d ∷ cs) c = ap (λ (l : List ℕ). handed_out d ++ l) (handed-more cs c) ∙ sym (append_assoc (handed_out d) (all_handed_out cs) (handed_out c))

pub totals-more : (cs : List Call) (c : Call) → all_totals (cs ++ (c ∷ [])) ≡ all_totals cs ++ totals_in c
totals-more [] c = append-nil (totals_in c)
totals-more (d ∷ cs) c = ap (λ (l : List Totals). totals_in d ++ l) (totals-more cs c) ∙ sym (append_assoc (totals_in d) (all_totals cs) (totals_in c))
