-- The bytes that are kept of a buffer.
use Rattle.std.proofs.Common.{◌≡◌, ℕ, ◌+◌, ◌-◌, ◌≤◌, List, length, take, drop, sym, ap, ◌∙◌, arith, length-drop, length-take-le, get_or-drop, take-add, drop_at}
use Rattle.ends.specs.Ends.{LinePast}

-- ---- the bytes kept

-- those from a place on of the first n bytes
pub part_of : (from n : ℕ) (input : List ℕ) → from ≤ n → n ≤ length input → drop from (take n input) ≡ take (n - from) (drop from input)
part_of from n input l h =
    ap (λ (x : ℕ). drop from (take x input)) {x = n} {y = from + (n - from)} (omega arith)
    ∙ ap (drop from) (take-add from (n - from) input)
    ∙ drop_at (take from input) (take (n - from) (drop from input)) from (length-take-le from input (omega arith))

-- where no line ends behind a place, none does in the bytes from there on
pub past-part : (input : List ℕ) (from : ℕ) → from ≤ length input → LinePast input from → LinePast (drop from input) 0
past-part input from l h =
    let size = length-drop from input in
    record {
      short = omega (arith, size, h.short);
      before = record { none = λ k a b e. h.before.none (from + k) (omega arith) (omega (arith, size)) (sym (get_or-drop from input k 0) ∙ e) };
    }
