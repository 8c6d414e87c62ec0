-- A list cut into chunks.
use Prim.Native.Nat.{ℕ, zero, suc, ◌+◌, ◌*◌, ◌<◌}
use native.Mathlib.Omega.{arith}
use mathlib.Core.Path.{◌≡◌, ap, ◌∙◌}
use mathlib.Core.List.{List, []}
use lib.ListN.{get_or, take, drop}
use lib.Seq.{drop-drop}
use Rattle.std.specs.Simd.{first_chunks}

-- chunk j of k, of m elements each
pub chunk-at : (m k j : ℕ) (l : List ℕ) → j < k → get_or (first_chunks m k l) j [] ≡ take m (drop (m * j) l)
chunk-at m zero j l h = absurd (omega arith)
chunk-at m (suc k) zero l h = let e : 0 ≡ m * 0 = omega arith in ap (λ (i : ℕ). take m (drop i l)) e
chunk-at m (suc k) (suc j) l h =
    let e : m + m * j ≡ m * suc j = omega arith in
    chunk-at m k j (drop m l) (omega arith) ∙ ap (take m) (drop-drop (m * j) m l ∙ ap (λ (i : ℕ). drop i l) e)
