-- What the functions of the front answer, for the flags and values that their words belong to.
use Rattle.std.specs.Prelude.{ℕ, ◌+◌, ◌-◌, ◌≤◌, ◌<◌, Bool, cond, ◌&&◌, List, ◌++◌, ◌≡◌, leb, eqb, length, get_or}
use Rattle.rules.specs.Samples.{Trace, A, P, N, M}
use Rattle.packing.specs.declared.Planes.{Planes}
use Rattle.plane.specs.Words.{bit}
use Rattle.front.specs.declared.words.Front.{Front}
use Rattle.front.specs.Words.{front_of, recent_of}

-- the low bits of the planes x are those of the flags G
pub record Low (G : List ℕ) (x : Planes) : Type 0 where
  pub a : (m : ℕ) → m < length G → bit x.a m ≡ A G m
  pub p : (m : ℕ) → m < length G → bit x.p m ≡ P G m
  pub n : (m : ℕ) → m < length G → bit x.n m ≡ N G m
  pub m : (m : ℕ) → m < length G → bit x.m m ≡ M G m

-- the words after r ticks more
pub record AdvancePost (f : Front) (x : Planes) (r : ℕ) (f' : Front) : Type 0 where
  pub result : (F G : List ℕ) → f ≡ front_of F → length G ≡ r → Low G x → f' ≡ front_of (F ++ G)

-- all words are 0
abbrev pub blank : Front → Bool
blank f =
    eqb f.a 0 && (eqb f.a1 0 && (eqb f.p 0 && (eqb f.p1 0 && (eqb f.n 0 && (eqb f.n1 0
    && (eqb f.l 0 && (eqb f.l1 0 && (eqb f.k 0 && (eqb f.k1 0 && (eqb f.h 0 && (eqb f.h1 0
    && (eqb f.e 0 && (eqb f.e1 0 && (eqb f.e2 0 && (eqb f.e3 0 && (eqb f.m 0 && (eqb f.m1 0
    && (eqb f.m2 0 && (eqb f.m3 0)))))))))))))))))))

-- ---- values

-- the value of tick t, where `base` ticks were taken before the piece: from the piece, or from the values before it
unfoldable pub value_of : List ℕ → ℕ → List ℕ → ℕ → ℕ
value_of recent base values t =
    cond (leb base t) (get_or values (t - base) 0) (cond (leb base (t + 256)) (get_or recent (t + 256 - base) 0) 0)

-- the values of the last 256 ticks once the piece is taken
pub record KeepPost (recent : List ℕ) (values : List ℕ) (recent' : List ℕ) : Type 0 where
  pub result : (old : List ℕ) → recent ≡ recent_of old → recent' ≡ recent_of (old ++ values)

-- the values read are those of the trace T of t ticks, at the ticks that the machine asks for
pub record Reads (T : Trace) (t : ℕ) (recent : List ℕ) (base : ℕ) (values : List ℕ) : Type 0 where
  pub at : (k : ℕ) → t ≤ k + 242 → k < t → value_of recent base values k ≡ get_or T.values k 0
