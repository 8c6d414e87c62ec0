-- The bits of a float that is no number.
use mathlib.Core.Path.{◌≡◌, refl, sym}
use mathlib.Core.Bool.{true, false, true≢false}
use lib.Ieee.{Float, nan, inf, fin, binary64, is_nan, to_bits}

never : false ≡ true → ⊥
never e = true≢false (sym e)

pub nan_bits : (x : Float) → is_nan x ≡ true → 9221120237041090560 ≡ to_bits binary64 x
unfolding to_bits is_nan
nan_bits nan h = refl
nan_bits (inf s) h = absurd (never h)
nan_bits (fin s m e) h = absurd (never h)
