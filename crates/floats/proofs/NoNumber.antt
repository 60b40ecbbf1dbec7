-- A NaN has no sample. Assumes nothing.
use mathlib.Core.Path.{◌≡◌, refl}
use mathlib.Core.Bool.{true, false≢true}
use lib.Ieee.{Float, nan, inf, fin, is_nan}
use Rattle.std.specs.Prelude.{Err}
use Rattle.floats.specs.Value.{float_sample}

pub nan_none : (x : Float) → is_nan x ≡ true → Err (record {}) ≡ float_sample x
unfolding float_sample is_nan
nan_none nan e = refl
nan_none (inf s) e = absurd (false≢true e)
nan_none (fin s m k) e = absurd (false≢true e)
