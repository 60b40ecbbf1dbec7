-- Whatever the float, its sample is in range. Assumes nothing.
use mathlib.Core.Path.{◌≡◌, refl, ap}
use mathlib.Core.Bool.{Bool, true, false, cond}
use mathlib.Core.List.{List, [], ◌∷◌}
use Prim.Native.Nat.{◌*◌}
use lib.IntN.{ℤ}
use lib.Ieee.{Float, nan, inf, fin, up, down}
use lib.Ieee.Bits.{is_true}
use lib.Signed.{lt_z, le_z}
use Rattle.answers.specs.First.{first_failing}
use Rattle.answers.specs.Range.{within, all_within}
use Rattle.answers.specs.Unit.{least_sample, most_sample}
use Rattle.answers.proofs.Ranges.{cons_all}
use Rattle.whole.specs.Limit.{limit}
use Rattle.whole.specs.Nearest.{nearest}
use Rattle.whole.proofs.Signed.{var, le_by, lt_z_no}
use Rattle.floats.specs.Value.{signed, full_scale, float_sample}
use Rattle.floats.specs.Block.{sample_or0, samples_of}
use Rattle.std.specs.Prelude.{Ok}

-- a limited number is within the limits, where the limits themselves are
within-limit : (lo hi z : ℤ) → within lo hi lo ≡ true → within lo hi hi ≡ true → within lo hi (limit lo hi z) ≡ true
within-limit lo hi z l h = outer (lt_z z lo) refl
  where
    inner : (t : Bool) → lt_z hi z ≡ t → lt_z z lo ≡ false → within lo hi (cond t hi z) ≡ true
    inner true e d = h
    inner false e d = rw d (is_true (le_z z hi) (le_by (var z) (var hi) (lt_z_no hi z e)).le)

    outer : (t : Bool) → lt_z z lo ≡ t → within lo hi (cond t lo (cond (lt_z hi z) hi z)) ≡ true
    outer true e = l
    outer false e = inner (lt_z hi z) refl e

-- 0 where there is no sample
pub float_within : (x : Float) → within least_sample most_sample (sample_or0 (float_sample x)) ≡ true
unfolding float_sample
float_within nan = refl
float_within (inf s) = refl
float_within (fin s m e) = within-limit least_sample most_sample (nearest (down e) (signed s (full_scale * (m * up e)))) refl refl

-- the sample that a call answers
pub sample_within : (x : Float) (z : ℤ) → float_sample x ≡ Ok z → within least_sample most_sample z ≡ true
sample_within x z e = rw (ap sample_or0 e) at (float_within x)

-- .. of a block
pub floats_within : (values : List Float) → all_within least_sample most_sample (samples_of values) ≡ true
unfolding first_failing
floats_within [] = refl
floats_within (x ∷ values) = cons_all least_sample most_sample (sample_or0 (float_sample x)) (samples_of values) (float_within x) (floats_within values)
