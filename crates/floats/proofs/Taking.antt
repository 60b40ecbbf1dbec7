-- A loop that writes one number of a list after the other, and the samples of floats. Assumes nothing.
use mathlib.Core.Path.{◌≡◌, sym, ap₂, ◌∙◌}
use mathlib.Core.List.{List, [], ◌∷◌, ◌++◌}
use Prim.Native.Nat.{ℕ, ◌+◌, ◌<◌}
use lib.IntN.{ℤ, pos}
use lib.ListN.{length, get_or, take, set, length-map, get_or-map}
use lib.Ieee.{Float, nan}
use Rattle.std.proofs.lemmas.List.{take_more, take_more_set}
use Rattle.floats.specs.Value.{float_sample}
use Rattle.floats.specs.Block.{sample_or0, samples_of}

-- one more is written
pub one_more : (all new : List ℤ) (i : ℕ) (v : ℤ) → take i new ≡ take i all → i < length all → i < length new → v ≡ get_or all i (pos 0) →
    take (i + 1) (set new i v) ≡ take (i + 1) all
one_more all new i v t l h e = take_more_set new i v h ∙ ap₂ (λ (s : List ℤ) (x : ℤ). s ++ x ∷ []) t e ∙ sym (take_more all i (pos 0) l)

-- there is a sample for each float
pub length-samples : (values : List Float) → length (samples_of values) ≡ length values
length-samples values = length-map values (λ x. sample_or0 (float_sample x))

-- sample i is that of float i, past the end 0
pub sample_at : (values : List Float) (i : ℕ) → get_or (samples_of values) i (pos 0) ≡ sample_or0 (float_sample (get_or values i nan))
unfolding float_sample
sample_at values i = get_or-map (λ (x : Float). sample_or0 (float_sample x)) values i nan
