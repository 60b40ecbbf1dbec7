-- Whatever the bytes, their samples are in range. Assumes nothing.
use mathlib.Core.Path.{◌≡◌, refl, ap, ◌∙◌}
use mathlib.Core.Bool.{true}
use mathlib.Core.List.{List, [], ◌∷◌, ◌++◌}
use Prim.Native.Nat.{ℕ, zero, suc, ◌*◌, ◌<◌, ◌≤◌}
use native.Mathlib.Omega.{arith}
use lib.ListN.{length, take, drop, length-take}
use lib.IntN.{ℤ}
use lib.Ieee.{binary32, of_bits}
use Rattle.answers.specs.First.{first_failing}
use Rattle.answers.specs.Range.{within, all_within}
use Rattle.answers.specs.Unit.{least_sample, most_sample}
use Rattle.answers.proofs.Ranges.{all_cons, cons_all}
use Rattle.fields.specs.Bytes.{Bytes, lowest, number_in}
use Rattle.fields.proofs.Numbers.{bytes_take, bytes_drop}
use Rattle.fields.proofs.Rows.{number_in-below}
use Rattle.floats.proofs.InRange.{float_within}
use Rattle.samples.specs.Sample.{sample_in}
use Rattle.samples.specs.Samples.{samples_of}
use Rattle.samples.specs.Format.{size_of}
use Rattle.samples.specs.declared.format.Format.{Format}
use Rattle.samples.specs.declared.format.Format.TheVariants.{Bits16, Bits24, Float32}
use Rattle.samples.proofs.Codec.{times_256}
use Rattle.samples.proofs.Complement.{number_in_range}

-- ---- ranges of lists

none_within : (lo hi : ℤ) → all_within lo hi [] ≡ true
unfolding first_failing
none_within lo hi = refl

pub all_append : (lo hi : ℤ) (s t : List ℤ) → all_within lo hi s ≡ true → all_within lo hi t ≡ true → all_within lo hi (s ++ t) ≡ true
all_append lo hi [] t h k = k
all_append lo hi (z ∷ s) t h k = let a = all_cons lo hi z s h in cons_all lo hi z (s ++ t) a.0 (all_append lo hi s t a.1 k)

-- ---- samples of bytes

pub sample_in_range : (format : Format) (s : List ℕ) → Bytes s → length s ≤ size_of format → within least_sample most_sample (sample_in format s) ≡ true
unfolding sample_in
sample_in_range Bits16 s bytes h =
    let small : number_in lowest s < 65536 = number_in-below lowest 2 s bytes h in
    ap (within least_sample most_sample) (times_256 (number_in lowest s) small) ∙ number_in_range (256 * number_in lowest s) (omega arith)
sample_in_range Bits24 s bytes h = number_in_range (number_in lowest s) (number_in-below lowest 3 s bytes h)
sample_in_range Float32 s bytes h = float_within (of_bits binary32 (number_in lowest s))

-- .. of a block
pub samples_in_range : (n : ℕ) (format : Format) (s : List ℕ) → Bytes s → all_within least_sample most_sample (samples_of n format s) ≡ true
unfolding samples_of
samples_in_range zero format s bytes = none_within least_sample most_sample
samples_in_range (suc n) format s bytes =
    let size = size_of format in
    let l = length-take size s in
    cons_all least_sample most_sample (sample_in format (take size s)) (samples_of n format (drop size s))
    (sample_in_range format (take size s) (bytes_take size s bytes) (omega arith))
    (samples_in_range n format (drop size s) (bytes_drop size s bytes))
