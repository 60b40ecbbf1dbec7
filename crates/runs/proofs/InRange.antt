-- The samples of a turn are in range. Assumes nothing.
use mathlib.Core.Path.{◌≡◌, refl}
use mathlib.Core.Bool.{true}
use mathlib.Core.List.{List}
use Prim.Native.Nat.{ℕ, zero, suc, ◌-◌, ◌/◌, min}
use lib.ListN.{length, replicate}
use lib.IntN.{pos}
use Rattle.answers.specs.Unit.{least_sample, most_sample}
use Rattle.fields.specs.Bytes.{Bytes}
use Rattle.samples.specs.Samples.{samples_of}
use Rattle.samples.specs.Format.{size_of}
use Rattle.samples.specs.declared.format.Format.{Format}
use Rattle.samples.proofs.InRange.{all_append, samples_in_range}
use Rattle.blocks.proofs.Outputs.{all_in_range, none_within, next_in_range}
use Rattle.eqfile.specs.Data.{samples_from}

zeros_within : (n : ℕ) → all_in_range (replicate n (pos 0)) ≡ true
zeros_within zero = none_within least_sample most_sample
zeros_within (suc n) = next_in_range (pos 0) (replicate n (pos 0)) refl (zeros_within n)

pub from-within : (n : ℕ) (format : Format) (s : List ℕ) → Bytes s → all_in_range (samples_from n format s) ≡ true
unfolding samples_from
from-within n format s b =
    let k = min (length s / size_of format) n in
    all_append least_sample most_sample (samples_of k format s) (replicate (n - k) (pos 0)) (samples_in_range k format s b) (zeros_within (n - k))
