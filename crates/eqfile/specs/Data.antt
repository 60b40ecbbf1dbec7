-- Bytes to samples: if data ends early, each sample that is not wholly there is 0. A float that is no number is refused.
use Rattle.std.specs.Prelude.{Bool, List, [], ◌∷◌, ◌++◌, ℕ, ◌-◌, ◌/◌, min, length, replicate, ℤ, pos, Result, Ok, Err}
use Rattle.answers.specs.Checks.{check, Outcome, decide}
use Rattle.samples.specs.Samples.{samples_of, all_samples}
use Rattle.samples.specs.Format.{size_of}
use Rattle.samples.specs.declared.format.Format.{Format}
use Rattle.eqfile.specs.declared.refusal.Refusal.{Refusal}
use Rattle.eqfile.specs.declared.refusal.Refusal.TheVariants.{NotNumber}

-- rule 10.12: how many of n samples are wholly there
abbrev pub there_of : ℕ → Format → List ℕ → ℕ
there_of n format bytes = min (length bytes / size_of format) n

-- rule 10.12: n samples: those whose bytes are all there, and zeros
unfoldable pub samples_from : ℕ → Format → List ℕ → List ℤ
samples_from n format bytes = let k = there_of n format bytes in samples_of k format bytes ++ replicate (n - k) (pos 0)

-- rule 10.19: each of n samples that is wholly there is one
unfoldable pub numbers_from : ℕ → Format → List ℕ → Bool
numbers_from n format bytes = all_samples (there_of n format bytes) format bytes

-- rule 10.19: `samples_from` refuses with 41 where one is none, else it leaves the samples
unfoldable pub taken_from : List ℕ → Format → List ℤ → Outcome (Result (Unit {0}) Refusal) (List ℤ)
taken_from bytes format samples =
    decide (check (numbers_from (length samples) format bytes) (Err NotNumber) ∷ []) samples (Ok tt) (samples_from (length samples) format bytes)
