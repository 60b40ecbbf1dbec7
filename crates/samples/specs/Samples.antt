-- The sample codec by the block, over the single calls' `sample_in` and `code_of`.
use Rattle.std.specs.Prelude.{ℕ, zero, suc, ◌*◌, ◌/◌, ◌%◌, Bool, List, [], ◌∷◌, ◌++◌, length, take, drop, ℤ, eqb, leb, Result, Ok, Err}
use Rattle.answers.specs.Answer.{Answer, plain, answered}
use Rattle.answers.specs.Checks.{Check, check, Outcome, decide}
use Rattle.answers.specs.First.{first_failing}
use Rattle.answers.specs.Range.{all_within}
use Rattle.answers.specs.Unit.{least_sample, most_sample}
use Rattle.answers.specs.declared.refused.Refused.{Refused}
use Rattle.fields.specs.Bytes.{lowest, row}
use Rattle.samples.specs.Sample.{code_of, is_sample_in, sample_in, store_refusal}
use Rattle.samples.specs.Format.{size_of}
use Rattle.samples.specs.declared.format.Format.{Format}
use Rattle.samples.specs.declared.block.TakeError.{TakeError}
use Rattle.samples.specs.declared.block.TakeError.TheVariants.{PartSample, WrongLength, NotNumber}
use Rattle.samples.specs.declared.single.StoreError.{StoreError}
use Rattle.samples.specs.declared.single.StoreError.TheVariants as store

-- rule 9.5: n samples, one after the other
unfoldable pub samples_of : ℕ → Format → List ℕ → List ℤ
samples_of zero format s = []
samples_of (suc n) format s = sample_in format (take (size_of format) s) ∷ samples_of n format (drop (size_of format) s)

-- rule 9.5: n runs of so many bytes
unfoldable pub pieces_of : ℕ → (size : ℕ) → List ℕ → List (List ℕ)
pieces_of zero size s = []
pieces_of (suc n) size s = take size s ∷ pieces_of n size (drop size s)

-- rule 9.9: the place of the first of n that is no sample, in samples; n where all are
abbrev pub first_bad : ℕ → Format → List ℕ → ℕ
first_bad n format s = first_failing (is_sample_in format) (pieces_of n (size_of format) s)

-- rule 9.9: each of n is a sample
abbrev pub all_samples : ℕ → Format → List ℕ → Bool
all_samples n format s = leb n (first_bad n format s)

-- rule 9.6: the bytes of samples, three of each
unfoldable pub bytes_of : List ℤ → List ℕ
bytes_of [] = []
bytes_of (z ∷ samples) = row lowest 3 (code_of z) ++ bytes_of samples

-- rule 6.8: the checks of `bytes_to_samples`: whole samples, an output as long as their number, and no float that is no number
abbrev pub taken_checks : List ℕ → Format → List ℤ → List (Check (Result ℕ TakeError))
taken_checks s format samples =
    check (eqb (length s % size_of format) 0) (Err PartSample) ∷
    check (eqb (length samples) (length s / size_of format)) (Err WrongLength) ∷
    check (all_samples (length samples) format s) (Err (NotNumber (first_bad (length samples) format s))) ∷ []

-- rule 9.5: `bytes_to_samples`, with the samples afterwards
unfoldable pub block_from : List ℕ → Format → List ℤ → Outcome (Result ℕ TakeError) (List ℤ)
block_from s format samples =
    decide (taken_checks s format samples) samples (Ok (length samples)) (samples_of (length samples) format s)

-- rule 6.8: the checks of `samples_to_bytes`: three bytes a sample, and every number in the range
abbrev pub stored_checks : List ℤ → List ℕ → List (Check (Result ℕ StoreError))
stored_checks samples buffer =
    check (eqb (length buffer) (3 * length samples)) (Err store.WrongLength) ∷
    check (all_within least_sample most_sample samples) (Err store.OutOfRange) ∷ []

-- rule 9.6: `samples_to_bytes`, with the buffer afterwards
unfoldable pub block_to : List ℤ → List ℕ → Outcome (Result ℕ StoreError) (List ℕ)
block_to samples buffer = decide (stored_checks samples buffer) buffer (Ok (length buffer)) (bytes_of samples)

-- rule 6.8: numbers and places of `TakeError`
abbrev pub take_refusal : TakeError → Refused
take_refusal PartSample = plain 18
take_refusal WrongLength = plain 6
take_refusal (NotNumber i) = record { number = 41; place = i }

-- rule 6.8: numbers and values of `bytes_to_samples`
abbrev pub taken_answer : Result ℕ TakeError → Answer ℕ
taken_answer r = answered take_refusal r

-- rule 6.8: numbers and values of `samples_to_bytes`
abbrev pub stored_answer : Result ℕ StoreError → Answer ℕ
stored_answer r = answered store_refusal r
