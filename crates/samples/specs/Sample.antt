-- Samples and their bytes, one sample at a time.
use Rattle.std.specs.Prelude.{ℕ, suc, ◌-◌, ◌^◌, Bool, true, cond, List, [], ◌∷◌, length, ℤ, pos, negsuc, ◌-ℤ◌, ◌*ℤ◌, ltb, eqb, Result, Ok, Err}
use Rattle.std.specs.Float.{binary32}
use Rattle.std.specs.Float.Ieee.{of_bits}
use Rattle.answers.specs.Answer.{Answer, plain, answered}
use Rattle.answers.specs.Checks.{Check, check, Outcome, decide}
use Rattle.answers.specs.Range.{within}
use Rattle.answers.specs.Unit.{least_sample, most_sample}
use Rattle.answers.specs.declared.refused.Refused.{Refused}
use Rattle.fields.specs.Bytes.{lowest, number_in, row}
use Rattle.floats.specs.Value.{float_sample}
use Rattle.floats.specs.Block.{is_sample, sample_or0}
use Rattle.floats.specs.declared.code.NotNumber.{NotNumber}
use Rattle.samples.specs.declared.format.Format.{Format}
use Rattle.samples.specs.declared.format.Format.TheVariants.{Bits16, Bits24, Float32}
use Rattle.samples.specs.declared.single.WrongLength as length_error
use Rattle.samples.specs.declared.single.StoreError.{StoreError}
use Rattle.samples.specs.declared.single.StoreError.TheVariants.{WrongLength, OutOfRange}

-- rule 9.1: a code of `bits` bits from half of 2 ^ bits up stands for itself minus 2 ^ bits
unfoldable pub number_of : ℕ → ℕ → ℤ
number_of bits code = cond (ltb code (2 ^ (bits - 1))) (pos code) (pos code -ℤ pos (2 ^ bits))

-- rule 9.2: -(n + 1) has the code 2 ^ 24 - (n + 1)
unfoldable pub code_of : ℤ → ℕ
code_of (pos n) = n
code_of (negsuc n) = 2 ^ 24 - suc n

-- rule 9.9: the float in four bytes, as a sample
abbrev pub float_in : List ℕ → Result ℤ NotNumber
float_in s = float_sample (of_bits binary32 (number_in lowest s))

-- rule 9.9: whether the bytes of a format are a sample: of whole numbers all are
unfoldable pub is_sample_in : Format → List ℕ → Bool
is_sample_in Bits16 s = true
is_sample_in Bits24 s = true
is_sample_in Float32 s = is_sample (float_in s)

-- rules 9.4, 9.9: the sample in the bytes of a format
unfoldable pub sample_in : Format → List ℕ → ℤ
sample_in Bits16 s = number_of 16 (number_in lowest s) *ℤ pos 256
sample_in Bits24 s = number_of 24 (number_in lowest s)
sample_in Float32 s = sample_or0 (float_in s)

-- rule 9.4: `sample_from_bytes`: two bytes, three, or another number of them
unfoldable pub from_bytes : List ℕ → Result ℤ length_error.WrongLength
from_bytes s =
    cond (eqb (length s) 2) (Ok (sample_in Bits16 s))
    (cond (eqb (length s) 3) (Ok (sample_in Bits24 s))
    (Err (record {})))

-- rule 6.8: the checks of `sample_to_bytes`: three bytes, and a number in the range
abbrev pub put_checks : ℤ → List ℕ → List (Check (Result ℕ StoreError))
put_checks z buffer =
    check (eqb (length buffer) 3) (Err WrongLength) ∷
    check (within least_sample most_sample z) (Err OutOfRange) ∷ []

-- rule 9.3: `sample_to_bytes`, with the buffer afterwards
unfoldable pub to_bytes : ℤ → List ℕ → Outcome (Result ℕ StoreError) (List ℕ)
to_bytes z buffer = decide (put_checks z buffer) buffer (Ok 3) (row lowest 3 (code_of z))

-- rule 6.8: the number of `WrongLength`
abbrev pub sample_refusal : length_error.WrongLength → Refused
sample_refusal error = plain 18

-- rule 6.8: numbers and values of `sample_from_bytes`
abbrev pub sample_answer : Result ℤ length_error.WrongLength → Answer ℤ
sample_answer r = answered sample_refusal r

-- rule 6.8: the numbers of `StoreError`
abbrev pub store_refusal : StoreError → Refused
store_refusal WrongLength = plain 18
store_refusal OutOfRange = plain 19

-- rule 6.8: numbers and values of `sample_to_bytes`
abbrev pub put_answer : Result ℕ StoreError → Answer ℕ
put_answer r = answered store_refusal r
