-- Floats to samples by the block.
use Rattle.std.specs.Prelude.{Bool, List, [], ◌∷◌, map, ℕ, length, eqb, ℤ, pos, Float, Result, Ok, Err, is_ok}
use Rattle.std.specs.Result.{result_unwrap_or}
use Rattle.answers.specs.Answer.{Answer, plain, answered}
use Rattle.answers.specs.Checks.{Check, check, Outcome, decide}
use Rattle.answers.specs.First.{first_failing, all_pass}
use Rattle.answers.specs.declared.refused.Refused.{Refused}
use Rattle.floats.specs.Value.{float_sample}
use Rattle.floats.specs.declared.code.NotNumber.{NotNumber}
use Rattle.floats.specs.declared.block.FloatsError.{FloatsError}
use Rattle.floats.specs.declared.block.FloatsError.TheVariants.{WrongLength, BadFloat}

-- rule 9.9: whether there is a sample
abbrev pub is_sample : Result ℤ NotNumber → Bool
is_sample r = is_ok r

-- rule 9.9: the sample; where there is none 0 stands for it, which no call answers
abbrev pub sample_or0 : Result ℤ NotNumber → ℤ
sample_or0 r = result_unwrap_or r (pos 0)

-- rule 9.9: whether a float is a sample
abbrev pub is_number : Float → Bool
is_number x = is_sample (float_sample x)

-- rule 9.9: the samples of floats
abbrev pub samples_of : List Float → List ℤ
samples_of values = map (λ x. sample_or0 (float_sample x)) values

-- rule 6.8: the checks of `samples_from_floats`: as many places as floats, and no NaN or infinity
abbrev pub float_checks : List Float → List ℤ → List (Check (Result ℕ FloatsError))
float_checks values samples =
    check (eqb (length samples) (length values)) (Err WrongLength) ∷
    check (all_pass is_number values) (Err (BadFloat (first_failing is_number values))) ∷ []

-- rule 9.9: `samples_from_floats`, with the samples afterwards
unfoldable pub from_floats : List Float → List ℤ → Outcome (Result ℕ FloatsError) (List ℤ)
from_floats values samples = decide (float_checks values samples) samples (Ok (length values)) (samples_of values)

-- rule 6.8: numbers and places of `FloatsError`
abbrev pub floats_refusal : FloatsError → Refused
floats_refusal WrongLength = plain 6
floats_refusal (BadFloat i) = record { number = 41; place = i }

-- rule 6.8: numbers and values of `samples_from_floats`
abbrev pub float_block_answer : Result ℕ FloatsError → Answer ℕ
float_block_answer r = answered floats_refusal r
