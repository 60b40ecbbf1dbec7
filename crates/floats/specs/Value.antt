-- A float as a sample, by its value: a finite float is `fin s m e`, the number m·2^e, negative where s is true; 2^e is the fraction up e / down e.
use Rattle.std.specs.Prelude.{Bool, true, false, [], ◌∷◌, ℕ, ◌*◌, ℤ, pos, negsuc, neg_ℤ, nat_abs, Float, Result, Ok, Err}
use Rattle.std.specs.Float.{nan, inf, fin, binary32}
use Rattle.std.specs.Float.Ieee.{up, down, round}
use Rattle.answers.specs.Answer.{Answer, plain, answered}
use Rattle.answers.specs.Checks.{check, choose}
use Rattle.answers.specs.Range.{within}
use Rattle.answers.specs.Unit.{least_sample, most_sample}
use Rattle.answers.specs.declared.refused.Refused.{Refused}
use Rattle.whole.specs.Limit.{limit}
use Rattle.whole.specs.Nearest.{nearest}
use Rattle.floats.specs.declared.code.NotNumber.{NotNumber}
use Rattle.floats.specs.declared.single.OutOfRange.{OutOfRange}

-- rule 9.7: the sample of a float of 1
abbrev pub full_scale : ℕ
full_scale = 8388608

-- a magnitude with a sign
abbrev pub signed : Bool → ℕ → ℤ
signed false n = pos n
signed true n = neg_ℤ (pos n)

-- rule 9.7: the value times 8,388,608, to the nearest whole number, limited; a NaN and the infinities are no sample
unfoldable pub float_sample : Float → Result ℤ NotNumber
float_sample nan = Err (record {})
float_sample (inf s) = Err (record {})
float_sample (fin s m e) = Ok (limit least_sample most_sample (nearest (down e) (signed s (full_scale * (m * up e)))))

-- rule 6.8: the number of `NotNumber`
abbrev pub number_refusal : NotNumber → Refused
number_refusal error = plain 41

-- rule 6.8: numbers and values of `sample_from_float`
abbrev pub float_answer : Result ℤ NotNumber → Answer ℤ
float_answer r = answered number_refusal r

-- whether a number is negative
abbrev pub negative : ℤ → Bool
negative (pos n) = false
negative (negsuc n) = true

-- rule 9.10: the float nearest to z / 8,388,608, which is just that (proofs/Back: `nothing_lost`)
abbrev pub float_of : ℤ → Float
float_of z = round binary32 (negative z) (nat_abs z) full_scale

-- rule 9.10: `sample_to_float`
unfoldable pub to_float : ℤ → Result Float OutOfRange
to_float z = choose (check (within least_sample most_sample z) (Err (record {})) ∷ []) (Ok (float_of z))

-- rule 6.8: the number of `OutOfRange`
abbrev pub range_refusal : OutOfRange → Refused
range_refusal error = plain 19

-- rule 6.8: numbers and values of `sample_to_float`
abbrev pub floated_answer : Result Float OutOfRange → Answer Float
floated_answer r = answered range_refusal r
