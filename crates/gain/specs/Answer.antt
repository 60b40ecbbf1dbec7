-- What the gain command answers, in the numbers of the rule book.
use Rattle.std.specs.Prelude.{ℤ, Result}
use Rattle.answers.specs.Answer.{Answer, plain, answered}
use Rattle.answers.specs.declared.refused.Refused.{Refused}
use Rattle.gain.specs.declared.GainError.{GainError}
use Rattle.gain.specs.declared.GainError.TheVariants.{NotHalfDecibels, NotFactor}

-- rule 6.8, gain command: 11 for decibels and 12 for a factor that has no gain
abbrev pub gain_refusal : GainError → Refused
gain_refusal NotHalfDecibels = plain 11
gain_refusal NotFactor = plain 12

-- rule 6.8, gain command: the gain, or the number of its refusal
abbrev pub answer_of : Result ℤ GainError → Answer ℤ
answer_of result = answered gain_refusal result
