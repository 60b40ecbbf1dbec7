-- The number and the place of each error that the crossover call answers (rule 6.8). The numbers stand here alone.
use Rattle.std.specs.Prelude.{ℕ, Result}
use Rattle.answers.specs.Answer.{Answer, answered, plain}
use Rattle.answers.specs.declared.refused.Refused.{Refused}
use Rattle.octave.specs.Answer.{fault_refusal, input_refusal}
use Rattle.crossover.specs.declared.cross.CrossError as cross

-- rule 6.8, crossover
abbrev pub cross_refusal : cross.CrossError → Refused
cross_refusal (cross.TheVariants.Memory f) = fault_refusal f
cross_refusal cross.TheVariants.GainCount = plain 4
cross_refusal cross.TheVariants.Split = plain 10
cross_refusal cross.TheVariants.Gain = plain 5
cross_refusal cross.TheVariants.BassLength = plain 6
cross_refusal cross.TheVariants.HornLength = plain 6
cross_refusal (cross.TheVariants.Input e) = input_refusal e

-- rule 6.8, crossover: the call's answer
abbrev pub cross_answer : Result ℕ cross.CrossError → Answer ℕ
cross_answer r = answered cross_refusal r
