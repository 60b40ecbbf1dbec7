-- The number and the place of each error that a call of this crate answers (rule 6.8). The numbers stand here alone.
use Rattle.std.specs.Prelude.{ℕ, Result}
use Rattle.answers.specs.Answer.{Answer, answered, plain}
use Rattle.answers.specs.declared.refused.Refused.{Refused}
use Rattle.octave.specs.declared.memory.CountError as count
use Rattle.octave.specs.declared.memory.PrepareError as prepare
use Rattle.octave.specs.declared.memory.Fault as fault
use Rattle.octave.specs.declared.input.InputError as input
use Rattle.octave.specs.declared.block.BlockError as block

-- rule 6.8, memory length
abbrev pub count_refusal : count.CountError → Refused
count_refusal count.TheVariants.BandCount = plain 1
count_refusal count.TheVariants.ChannelCount = plain 9

-- rule 6.8, memory length: the call's answer
abbrev pub length_answer : Result ℕ count.CountError → Answer ℕ
length_answer r = answered count_refusal r

-- rule 6.8, prepare
abbrev pub prepare_refusal : prepare.PrepareError → Refused
prepare_refusal (prepare.TheVariants.Count e) = count_refusal e
prepare_refusal prepare.TheVariants.MemoryLength = plain 2

-- rule 6.8, prepare: the call's answer
abbrev pub prepared_answer : Result ℕ prepare.PrepareError → Answer ℕ
prepared_answer r = answered prepare_refusal r

-- rule 6.8, block: the number of what is wrong with a lent memory
abbrev pub fault_number : fault.Fault → ℕ
fault_number fault.TheVariants.CountWrong = 31
fault_number fault.TheVariants.LengthWrong = 32
fault_number fault.TheVariants.PositionOutside = 33

-- rule 6.8, block: it has no place
abbrev pub fault_refusal : fault.Fault → Refused
fault_refusal f = plain (fault_number f)

-- rule 6.8, block: of a wrong input, 8 alone has a place, that of the sample
abbrev pub input_refusal : input.InputError → Refused
input_refusal input.TheVariants.PartFrame = plain 6
input_refusal input.TheVariants.TooLong = plain 7
input_refusal (input.TheVariants.Sample i) = record { number = 8; place = i }

-- rule 6.8, block
abbrev pub block_refusal : block.BlockError → Refused
block_refusal (block.TheVariants.Memory f) = fault_refusal f
block_refusal block.TheVariants.GainCount = plain 4
block_refusal block.TheVariants.Gain = plain 5
block_refusal block.TheVariants.OutputLength = plain 6
block_refusal (block.TheVariants.Input e) = input_refusal e

-- rule 6.8, block: the call's answer
abbrev pub block_answer : Result ℕ block.BlockError → Answer ℕ
block_answer r = answered block_refusal r
