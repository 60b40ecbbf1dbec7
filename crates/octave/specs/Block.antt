-- The block call, for all inputs.
use Rattle.std.specs.Prelude.{List, [], ◌∷◌, ℕ, ◌-◌, ◌/◌, ◌%◌, eqb, leb, length, ℤ, pos, nat_abs, Result, Ok, Err}
use Rattle.answers.specs.Checks.{Check, check, Outcome, decide}
use Rattle.answers.specs.Range.{first_outside, all_within}
use Rattle.answers.specs.Unit.{least_sample, most_sample, largest_gain, block_limit}
use Rattle.frames.specs.Frames.{side_of, woven, behind, places_of}
use Rattle.tree.specs.Prototype.{published}
use Rattle.tree.specs.Signal.{gain_of}
use Rattle.octave.specs.declared.block.BlockError.{BlockError}
use Rattle.octave.specs.declared.block.BlockError.TheVariants.{Memory, GainCount, Gain, OutputLength, Input}
use Rattle.octave.specs.declared.input.InputError.TheVariants.{PartFrame, TooLong, Sample}
use Rattle.lines.specs.Cascade.{Ran, run}
use Rattle.octave.specs.Memory.{line_length, side_places, held_in, memory_of, bands_in, channels_in, accepts, fault_of}
use Rattle.weighing.specs.Weighing.{outputs}

-- rule 1.11: the frames of a block that a memory is for
abbrev pub frames_of : (memory input : List ℤ) → ℕ
frames_of memory input = length input / channels_in memory

-- rule 6.8, block: its checks in order; 8 tells the place of the first bad sample
abbrev pub block_checks : (memory gains input output : List ℤ) → List (Check (Result ℕ BlockError))
block_checks memory gains input output =
    check (accepts memory) (Err (Memory (fault_of memory))) ∷
    check (eqb (length gains) (bands_in memory)) (Err GainCount) ∷
    check (all_within (pos 0) (pos largest_gain) gains) (Err Gain) ∷
    check (eqb (length output) (length input)) (Err OutputLength) ∷
    check (eqb (length input % channels_in memory) 0) (Err (Input PartFrame)) ∷
    check (leb (frames_of memory input) block_limit) (Err (Input TooLong)) ∷
    check (all_within least_sample most_sample input) (Err (Input (Sample (first_outside least_sample most_sample input)))) ∷ []

-- rule 5.9: one side's samples through its own lines in turn, from the position on
abbrev pub ran_side : (memory input : List ℤ) → (s : ℕ) → Ran
ran_side memory input s =
    let M = bands_in memory in
    run published (line_length M) (M - 1) (nat_abs (held_in memory).position) (places_of (side_places M) s (held_in memory).lines) (side_of (channels_in memory) s input)

-- rule 5.9: memory and output after the samples of every side; the position moves once a frame
abbrev pub equalised : (memory gains input : List ℤ) → List ℤ × List ℤ
equalised memory gains input =
    let c = channels_in memory in
    let r = ran_side memory input in (
      memory_of (record { count = pos (bands_in memory); channels = pos c; position = pos (r 0).position; lines = behind c (λ s. (r s).places) }),
      woven c (frames_of memory input) (λ s. outputs (λ _. gain_of gains) (r s).aligned),
    )

-- rule 6.7: the call answers the number of frames; memory and output are the places lent to it
abbrev pub block_of : (memory gains input output : List ℤ) → Outcome (Result ℕ BlockError) (List ℤ × List ℤ)
block_of memory gains input output =
    decide (block_checks memory gains input output) (memory, output) (Ok (frames_of memory input)) (equalised memory gains input)
