-- The input of a call, as it is judged.
use Rattle.std.specs.Prelude.{List, [], ◌∷◌, ℕ, ◌/◌, ◌%◌, eqb, leb, length, ℤ, Result, Ok, Err}
use Rattle.answers.specs.Checks.{Check, check, choose}
use Rattle.answers.specs.Range.{first_outside, all_within}
use Rattle.answers.specs.Unit.{least_sample, most_sample, block_limit}
use Rattle.octave.specs.declared.input.InputError.{InputError}
use Rattle.octave.specs.declared.input.InputError.TheVariants.{PartFrame, TooLong, Sample}

-- rule 6.8: what an input of so many channels is judged by, in order; 8 tells the place of the first bad sample
abbrev pub input_checks : (channels : ℕ) → List ℤ → List (Check (Result ℕ InputError))
input_checks c input =
    check (eqb (length input % c) 0) (Err PartFrame) ∷
    check (leb (length input / c) block_limit) (Err TooLong) ∷
    check (all_within least_sample most_sample input) (Err (Sample (first_outside least_sample most_sample input))) ∷ []

-- rules 1.11, 6.8: its frames, or what is wrong with it
abbrev pub input_of : (channels : ℕ) → List ℤ → Result ℕ InputError
input_of c input = choose (input_checks c input) (Ok (length input / c))
