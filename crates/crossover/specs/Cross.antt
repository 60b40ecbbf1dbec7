-- The crossover call, for all inputs.
use Rattle.std.specs.Prelude.{Bool, List, [], ◌∷◌, ℕ, ◌-◌, ◌%◌, eqb, leb, length, ℤ, pos, nat_abs, Result, Ok, Err}
use Rattle.answers.specs.Checks.{Check, check, Outcome, decide}
use Rattle.answers.specs.Range.{within, first_outside, all_within}
use Rattle.answers.specs.Unit.{least_sample, most_sample, largest_gain, block_limit}
use Rattle.frames.specs.Frames.{woven}
use Rattle.tree.specs.Signal.{gain_of}
use Rattle.octave.specs.declared.input.InputError.TheVariants.{PartFrame, TooLong, Sample}
use Rattle.octave.specs.Memory.{bands_in, channels_in, accepts, fault_of}
use Rattle.octave.specs.Block.{frames_of, ran_side, equalised}
use Rattle.crossover.specs.declared.cross.CrossError.{CrossError}
use Rattle.crossover.specs.declared.cross.CrossError.TheVariants.{Memory, GainCount, Split, Gain, BassLength, HornLength, Input}
use Rattle.crossover.specs.Feeds.{Feed, bass, horn, goes, feed_outputs}

-- rule 16.1: a split leaves a band to each feed
abbrev pub split_allowed : (M : ℕ) → ℤ → Bool
split_allowed M split = within (pos 1) (pos (M - 1)) split

-- rule 6.8, crossover: its checks in order; 8 tells the place of the first bad sample
abbrev pub cross_checks : (memory gains : List ℤ) (split : ℤ) (input low high : List ℤ) → List (Check (Result ℕ CrossError))
cross_checks memory gains split input low high =
    check (accepts memory) (Err (Memory (fault_of memory))) ∷
    check (eqb (length gains) (bands_in memory)) (Err GainCount) ∷
    check (split_allowed (bands_in memory) split) (Err Split) ∷
    check (all_within (pos 0) (pos largest_gain) gains) (Err Gain) ∷
    check (eqb (length low) (length input)) (Err BassLength) ∷
    check (eqb (length high) (length input)) (Err HornLength) ∷
    check (eqb (length input % channels_in memory) 0) (Err (Input PartFrame)) ∷
    check (leb (frames_of memory input) block_limit) (Err (Input TooLong)) ∷
    check (all_within least_sample most_sample input) (Err (Input (Sample (first_outside least_sample most_sample input)))) ∷ []

-- rule 16.2: what a feed is written, of every side
abbrev pub feed_of : Feed → (memory gains : List ℤ) (s : ℕ) (input : List ℤ) → List ℤ
feed_of f memory gains s input =
    woven (channels_in memory) (frames_of memory input) (λ side. feed_outputs (goes f s) (gain_of gains) (ran_side memory input side).aligned)

-- rule 16.3: one pass: the memory is the block call's, whatever the gains; and both feeds
abbrev pub crossed : (memory gains : List ℤ) (s : ℕ) (input : List ℤ) → List ℤ × List ℤ × List ℤ
crossed memory gains s input = ((equalised memory gains input).0, feed_of bass memory gains s input, feed_of horn memory gains s input)

-- rule 16.3: the call answers the number of frames; memory, bass and horn are the places lent to it
abbrev pub cross_of : (memory gains : List ℤ) (split : ℤ) (input low high : List ℤ) → Outcome (Result ℕ CrossError) (List ℤ × List ℤ × List ℤ)
cross_of memory gains split input low high =
    decide (cross_checks memory gains split input low high) (memory, low, high) (Ok (frames_of memory input)) (crossed memory gains (nat_abs split) input)
