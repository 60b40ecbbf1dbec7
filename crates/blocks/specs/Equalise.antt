-- One block through the equaliser, from samples to bytes.
use Rattle.std.specs.Prelude.{Bool, ◌&&◌, List, [], ◌∷◌, ℕ, ◌-◌, ◌*◌, eqb, leb, length, drop, replicate, ℤ, pos, Option, Some, None, Result, is_ok}
use Rattle.answers.specs.Checks.{Check, check, Outcome, decide}
use Rattle.answers.specs.Unit.{turn_room}
use Rattle.samples.specs.Samples.{bytes_of}
use Rattle.octave.specs.declared.block.BlockError.{BlockError}
use Rattle.octave.specs.Block.{block_of}

-- rule 10.17: a block's output starts as zeros
abbrev pub zeros : List ℤ → List ℤ
zeros input = replicate (length input) (pos 0)

-- rule 10.16: the block call of the samples
abbrev pub block_for : (memory gains input : List ℤ) → Outcome (Result ℕ BlockError) (List ℤ × List ℤ)
block_for memory gains input = block_of memory gains input (zeros input)

-- rule 10.16: no more samples than a turn has room for, no more dropped than there are, and three bytes for each other output
abbrev pub lengths_fit : (n skipped bytes : ℕ) → Bool
lengths_fit n skipped bytes = leb n turn_room && (leb skipped n && eqb bytes (3 * (n - skipped)))

-- rule 10.16: whether the block call accepted
abbrev pub is_written : Result ℕ BlockError → Bool
is_written b = is_ok b

-- rule 10.16: the lengths, and then the block call
abbrev pub equalise_checks : (memory gains input : List ℤ) → ℕ → List ℕ → List (Check (Option ℕ))
equalise_checks memory gains input skipped stored =
    check (lengths_fit (length input) skipped (length stored)) None ∷
    check (is_written (block_for memory gains input).result) None ∷ []

-- rule 10.16: memory and stored bytes afterwards: those of the outputs but the first `skipped` samples
unfoldable pub equalise_of : (memory gains input : List ℤ) → ℕ → List ℕ → Outcome (Option ℕ) (List ℤ × List ℕ)
equalise_of memory gains input skipped stored =
    let b = block_for memory gains input in
    decide (equalise_checks memory gains input skipped stored) (memory, stored) (Some (length stored)) (b.lent.0, bytes_of (drop skipped b.lent.1))
