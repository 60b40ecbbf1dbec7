-- The header writer.
use Rattle.std.specs.Prelude.{ℕ, ◌+◌, ◌*◌, ◌%◌, List, [], ◌∷◌, ◌++◌, length, eqb, leb, ℤ, nat_abs, Result, Ok, Err}
use Rattle.answers.specs.Answer.{Answer, plain, answered}
use Rattle.answers.specs.Checks.{Check, check, Outcome, decide}
use Rattle.answers.specs.Range.{within}
use Rattle.answers.specs.Unit.{fewest_channels, most_channels, largest_data}
use Rattle.answers.specs.declared.refused.Refused.{Refused}
use Rattle.fields.specs.Bytes.{lowest, row}
use Rattle.chunks.specs.Walk.{chunk_header, padded}
use Rattle.samples.specs.Format.{bits_of}
use Rattle.samples.specs.declared.format.Format.{Format}
use Rattle.samples.specs.declared.format.Format.TheVariants.{Bits24}
use Rattle.wave.specs.Names.{riff, wave, fmt, data'}
use Rattle.wave_values.specs.Values.{fmt_length, frame_size, known_rate}
use Rattle.wave_writer.specs.declared.writer.WriteError.{WriteError}
use Rattle.wave_writer.specs.declared.writer.WriteError.TheVariants.{WrongBuffer, WrongRate, WrongChannels, WrongLength}

-- rule 8.13: the format that is written
abbrev pub written : Format
written = Bits24

-- rule 8.13: the bytes of the header
abbrev pub header_bytes : ℕ
header_bytes = 44

-- rule 8.13: the RIFF length counts the header from byte 8 on, and the samples with their pad
abbrev pub riff_size : ℕ → ℕ
riff_size size = padded size + 36

-- rule 8.13: `fmt `: tag 1, channels, rate, byte rate, block size, bits
unfoldable pub fmt_contents : (rate count : ℕ) → List ℕ
fmt_contents rate count =
    row lowest 2 1 ++ (row lowest 2 count ++ (row lowest 4 rate ++ (row lowest 4 (rate * frame_size count written)
    ++ (row lowest 2 (frame_size count written) ++ row lowest 2 (bits_of written)))))

-- rule 8.13: the 44 bytes, for a length of `size` bytes in `count` channels
unfoldable pub header : (rate size count : ℕ) → List ℕ
header rate size count =
    chunk_header lowest riff (riff_size size) ++ (wave ++ (chunk_header lowest fmt fmt_length ++ (fmt_contents rate count ++ chunk_header lowest data' size)))

-- rule 6.8: the checks of `write`: a buffer of 44 bytes, one of the two rates, one or two channels, a length of whole frames that the RIFF length can hold
abbrev pub write_checks : List ℕ → (rate size : ℕ) → (channels : ℤ) → List (Check (Result ℕ WriteError))
write_checks buffer rate size channels =
    check (eqb (length buffer) header_bytes) (Err WrongBuffer) ∷
    check (known_rate rate) (Err WrongRate) ∷
    check (within fewest_channels most_channels channels) (Err WrongChannels) ∷
    check (eqb (size % frame_size (nat_abs channels) written) 0) (Err WrongLength) ∷
    check (leb size largest_data) (Err WrongLength) ∷ []

-- rule 6.8, header writer: `write`, with the buffer afterwards
unfoldable pub write_of : List ℕ → (rate size : ℕ) → (channels : ℤ) → Outcome (Result ℕ WriteError) (List ℕ)
write_of buffer rate size channels =
    decide (write_checks buffer rate size channels) buffer (Ok header_bytes) (header rate size (nat_abs channels))

-- rule 6.8: the numbers of `WriteError`
abbrev pub write_refusal : WriteError → Refused
write_refusal WrongBuffer = plain 27
write_refusal WrongRate = plain 28
write_refusal WrongChannels = plain 9
write_refusal WrongLength = plain 26

-- rule 6.8: numbers and values of `write`
abbrev pub write_answer : Result ℕ WriteError → Answer ℕ
write_answer r = answered write_refusal r
