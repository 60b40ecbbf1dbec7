-- The plan of a run, turn by turn: frame n of the file that is written is output n + 1,143 (`late`), and zeros follow the input.
use Rattle.std.specs.Prelude.{Bool, cond, ℕ, ◌+◌, ◌-◌, ◌*◌, min, eqb}
use Rattle.answers.specs.Unit.{turn_limit}
use Rattle.eqfile.specs.declared.turn.Turn.{Turn}

-- rule 10.9: the delay of the program's eight bands (proofs/Turns: `late_is_the_delay`)
abbrev pub late : ℕ
late = 1143

-- rule 10.9: the frames of the file, and zeros for as long as the delay
abbrev pub fed_in_all : ℕ → ℕ
fed_in_all frames = frames + late

-- rule 10.11: whether all bytes of the file's frames before `at` were read, `size` bytes a frame
abbrev pub all_read : (size frames at read : ℕ) → Bool
all_read size frames at read = eqb read (size * min at frames)

-- rule 10.11: the bytes to read for a block of `fed` frames at `at`: those of the file's frames in it, and none once fewer were read than asked
unfoldable pub wanted_of : (size frames at read fed : ℕ) → ℕ
wanted_of size frames at read fed = cond (all_read size frames at read) (size * min fed (frames - at)) 0

-- rule 10.10: the turn after `at` frames were fed and `read` bytes of data were read, `count` channels: the frames of its block, the bytes to read for them,
-- the frames dropped, and the bytes that the others are written in, three for each sample
unfoldable pub turn_of : (count size frames at read : ℕ) → Turn
unfolding wanted_of
turn_of count size frames at read =
    let fed = min turn_limit (fed_in_all frames - at) in
    let skipped = min fed (late - at) in
    record { fed = fed; wanted = wanted_of size frames at read fed; skipped = skipped; written = 3 * (count * (fed - skipped)) }

-- rule 10.13: the bytes that are short: those of the file's frames but the data bytes read
abbrev pub short_of : (size frames read : ℕ) → ℕ
short_of size frames read = size * frames - read
