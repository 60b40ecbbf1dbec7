-- The line memory: its length, the prepared one, and which ones are accepted. The layout and each length: docs/LAYOUT.md.
use Rattle.std.specs.Prelude.{Bool, false, cond, List, [], ◌∷◌, ℕ, ◌+◌, ◌-◌, ◌*◌, ◌^◌, eqb, ltb, length, get_or, drop, replicate, ℤ, pos, nat_abs, Result, Ok, Err}
use Rattle.std.specs.Int.Signed.{lt_z}
use Rattle.answers.specs.Checks.{Check, check, all_hold, choose, Outcome, decide}
use Rattle.answers.specs.Range.{within}
use Rattle.answers.specs.Unit.{fewest_bands, most_bands, fewest_channels, most_channels}
use Rattle.tree.specs.Prototype.{published}
use Rattle.tree.specs.Tree.{delay}
use Rattle.octave.specs.declared.memory.CountError.{CountError}
use Rattle.octave.specs.declared.memory.CountError.TheVariants.{BandCount, ChannelCount}
use Rattle.octave.specs.declared.memory.PrepareError.{PrepareError}
use Rattle.octave.specs.declared.memory.PrepareError.TheVariants.{Count, MemoryLength}
use Rattle.octave.specs.declared.memory.Fault.{Fault}
use Rattle.octave.specs.declared.memory.Fault.TheVariants.{CountWrong, LengthWrong, PositionOutside}
use Rattle.octave.specs.Counts.{Counts}

-- rule 5.2: the places of a line of M bands, 9·2^(M-1)
abbrev pub line_length : ℕ → ℕ
line_length M = published.centre * 2 ^ (M - 1)

-- rule 5.2: the places of one side: its lines M down to 2
abbrev pub side_places : ℕ → ℕ
side_places M = (M - 1) * line_length M

-- rule 5.2: what a memory holds: the counts of bands and channels, the position, and behind them the lines of all sides
pub record Held : Type 0 where
  pub count : ℤ
  pub channels : ℤ
  pub position : ℤ
  pub lines : List ℤ

-- rule 5.2: the places before the lines
abbrev pub head_places : ℕ
head_places = 3

-- rule 5.2: as a memory shows it; 0 where it has no place
abbrev pub held_in : List ℤ → Held
held_in memory =
    record { count = get_or memory 0 (pos 0); channels = get_or memory 1 (pos 0); position = get_or memory 2 (pos 0); lines = drop head_places memory }

-- rule 5.2: and the memory that shows it
abbrev pub memory_of : Held → List ℤ
memory_of h = h.count ∷ h.channels ∷ h.position ∷ h.lines

-- rule 5.3: the head, and the lines of each side
abbrev pub memory_length : (M channels : ℕ) → ℕ
memory_length M c = head_places + c * side_places M

-- rule 1.3: 2 to 10 bands
abbrev pub count_allowed : ℤ → Bool
count_allowed = within fewest_bands most_bands

-- rule 1.10: one or two channels
abbrev pub channels_allowed : ℤ → Bool
channels_allowed = within fewest_channels most_channels

-- rule 6.8: what two counts are judged by, in order
abbrev pub count_checks : {A : Type 0} → (bands channels : ℤ) → List (Check (Result A CountError))
count_checks bands channels = check (count_allowed bands) (Err BandCount) ∷ check (channels_allowed channels) (Err ChannelCount) ∷ []

-- rules 1.3, 1.10: two allowed counts, or which of them is not
abbrev pub counts_of : (bands channels : ℤ) → Result Counts CountError
counts_of bands channels = choose (count_checks bands channels) (Ok (record { bands = nat_abs bands; channels = nat_abs channels }))

-- rule 6.8, memory length
abbrev pub memory_length_of : (bands channels : ℤ) → Result ℕ CountError
memory_length_of bands channels = choose (count_checks bands channels) (Ok (memory_length (nat_abs bands) (nat_abs channels)))

-- rule 5.5: the counts, the position 0, and zeros
abbrev pub prepared : (M channels : ℕ) → List ℤ
prepared M c = memory_of (record { count = pos M; channels = pos c; position = pos 0; lines = replicate (c * side_places M) (pos 0) })

-- rule 6.8, prepare: its checks in order
abbrev pub prepare_checks : (bands channels : ℤ) → List ℤ → List (Check (Result ℕ PrepareError))
prepare_checks bands channels memory =
    check (count_allowed bands) (Err (Count BandCount)) ∷
    check (channels_allowed channels) (Err (Count ChannelCount)) ∷
    check (eqb (length memory) (memory_length (nat_abs bands) (nat_abs channels))) (Err MemoryLength) ∷ []

-- rule 6.8, prepare: and the call: the delay and the prepared memory
abbrev pub prepare_of : (bands channels : ℤ) → List ℤ → Outcome (Result ℕ PrepareError) (List ℤ)
prepare_of bands channels memory =
    decide (prepare_checks bands channels memory) memory (Ok (delay published (nat_abs bands))) (prepared (nat_abs bands) (nat_abs channels))

-- rule 5.2: the band count that a memory holds; 0 where it has no place
abbrev pub bands_in : List ℤ → ℕ
bands_in memory = nat_abs (held_in memory).count

-- rule 5.2: its channel count
abbrev pub channels_in : List ℤ → ℕ
channels_in memory = nat_abs (held_in memory).channels

-- rule 5.4: 0 ≤ position < places of a line
abbrev pub position_within : ℕ → ℤ → Bool
position_within size at = cond (lt_z at (pos 0)) false (ltb (nat_abs at) size)

-- rule 5.4: what a lent memory is judged by, in order
abbrev pub memory_checks : List ℤ → List (Check Fault)
memory_checks memory =
    check (count_allowed (held_in memory).count) CountWrong ∷
    check (channels_allowed (held_in memory).channels) CountWrong ∷
    check (eqb (length memory) (memory_length (bands_in memory) (channels_in memory))) LengthWrong ∷
    check (position_within (line_length (bands_in memory)) (held_in memory).position) PositionOutside ∷ []

-- rule 5.4: an accepted memory
abbrev pub accepts : List ℤ → Bool
accepts memory = all_hold (memory_checks memory)

-- rule 5.4: what is wrong with a memory that is not accepted, by the first check that fails (of an accepted one nobody asks)
abbrev pub fault_of : List ℤ → Fault
fault_of memory = choose (memory_checks memory) PositionOutside

-- rule 5.2: both counts
abbrev pub counts_in : List ℤ → Counts
counts_in memory = record { bands = bands_in memory; channels = channels_in memory }

-- rule 5.4: a memory's counts, or what is wrong with it
abbrev pub kept_of : List ℤ → Result Counts Fault
kept_of memory = cond (accepts memory) (Ok (counts_in memory)) (Err (fault_of memory))
