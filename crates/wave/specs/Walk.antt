-- The header reader: what each chunk of the front comes to, and the checks around the walk.
use Rattle.std.specs.Prelude.{ℕ, ◌+◌, ◌%◌, ◌&&◌, cond, List, length, take, drop, eqb, leb, Option, Some, None, Result}
use Rattle.answers.specs.Answer.{Answer, accepted, refused, plain, answered}
use Rattle.answers.specs.Unit.{front_length}
use Rattle.answers.specs.declared.refused.Refused.{Refused}
use Rattle.fields.specs.Bytes.{lowest, field, same}
use Rattle.chunks.specs.Walk.{header_length, size_in, named, contained, Step, ends, on, walk}
use Rattle.samples.specs.Channels.{count_of}
use Rattle.samples.specs.declared.channels.Channels.{Channels}
use Rattle.samples.specs.declared.format.Format.{Format}
use Rattle.wave.specs.Names.{riff, wave, fmt, data'}
use Rattle.wave_values.specs.Values.{long_fmt_length, known_length, frame_size, coding_of, channels_of, right}
use Rattle.wave.specs.declared.found.Sound.{Sound}
pub use Rattle.wave.specs.declared.found.Found.{Found}
use Rattle.wave.specs.declared.refusal.Refusal.{Refusal}
use Rattle.wave.specs.declared.refusal.Refusal.TheVariants.{NotWave, NoFormat, WrongFormat, CutOff, PartFrame}

-- rule 8.6: the `fmt ` before a chunk: none, or its rate, format and channels
abbrev pub Seen : Type 0
Seen = Option Sound

-- rule 8.6: no `fmt ` is met
abbrev pub nothing : Seen
nothing = None

-- rule 8.6: one is met
abbrev pub sound : ℕ → Format → Channels → Seen
sound rate format channels = Some (record { rate = rate; format = format; channels = channels })

-- rule 8.6: a second `fmt ` is 23
unfoldable pub first : Seen → Step Seen (Answer Found) → Step Seen (Answer Found)
first None step = step
first (Some before) step = ends (refused 23 0)

-- rule 8.8: the values beside the format and the channels are judged with these
unfoldable pub judged : Option Format → Option Channels → (rate byteRate block : ℕ) → Step Seen (Answer Found)
judged (Some format) (Some channels) rate byteRate block =
    cond (right format channels rate byteRate block) (on (sound rate format channels)) (ends (refused 23 0))
judged (Some format) None rate byteRate block = ends (refused 23 0)
judged None sides rate byteRate block = ends (refused 23 0)

-- rule 8.7: the two bytes of a `fmt ` of 18 behind the sixteen; 0 where there are none
unfoldable pub extra_in : List ℕ → ℕ
extra_in rest = cond (eqb (size_in lowest rest) long_fmt_length) (field lowest rest 24 2) 0

-- rule 8.7: where the values of a `fmt ` stand, `rest` the front from it on
unfoldable pub values : List ℕ → Step Seen (Answer Found)
values rest =
    judged (coding_of (size_in lowest rest) (extra_in rest) (field lowest rest 8 2) (field lowest rest 22 2)) (channels_of (field lowest rest 10 2))
    (field lowest rest 12 4) (field lowest rest 16 4) (field lowest rest 20 2)

-- rule 8.6: a `fmt ` chunk: its length, then whether it is all there, then whether it is the first, then its values
unfoldable pub fmt_chunk : List ℕ → Seen → Step Seen (Answer Found)
fmt_chunk rest seen =
    cond (known_length (size_in lowest rest))
    (cond (contained lowest rest) (first seen (values rest)) (ends (refused 24 0)))
    (ends (refused 23 0))

-- rule 8.10: a `data` chunk at a place ends the walk
unfoldable pub data_chunk : (size at : ℕ) → Seen → Answer Found
data_chunk size at None = refused 22 0
data_chunk size at (Some s) =
    accepted (record { rate = s.rate; format = s.format; channels = s.channels; size = size; start = at + header_length })

-- rules 8.6, 8.10, 8.11: any chunk whose header is in the front
unfoldable pub chunk : List ℕ → ℕ → Seen → Step Seen (Answer Found)
chunk rest at seen =
    cond (named rest fmt) (fmt_chunk rest seen)
    (cond (named rest data') (ends (data_chunk (size_in lowest rest) at seen))
    (on seen))

-- rules 8.3, 8.4: the names, then the walk from byte 12 to the `data` chunk
unfoldable pub find : List ℕ → Answer Found
find front =
    cond (leb 12 (length front) && (same (take 4 front) riff && same (take 4 (drop 8 front)) wave))
    (walk lowest (refused 24 0) chunk (length front) front 12 nothing)
    (refused 21 0)

-- rule 8.10: the length of `data` is whole frames
unfoldable pub whole_frames : Answer Found → Answer Found
whole_frames (accepted f) = cond (eqb (f.size % frame_size (count_of f.channels) f.format) 0) (accepted f) (refused 25 0)
whole_frames (refused number place) = refused number place

-- rule 8.2: `find` looks at the front alone
unfoldable pub find_of : List ℕ → Answer Found
find_of lent = find (take front_length lent)

-- rule 8.10: `read` finds the data, and then judges its length
unfoldable pub read_of : List ℕ → Answer Found
read_of lent = whole_frames (find_of lent)

-- rule 6.8: the number of a refusal
abbrev pub refusal_of : Refusal → Refused
refusal_of NotWave = plain 21
refusal_of NoFormat = plain 22
refusal_of WrongFormat = plain 23
refusal_of CutOff = plain 24
refusal_of PartFrame = plain 25

-- rule 6.8: numbers and values of `find` and `read`
abbrev pub found_answer : Result Found Refusal → Answer Found
found_answer r = answered refusal_of r
