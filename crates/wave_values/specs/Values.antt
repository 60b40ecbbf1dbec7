-- The right values of a `fmt ` chunk, in one place.
use Rattle.std.specs.Prelude.{ℕ, ◌*◌, Bool, ◌&&◌, ◌||◌, cond, eqb, Option, Some, None}
use Rattle.samples.specs.Channels.{count_of}
use Rattle.samples.specs.Format.{size_of}
use Rattle.samples.specs.declared.channels.Channels.{Channels}
use Rattle.samples.specs.declared.channels.Channels.TheVariants.{One, Two}
use Rattle.samples.specs.declared.format.Format.{Format}
use Rattle.samples.specs.declared.format.Format.TheVariants.{Bits16, Bits24, Float32}

-- rule 8.6: the length of `fmt `, as it is written
abbrev pub fmt_length : ℕ
fmt_length = 16

-- rule 8.6: .. and with two bytes more
abbrev pub long_fmt_length : ℕ
long_fmt_length = 18

-- rule 8.6: `fmt ` has one of the two lengths
unfoldable pub known_length : ℕ → Bool
known_length size = eqb size fmt_length || eqb size long_fmt_length

-- rule 8.9: the block size: the bytes of one frame, a sample of each of `count` channels
abbrev pub frame_size : (count : ℕ) → Format → ℕ
frame_size count format = count * size_of format

-- rule 8.8: whole numbers: 16 or 24 bits, and `fmt ` has sixteen bytes
unfoldable pub whole_coding : (size bits : ℕ) → Option Format
whole_coding size bits = cond (eqb size fmt_length) (cond (eqb bits 16) (Some Bits16) (cond (eqb bits 24) (Some Bits24) None)) None

-- rule 8.8: floats: 32 bits, and what `fmt ` has behind the sixteen bytes is 0
unfoldable pub float_coding : (extra bits : ℕ) → Option Format
float_coding extra bits = cond (eqb bits 32) (cond (eqb extra 0) (Some Float32) None) None

-- rule 8.8: the tag says which
unfoldable pub coding_of : (size extra tag bits : ℕ) → Option Format
coding_of size extra tag bits = cond (eqb tag 1) (whole_coding size bits) (cond (eqb tag 3) (float_coding extra bits) None)

-- rule 8.8: the channel count says one or two channels
unfoldable pub channels_of : ℕ → Option Channels
channels_of count = cond (eqb count 1) (Some One) (cond (eqb count 2) (Some Two) None)

-- rule 8.8: the rate is one of the two
unfoldable pub known_rate : ℕ → Bool
known_rate rate = eqb rate 44100 || eqb rate 48000

-- rule 8.8: the other values are right for a format and its channels
unfoldable pub right : Format → Channels → (rate byteRate block : ℕ) → Bool
right format channels rate byteRate block =
    let size = frame_size (count_of channels) format in
    known_rate rate && (eqb block size && eqb byteRate (rate * size))
