-- The unit's numbers, each named once (src/unit.rt has the same names for the code).
use Rattle.std.specs.Prelude.{ℕ, ◌*◌, ℤ, pos, negsuc}

-- rule 1.3: the least and the largest number of bands
abbrev pub fewest_bands : ℤ
fewest_bands = pos 2

-- rule 1.3: the largest number of bands
abbrev pub most_bands : ℤ
most_bands = pos 10

-- rule 1.10: the least number of channels
abbrev pub fewest_channels : ℤ
fewest_channels = pos 1

-- rule 1.10: the largest number of channels
abbrev pub most_channels : ℤ
most_channels = pos 2

-- rule 1.1: the ends of the sample range, 24 bits
abbrev pub least_sample : ℤ
least_sample = negsuc 8388607

-- rule 1.1: the other end
abbrev pub most_sample : ℤ
most_sample = pos 8388607

-- rule 1.1: the largest magnitude of a sample
abbrev pub largest_sample : ℕ
largest_sample = 8388608

-- rule 5.1: the ends of a lent place, 32 bits
abbrev pub least_place : ℤ
least_place = negsuc 2147483647

-- rule 5.1: the other end
abbrev pub most_place : ℤ
most_place = pos 2147483647

-- rule 1.2: gains go from 0 to here
abbrev pub largest_gain : ℕ
largest_gain = 16384

-- rule 1.2: the gain that changes nothing
abbrev pub unity : ℕ
unity = 4096

-- rule 1.4: the most frames of a block
abbrev pub block_limit : ℕ
block_limit = 4096

-- rule 10.10: the most frames that the program feeds in one block
abbrev pub turn_limit : ℕ
turn_limit = 256

-- rule 10.17: .. and their samples, with two channels
abbrev pub turn_room : ℕ
turn_room = 2 * turn_limit

-- rule 8.2: the most bytes that a header's reader looks at
abbrev pub front_length : ℕ
front_length = 4096

-- rule 8.13: the most bytes of samples that a header states: with 36 more and its pad the RIFF length stays below 2^32 (wave_writer/proofs/Sizes: `largest_is`)
abbrev pub largest_data : ℕ
largest_data = 4294967258
