-- The sample formats that a file may hold.
use Rattle.std.specs.Prelude.{ℕ, ◌/◌}
use Rattle.samples.specs.declared.format.Format.{Format}
use Rattle.samples.specs.declared.format.Format.TheVariants.{Bits16, Bits24, Float32}

-- rule 8.9: the bits of one sample
abbrev pub bits_of : Format → ℕ
bits_of Bits16 = 16
bits_of Bits24 = 24
bits_of Float32 = 32

-- rule 8.9: the bytes of one sample are its bits over 8
abbrev pub size_of : Format → ℕ
size_of format = bits_of format / 8
