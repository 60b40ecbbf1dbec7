-- The channels of a file: one or two.
use Rattle.std.specs.Prelude.{ℕ}
use Rattle.samples.specs.declared.channels.Channels.{Channels}
use Rattle.samples.specs.declared.channels.Channels.TheVariants.{One, Two}

-- rule 1.10: their number
abbrev pub count_of : Channels → ℕ
count_of One = 1
count_of Two = 2
