-- A rounded number as the machine reads it back. Assumes nothing.
use lib.IntN.{ℤ}
use mir.Syntax.{Width}
use mir.Val.{to_z, of_z}

-- a number as the machine reads it back from its bits: z itself where z fits (`to_z-of_z`)
abbrev pub raw : Width → ℤ → ℤ
raw w z = to_z w (of_z w z)
