-- The promise of the gain command: its one answer, for every command.
use Rattle.std.specs.Prelude.{pos, Result, Ok, ℤ}
use Rattle.gain.specs.Decibels.{decibels_gain}
use Rattle.gain.specs.Factor.{factor_gain}
use Rattle.gain.specs.declared.Command.{Command}
use Rattle.gain.specs.declared.Command.TheVariants.{Decibels, Factor, Off}
use Rattle.gain.specs.declared.GainError.{GainError}

-- rules 7.1, 7.7: the gain of decibels, of a factor, or of off, which is 0
abbrev pub command_gain : Command → Result ℤ GainError
command_gain (Decibels x) = decibels_gain x
command_gain (Factor x) = factor_gain x
command_gain Off = Ok (pos 0)
