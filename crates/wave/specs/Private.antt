-- Bookkeeping of private functions: a reader of the promises needs none of it.
use Rattle.std.specs.Prelude.{List, ℕ, ◌+◌, ◌≤◌, length, Some, Result, Ok, Err}
use Rattle.answers.specs.Answer.{Answer, refused}
use Rattle.fields.specs.Bytes.{lowest}
use Rattle.chunks.specs.Walk.{header_length, size_in}
use Rattle.wave_values.specs.Values.{fmt_length}
use Rattle.chunks.specs.Walk.{Step, ends, on}
use Rattle.wave.specs.Walk.{Found, Seen, refusal_of}
use Rattle.wave.specs.declared.found.Sound.{Sound}
use Rattle.wave.specs.declared.refusal.Refusal.{Refusal}

-- a `fmt ` of a known length is all there
pub record FormatThere (rest : List ℕ) : Type 0 where
  pub long : fmt_length ≤ size_in lowest rest
  pub there : header_length + size_in lowest rest ≤ length rest

-- what a `fmt ` comes to: on with it, or the walk ends refused
abbrev pub met : Result Sound Refusal → Step Seen (Answer Found)
met (Ok sound) = on (Some sound)
met (Err r) = ends (refused (refusal_of r).number (refusal_of r).place)
