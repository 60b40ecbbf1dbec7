-- A run that has started.
use Rattle.std.specs.Prelude.{◌≡◌, List, ◌++◌, ℕ, ◌*◌, ◌≤◌, length, ℤ, Some, Ok}
use Rattle.answers.specs.Answer.{accepted}
use Rattle.answers.specs.Unit.{front_length}
use Rattle.chunks.specs.Walk.{pad}
use Rattle.wave_writer.specs.Header.{header}
use Rattle.samples.specs.Channels.{count_of}
use Rattle.samples.specs.declared.channels.Channels.{Channels}
use Rattle.samples.specs.declared.format.Format.{Format}
use Rattle.arguments.specs.Arguments.{bands, arguments_of}
use Rattle.eqfile.specs.Start.{start_of, start_answer}
use Rattle.runs.specs.Program.{fresh, program_writes}

-- rules 10.3, 10.5: some arguments were accepted with these gains, and the front, at most 4,096 bytes, with this rate, format, channels, number of frames and start of the data
pub record Started (gains : List ℤ) (front : List ℕ) (rate : ℕ) (format : Format) (channels : Channels) (frames start : ℕ) : Type 0 where
  pub texts : List (List ℕ)
  pub taken : arguments_of texts ≡ accepted gains
  pub few : length front ≤ front_length
  pub begins : start_answer (Ok (record { rate = rate; format = format; channels = channels; frames = frames; start = start })) ≡ start_of (Some bands) front

-- rule 10.8: what a run writes behind the header: what its turns hand over, and the pad
abbrev pub body_of : (gains : List ℤ) (format : Format) (channels : Channels) (frames : ℕ) → List (List ℕ) → List ℕ
body_of gains format channels frames us = program_writes gains format channels frames (fresh channels) us ++ pad (3 * (count_of channels * frames))

-- rule 10.8: the file that a run writes
abbrev pub file_of : (gains : List ℤ) (rate : ℕ) (format : Format) (channels : Channels) (frames : ℕ) → List (List ℕ) → List ℕ
file_of gains rate format channels frames us = header rate (3 * (count_of channels * frames)) (count_of channels) ++ body_of gains format channels frames us
