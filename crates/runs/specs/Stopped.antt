-- A run that stops: a block comes with a sample that is no number.
use Rattle.std.specs.Prelude.{◌≡◌, false, List, ◌++◌, ℕ, ◌*◌, ℤ}
use Rattle.wave_writer.specs.Header.{header}
use Rattle.samples.specs.Channels.{count_of}
use Rattle.samples.specs.declared.channels.Channels.{Channels}
use Rattle.samples.specs.declared.format.Format.{Format}
use Rattle.runs.specs.Program.{fresh, Arrives, turn_at, turn_numbers, after, Followed, program_writes}

module _ (gains : List ℤ) (format : Format) (channels : Channels) (frames : ℕ) where
  -- rule 10.19: after some turns by the plan a block's bytes arrive of which one sample is no number
  pub record Stops (us : List (List ℕ)) (u : List ℕ) : Type 0 where
    pub followed : Followed gains format channels frames (fresh channels) us
    pub arrives : Arrives (turn_at format channels frames (after gains format channels frames (fresh channels) us)) u
    pub bad : turn_numbers format channels frames (after gains format channels frames (fresh channels) us) u ≡ false

  -- rule 10.19: what such a run has written: the header, and what the turns before handed over
  abbrev pub stopped_file : (rate : ℕ) → List (List ℕ) → List ℕ
  stopped_file rate us =
      header rate (3 * (count_of channels * frames)) (count_of channels) ++ program_writes gains format channels frames (fresh channels) us
