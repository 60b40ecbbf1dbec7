-- A whole run of the program, turn after turn: what it reads and what it writes after the header.
use Rattle.std.specs.Prelude.{◌≡◌, Bool, true, List, [], ◌∷◌, ◌++◌, ℕ, ◌+◌, ◌*◌, ◌≤◌, length, take, drop, replicate, ℤ, Option}
use Rattle.answers.specs.Checks.{Outcome}
use Rattle.fields.specs.Bytes.{Bytes}
use Rattle.frames.specs.Frames.{side_of, woven}
use Rattle.tree.specs.Prototype.{published}
use Rattle.tree.specs.Signal.{signal_of, gain_of}
use Rattle.tree.specs.Tree.{output}
use Rattle.octave.specs.Memory.{prepared}
use Rattle.history.specs.History.{from}
use Rattle.samples.specs.Channels.{count_of}
use Rattle.samples.specs.declared.channels.Channels.{Channels}
use Rattle.samples.specs.declared.format.Format.{Format}
use Rattle.wave_values.specs.Values.{frame_size}
use Rattle.eqfile.specs.declared.turn.Turn.{Turn}
use Rattle.arguments.specs.Arguments.{bands}
use Rattle.eqfile.specs.Data.{samples_from, numbers_from}
use Rattle.eqfile.specs.Turn.{late, fed_in_all, turn_of}
use Rattle.blocks.specs.Equalise.{equalise_of}

-- rule 10.10: where a run stands: the frames fed, the data bytes read, and the line memory
pub record State : Type 0 where
  pub at : ℕ
  pub read : ℕ
  pub memory : List ℤ

-- rule 10.9: before the first turn
abbrev pub fresh : Channels → State
fresh channels = record { at = 0; read = 0; memory = prepared bands (count_of channels) }

-- rule 10.11: the bytes that were read for a turn: no more than it wants, fewer if data ends early
pub record Arrives (turn : Turn) (piece : List ℕ) : Type 0 where
  pub read_most : length piece ≤ turn.wanted
  pub bytes : Bytes piece

-- rule 10.11: the data bytes read, joined
unfoldable pub handed : List (List ℕ) → List ℕ
handed [] = []
handed (u ∷ us) = u ++ handed us

-- rule 10.6: the bytes of a frame of the file
abbrev pub frame_bytes : Format → Channels → ℕ
frame_bytes format channels = frame_size (count_of channels) format

module _ (format : Format) (channels : Channels) (frames : ℕ) where
  -- rule 10.10: the turn that is next
  abbrev pub turn_at : State → Turn
  turn_at s = turn_of (count_of channels) (frame_bytes format channels) frames s.at s.read

  -- rule 10.16: the samples of a turn that read some bytes
  abbrev pub turn_samples : State → List ℕ → List ℤ
  turn_samples s u = samples_from (count_of channels * (turn_at s).fed) format u

  -- rule 10.19: each of them that is wholly there is a number
  abbrev pub turn_numbers : State → List ℕ → Bool
  turn_numbers s u = numbers_from (count_of channels * (turn_at s).fed) format u

  -- rules 10.11, 10.19: the bytes of a turn by the plan: they arrive so, and each sample is a number
  pub record Follows (s : State) (u : List ℕ) : Type 0 where
    pub arrives : Arrives (turn_at s) u
    pub numbers : turn_numbers s u ≡ true

module _ (gains : List ℤ) (format : Format) (channels : Channels) (frames : ℕ) where
  -- rule 10.16: the block of a turn that read some bytes
  abbrev pub block_done : State → List ℕ → Outcome (Option ℕ) (List ℤ × List ℕ)
  block_done s u =
      let t = turn_at format channels frames s in
      equalise_of s.memory gains (turn_samples format channels frames s u) (count_of channels * t.skipped) (replicate t.written 0)

  -- rule 10.10: where a run stands after that turn
  abbrev pub next : State → List ℕ → State
  next s u = record { at = s.at + (turn_at format channels frames s).fed; read = s.read + length u; memory = (block_done s u).lent.0 }

  -- rule 10.10: .. and after some turns
  unfoldable pub after : State → List (List ℕ) → State
  after s [] = s
  after s (u ∷ us) = after (next s u) us

  -- rule 10.10: each turn by the plan
  unfoldable pub Followed : State → List (List ℕ) → Type 0
  Followed s [] = Unit {0}
  Followed s (u ∷ us) = Follows format channels frames s u × Followed (next s u) us

  -- rule 10.10: .. until the file's frames and the zeros that follow are all fed
  abbrev pub ByPlan : State → List (List ℕ) → Type 0
  ByPlan s us = Followed s us × (fed_in_all frames ≤ (after s us).at)

  -- rule 10.8: the bytes that those turns hand over, joined
  unfoldable pub program_writes : State → List (List ℕ) → List ℕ
  program_writes s [] = []
  program_writes s (u ∷ us) = (block_done s u).lent.1 ++ program_writes (next s u) us

-- ---- what is written of what was read

-- rule 10.9: of one side's samples: output n + 1,143, for so many n
abbrev pub outputs_of : (gains : List ℤ) (frames : ℕ) → List ℤ → List ℤ
outputs_of gains frames xs = from late frames (output published bands (λ _. gain_of gains) (signal_of xs))

-- rule 10.9: .. and of all sides, frame by frame
abbrev pub frames_out : (gains : List ℤ) (channels : Channels) (frames : ℕ) → List ℤ → List ℤ
frames_out gains channels frames xs = woven (count_of channels) frames (λ s. outputs_of gains frames (side_of (count_of channels) s xs))

-- rule 10.12: the file's samples, from the bytes that were read
abbrev pub samples_read : (format : Format) (channels : Channels) (frames : ℕ) → List ℕ → List ℤ
samples_read format channels frames bytes = samples_from (count_of channels * frames) format bytes

-- ---- where the bytes come from

-- rule 10.11: the bytes of the front from a place on, and then some of standard input, but no more than are wanted
pub record Fetched (front : List ℕ) (from wanted : ℕ) (piece : List ℕ) : Type 0 where
  pub more : List ℕ
  pub is : piece ≡ take wanted (drop from front) ++ more
  pub most : length piece ≤ wanted

module _ (gains : List ℤ) (format : Format) (channels : Channels) (frames : ℕ) (front : List ℕ) (start : ℕ) where
  -- rule 10.11: each turn's bytes are fetched so: those of the front begin where the bytes read so far end
  unfoldable pub AllFetched : State → List (List ℕ) → Type 0
  AllFetched s [] = Unit {0}
  AllFetched s (u ∷ us) = Fetched front (start + s.read) (turn_at format channels frames s).wanted u × AllFetched (next gains format channels frames s u) us
