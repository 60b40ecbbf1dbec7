-- What the program hands over and says, in the definitions of a run: each write is the next part of it, and `short` is what the header states but was not read. Assumes nothing.
use mathlib.Core.Path.{◌≡◌, sym, ap, subst, ◌∙◌}
use mathlib.Core.Bool.{false}
use mathlib.Core.List.{List, [], ◌∷◌, ◌++◌}
use Prim.Native.Nat.{ℕ, ◌+◌, ◌-◌, ◌*◌}
use lib.ListN.{length, take, drop}
use lib.IntN.{ℤ}
use Rattle.fields.specs.Bytes.{lowest, field}
use Rattle.chunks.specs.Walk.{padded}
use Rattle.samples.specs.Channels.{count_of}
use Rattle.samples.specs.Samples.{bytes_of}
use Rattle.wave_writer.specs.Header.{header}
use Rattle.eqfile.specs.declared.turn.Turn.{Turn}
use Rattle.eqfile.specs.Data.{samples_from}
use Rattle.eqfile.specs.Turn.{late, short_of}
use Rattle.runs.specs.Program.{State, fresh, Arrives, handed, frame_bytes, turn_at, turn_numbers, block_done, program_writes, frames_out}
use Rattle.runs.specs.Started.{file_of}
use Rattle.runs.specs.Stopped.{Stops, stopped_file}
use Rattle.runs.proofs.OneMore.{writes_more}
use Rattle.runs.proofs.Starting.{stated}
use Rattle.runs.proofs.DataRead.{short_adds_up, front_first}
use Rattle.runs.proofs.WholeFile.{file_length, riff-length}
use Rattle.runs.proofs.Stopping.{stopped_is}
use Rattle.eqfile.specs.declared.plan.Plan.{Plan}
use Rattle.turning.specs.Running.{Running, Stopped, Due, Ended}

-- what is handed over follows what the turns before it handed over
pub due_is_next : (plan : Plan) (gains : List ℤ) (front bytes : List ℕ) (d : Due plan gains front bytes) →
    let us = d.came.arrived.running.pieces in
    program_writes gains plan.format plan.channels plan.frames (fresh plan.channels) (us ++ d.piece ∷ []) ≡ program_writes gains plan.format plan.channels plan.frames (fresh plan.channels) us ++ bytes
due_is_next plan gains front bytes d =
    let run = d.came.arrived.running in
    let us = run.pieces in
    writes_more gains plan.format plan.channels plan.frames (fresh plan.channels) us d.piece ∙
    ap (λ (l : List ℕ). program_writes gains plan.format plan.channels plan.frames (fresh plan.channels) us ++ l)
    (sym (d.is ∙ ap (λ (s : State). (block_done gains plan.format plan.channels plan.frames s d.piece).lent.1) run.stands))

module _ (plan : Plan) (gains : List ℤ) (front : List ℕ) (read : ℕ) (e : Ended plan gains front read) where
  -- the bytes read and those that are short are the `data` that the header states
  pub short_said : read + short_of (frame_bytes plan.format plan.channels) plan.frames read ≡ (stated e.started).found.size
  short_said =
      ap (λ (n : ℕ). n + short_of (frame_bytes plan.format plan.channels) plan.frames n) e.read_is ∙
      short_adds_up gains plan.format plan.channels plan.frames e.pieces e.by_plan.0 ∙ sym (stated e.started).size_is

  -- what of the data came with the front was read first
  pub front_read_first : let came = take (frame_bytes plan.format plan.channels * plan.frames) (drop plan.start front) in take (length came) (handed e.pieces) ≡ came
  front_read_first = front_first gains plan.format plan.channels plan.frames front plan.start e.pieces e.by_plan e.fetched

  abbrev file : List ℕ
  file = file_of gains e.rate plan.format plan.channels plan.frames e.pieces

  -- the file is as long as its header says, with the pad ..
  pub whole_length : length file ≡ 44 + padded (3 * (count_of plan.channels * plan.frames))
  whole_length = file_length e.started e.pieces e.by_plan

  -- .. and as its RIFF length says
  pub riff_says : field lowest file 4 4 + 8 ≡ length file
  riff_says = riff-length e.started e.pieces e.by_plan

-- a run that stops
module _ (plan : Plan) (gains : List ℤ) (front : List ℕ) (st : Stopped plan gains front) where
  abbrev run : Running plan gains front st.place st.memory
  run = st.arrived.running

  abbrev before : List (List ℕ)
  before = run.pieces

  -- it stops by the definition
  pub stops_so : Stops gains plan.format plan.channels plan.frames before st.piece
  stops_so =
      record {
        followed = run.followed;
        arrives =
            subst (λ (s : State). Arrives (turn_at plan.format plan.channels plan.frames s) st.piece) run.stands
            (subst (λ (t : Turn). Arrives t st.piece) st.arrived.turn_is st.arrived.arrives);
        bad = subst (λ (s : State). turn_numbers plan.format plan.channels plan.frames s st.piece ≡ false) run.stands st.bad;
      }

  -- what was handed over is the header, and the outputs of the blocks before
  pub stopped_writes : let at = st.place.at in let c = count_of plan.channels in
      stopped_file gains plan.format plan.channels plan.frames run.rate before ≡
      header run.rate (3 * (c * plan.frames)) c ++ bytes_of (frames_out gains plan.channels (at - late) (samples_from (c * at) plan.format (handed before)))
  stopped_writes =
      let c = count_of plan.channels in
      stopped_is run.started before st.piece stops_so ∙
      ap (λ (s : State). header run.rate (3 * (c * plan.frames)) c ++ bytes_of (frames_out gains plan.channels (s.at - late) (samples_from (c * s.at) plan.format (handed before))))
      (sym run.stands)
