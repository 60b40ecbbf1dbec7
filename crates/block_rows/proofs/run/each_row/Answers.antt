use Rattle.std.proofs.Common.{◌≡◌, ℕ, ◌+◌, ◌-◌, ◌*◌, List, length, refl, ap, ◌∙◌, ℤ, arith}
use borrow.Rule.Slice.PartMut.{same_len_mid}
use Rattle.frames.proofs.Laws.{whole_frames_lem}
use Rattle.tree.specs.Signal.{gain_of}
use Rattle.weighing.proofs.GainSums.{under_gains}
use Rattle.block_rows.proofs.Running.{going_starts, going_on, going_ends}
use Rattle.block_rows.proofs.run.each_row.Goals as goal
use Rattle.block_rows.proofs.run.each_row.Goals.{then-twice, else-twice}

pub loop-i-init : goal.loop-i-init
loop-i-init c =
    let a = c.args in
    let starts = λ (g : ℕ → ℤ) (output : List ℤ). going_starts a.block.now.bands a.size a.from a.side.channels a.side.s c.frames_in-frames.result g a.lines.now a.block.now.input.now a.rows.now output c.requires.1 in
    (starts (gain_of a.block.now.gains.now) a.output.now, λ _. starts (gain_of a.block.now.others.now) a.second.now, refl)

pub loop-i-preserved : goal.loop-i-preserved
loop-i-preserved c =
    let a = c.args in
    let q = c.requires in
    let l = c.loop-i in
    let n = c.row_length-n.result in
    let short = c.row_length-n.ensures in
    let row = c.side_row in
    let weighed = c.weigh_rows in
    -- the input is its frames
    let whole : length a.block.now.input.now ≡ a.side.channels * c.frames_in-frames.result = whole_frames_lem (length a.block.now.input.now) a.side.channels q.4 c.frames_in-frames.ensures in
    let under = under_gains a.block.now.gains.now a.block.now.allowed.counted c.of-weights.ensures.0 weighed.ensures in
    let first = a.side.channels * l.i in
    let end = a.side.channels * (l.i + n) in
    rw c.wrapped-at.ensures (
      going_on l.invariant.0 q.0 a.side.there whole q.3 q.5 n row.new.lines row.new.rows weighed.new.output short.2 short.3 row.auto.lines row.auto.rows weighed.auto.output row.ensures under,
      λ twice. elim c.if-twice.branch [
        | then-twice w ↦
            rw w.second-is
            (going_on (l.invariant.1 twice) q.0 a.side.there whole (q.2.alike twice) q.5 n row.new.lines row.new.rows w.weigh_with.new.output short.2 short.3 row.auto.lines row.auto.rows w.weigh_with.auto.output
            row.ensures w.weigh_with.ensures)
        | else-twice w ↦ absurd (omega arith)
      ],
      elim c.if-twice.branch [
        | then-twice w ↦ ap length w.second-is ∙ same_len_mid first (end - first) l.second w.weigh_with.new.output w.weigh_with.auto.output ∙ l.invariant.2
        | else-twice w ↦ ap length w.second-is ∙ l.invariant.2
      ],
    )

pub returns : goal.returns
returns c =
    let a = c.args in
    let q = c.requires in
    let l = c.loop-i in
    let whole : length a.block.now.input.now ≡ a.side.channels * c.frames_in-frames.result = whole_frames_lem (length a.block.now.input.now) a.side.channels q.4 c.frames_in-frames.ensures in
    record {
      first = rw c.frames_in-frames.ensures at (going_ends l.invariant.0 q.0 a.side.there whole q.3 q.5 c.loop-i-test.false);
      again = λ asked. rw c.frames_in-frames.ensures at (going_ends (l.invariant.1 asked) q.0 a.side.there whole (q.2.alike asked) q.5 c.loop-i-test.false);
    }
