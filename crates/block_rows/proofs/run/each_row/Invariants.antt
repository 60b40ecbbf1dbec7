-- For either output, what the rest gives from frame i on is what the whole run gives.
use Rattle.std.proofs.Common.{◌≡◌, ◌-◌, length}
use Rattle.tree.specs.Signal.{gain_of}
use Rattle.block_rows.specs.Helpers.{Asked}
use Rattle.block_rows.proofs.Running.{Going}
use Rattle.block_rows.proofs.run.each_row.Given as goal

abbrev pub invariant-loop-i : goal.invariant-loop-i
invariant-loop-i l =
    let b = l.block in
    Going b.bands l.size l.from l.side.channels l.side.s l.frames (gain_of b.gains.now) l.initial.lines b.input.now l.initial.rows l.initial.output l.lines l.rows l.output l.at l.i ×
    (Asked b.others.now → Going b.bands l.size l.from l.side.channels l.side.s l.frames (gain_of b.others.now) l.initial.lines b.input.now l.initial.rows l.initial.second l.lines l.rows l.second l.at l.i) ×
    (length l.second ≡ length l.initial.second)

abbrev pub decreases-loop-i : goal.decreases-loop-i
decreases-loop-i l = l.frames - l.i
