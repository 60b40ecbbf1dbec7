-- For either output, the sides before s are done.
use Rattle.std.proofs.Common.{ℕ, ◌-◌, ◌*◌, ◌/◌, length}
use Rattle.frames.specs.Frames.{side_of, places_of}
use Rattle.tree.specs.Prototype.{published}
use Rattle.tree.specs.Signal.{gain_of}
use Rattle.lines.specs.Cascade.{run}
use Rattle.block_rows.specs.Helpers.{Asked}
use Rattle.block_sides.proofs.BothSides.{Going}
use Rattle.block_sides.proofs.run.each_side.Given as goal

abbrev pub invariant-loop-s : goal.invariant-loop-s
invariant-loop-s g l =
    let b = l.block in
    let ran = λ (s : ℕ). run published l.size (b.bands - 1) l.from (places_of ((b.bands - 1) * l.size) s l.initial.lines) (side_of l.channels s b.input.now) in
    Going l.channels ((b.bands - 1) * l.size) ran (gain_of b.gains.now) (length b.input.now / l.channels) l.initial.lines l.lines l.at l.output l.s ×
    (Asked b.others.now → Going l.channels ((b.bands - 1) * l.size) ran (gain_of b.others.now) (length b.input.now / l.channels) l.initial.lines l.lines l.at l.second l.s)
