-- The first i numbers of the side stand in the row.
use Rattle.std.proofs.Common.{length}
use Rattle.frames.proofs.Loops.{Gathering}
use Rattle.frames.proofs.sides.take_side.Given as goal

abbrev pub invariant-loop-i : goal.invariant-loop-i
invariant-loop-i g l = Gathering g.row.CHANNELS l.s (length l.initial.row) l.block l.initial.row l.row l.i
