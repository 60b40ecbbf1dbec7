-- The first i outputs are put on the side, and the other sides are as they were.
use Rattle.frames.proofs.Loops.{Putting}
use Rattle.weighing.specs.Weighing.{out_of}
use Rattle.weighing.specs.Helpers.{gain_sum}
use Rattle.weighing.proofs.rows.weigh_rows.Given as goal

abbrev pub invariant-loop-i : goal.invariant-loop-i
invariant-loop-i l = Putting l.side.channels l.side.s (λ j. out_of (gain_sum l.matrix.bands l.matrix.bands j l.matrix.rows.now l.weights.differences)) l.initial.output l.output l.i
