-- The lines from line b on are added.
use Rattle.weighing.proofs.GainSums.{Summing}
use Rattle.weighing.proofs.rows.sum_at.Given as goal

abbrev pub invariant-loop-b : goal.invariant-loop-b
invariant-loop-b l = Summing l.matrix.bands l.i l.matrix.rows.now l.weights.differences l.sum l.b
