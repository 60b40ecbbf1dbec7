-- Up to place i the differences are found.
use Rattle.weighing.proofs.Differing.{Found}
use Rattle.weighing.proofs.weights.Weights.of.Given as goal

abbrev pub invariant-loop-i : goal.invariant-loop-i
invariant-loop-i l = Found l.gains l.difference-items l.i
