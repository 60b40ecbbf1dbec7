-- Some arguments were taken in turn.
use Rattle.arguments.specs.Given.{AllTaken}
use Rattle.arguments.proofs.given.take.Given as goal

abbrev pub invariant-loop-i : goal.invariant-loop-i
invariant-loop-i g l = AllTaken l.initial.gains l.taken l.gains
