-- What the rest gives from i on is what the whole part gives.
use Rattle.tree.specs.Prototype.{published}
use Rattle.lines.proofs.Loops.{Going}
use Rattle.lines.proofs.row.part.Given as goal

abbrev pub invariant-loop-i : goal.invariant-loop-i
invariant-loop-i g l = Going published l.ring.size l.ring.at l.ring.l l.from l.to l.initial.lines l.initial.rows l.lines l.rows l.i
