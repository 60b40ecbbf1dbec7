use Rattle.arguments.proofs.TakenInTurn.{none_taken, one_more}
use Rattle.arguments.proofs.given.take.Goals as goal

pub loop-i-init : goal.loop-i-init
loop-i-init g c = none_taken _

pub loop-i-preserved : goal.loop-i-preserved
loop-i-preserved g c = one_more _ c.loop-i.gains _ c.loop-i.taken _ c.loop-i.invariant c.another-taken.ensures
