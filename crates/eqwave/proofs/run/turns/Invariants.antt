-- The run stands where its turns so far lead, and each feeds more.
use Rattle.std.proofs.Common.{◌-◌}
use Rattle.turning.specs.Running.{Running}
use Rattle.eqwave.proofs.run.turns.Given as goal

abbrev pub invariant-loop-place : goal.invariant-loop-place
invariant-loop-place g l = Running l.run.plan l.run.gains.now l.run.front.now l.place l.memory

abbrev pub decreases-loop-place : goal.decreases-loop-place
decreases-loop-place g l = l.total - l.place.at
