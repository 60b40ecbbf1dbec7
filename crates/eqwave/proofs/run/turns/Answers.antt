use Rattle.std.proofs.Common.{arith}
use Rattle.turning.proofs.Standing.{ended}
use Rattle.eqwave.proofs.run.turns.Goals as goal

pub returns : goal.returns
returns g c =
    let r = c.args.run in
    let l = c.loop-place in
    ended r.plan r.gains.now r.front.now l.place l.memory l.invariant (omega arith)
