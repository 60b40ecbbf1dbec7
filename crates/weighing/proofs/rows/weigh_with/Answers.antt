use Rattle.weighing.specs.Helpers.{Differ}
use Rattle.tree.specs.Signal.{gain_of}
use Rattle.weighing.proofs.GainSums.{under_gains}
use Rattle.weighing.proofs.rows.weigh_with.Goals as goal

pub returns : goal.returns
returns c =
    let differ : Differ (gain_of c.args.gains.now) c.from_lowest-weights.result.differences = rw c.from_lowest-weights.ensures.0 c.of.ensures.0 in
    under_gains c.args.gains.now c.requires.0.counted differ c.weigh_rows.ensures
