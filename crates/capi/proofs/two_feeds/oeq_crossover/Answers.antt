-- The library call's answer can be encoded, and what it leaves.
use Rattle.std.proofs.Common.{to_z-of_z}
use Rattle.crossover.specs.Answer.{cross_refusal}
use Rattle.encoding.proofs.Encoding.{lent_fits, lent_returned}
use Rattle.capi.proofs.Returnable.{cross_counted}
use Rattle.capi.proofs.two_feeds.oeq_crossover.Goals as goal

pub count-requires : goal.count-requires
count-requires c =
    lent_fits cross_refusal (rw (to_z-of_z c.ranges.split) at c.cross.ensures)
    (cross_counted c.args.memory.now c.args.gains.now c.args.split c.args.input.now c.args.bass.now c.args.horn.now)

pub returns : goal.returns
returns c = lent_returned cross_refusal (rw (to_z-of_z c.ranges.split) at c.cross.ensures) c.count.ensures c.count.type_inv
