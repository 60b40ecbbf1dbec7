-- The library call's answer can be encoded, and what it leaves.
use Rattle.std.proofs.Common.{to_z-of_z}
use Rattle.octave.specs.Answer.{prepare_refusal}
use Rattle.encoding.proofs.Encoding.{lent_fits, lent_returned}
use Rattle.capi.proofs.Returnable.{prepare_counted}
use Rattle.capi.proofs.equaliser.oeq_prepare.Goals as goal

pub count-requires : goal.count-requires
count-requires c =
    lent_fits prepare_refusal (rw (to_z-of_z c.ranges.bands, to_z-of_z c.ranges.channels) at c.prepare.ensures)
    (prepare_counted c.args.bands c.args.channels c.args.memory.now)

pub returns : goal.returns
returns c =
    lent_returned prepare_refusal (rw (to_z-of_z c.ranges.bands, to_z-of_z c.ranges.channels) at c.prepare.ensures) c.count.ensures
    c.count.type_inv
