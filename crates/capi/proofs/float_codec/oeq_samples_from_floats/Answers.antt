-- The library call's answer can be encoded.
use Rattle.floats.specs.Block.{floats_refusal}
use Rattle.encoding.proofs.Encoding.{lent_fits}
use Rattle.capi.proofs.Floats.{floats_counted}
use Rattle.capi.proofs.float_codec.oeq_samples_from_floats.Goals as goal

pub count-requires : goal.count-requires
count-requires c = lent_fits floats_refusal c.placed.ensures (floats_counted c.args.values.now c.args.samples.now)
