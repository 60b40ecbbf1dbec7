-- The library call's answer can be encoded.
use Rattle.std.proofs.Common.{to_z-of_z}
use Rattle.samples.specs.Sample.{store_refusal}
use Rattle.encoding.proofs.Encoding.{lent_fits}
use Rattle.capi.proofs.Returnable.{put_counted}
use Rattle.capi.proofs.codec.oeq_sample_to_bytes.Goals as goal

pub count-requires : goal.count-requires
count-requires c =
    lent_fits store_refusal (rw (to_z-of_z c.ranges.sample) at c.sample_to_bytes.ensures) (put_counted c.args.sample c.args.buffer.now)
