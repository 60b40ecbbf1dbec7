-- The library call's answer can be encoded.
use Rattle.samples.specs.Sample.{sample_refusal}
use Rattle.encoding.proofs.Encoding.{signed_fits}
use Rattle.capi.proofs.Returnable.{sample_returnable}
use Rattle.capi.proofs.codec.oeq_sample_from_bytes.Goals as goal

pub signed-requires : goal.signed-requires
signed-requires c = signed_fits sample_refusal c.sample_from_bytes.ensures (sample_returnable c.args.bytes.now)
