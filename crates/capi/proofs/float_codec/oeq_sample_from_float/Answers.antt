-- The library call's answer can be encoded.
use Rattle.floats.specs.Value.{number_refusal}
use Rattle.encoding.proofs.Encoding.{signed_fits}
use Rattle.capi.proofs.Floats.{float_returnable}
use Rattle.capi.proofs.float_codec.oeq_sample_from_float.Goals as goal

pub signed-requires : goal.signed-requires
signed-requires c = signed_fits number_refusal c.sample_from_float.ensures (float_returnable c.args.value)
