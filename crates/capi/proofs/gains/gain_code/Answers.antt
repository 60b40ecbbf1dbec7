-- The gain command's answer can be encoded.
use Rattle.gain.specs.Answer.{gain_refusal}
use Rattle.encoding.proofs.Encoding.{signed_fits}
use Rattle.capi.proofs.Returnable.{gain_returnable}
use Rattle.capi.proofs.gains.gain_code.Goals as goal

pub signed-requires : goal.signed-requires
signed-requires c = signed_fits gain_refusal c.gain.ensures (gain_returnable c.args.command)
