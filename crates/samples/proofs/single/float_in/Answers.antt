use Rattle.std.proofs.Common.{ap, ◌∙◌}
use lib.Ieee.{binary32, of_bits}
use Rattle.floats.specs.Value.{float_sample}
use Rattle.samples.proofs.Codec.{whole_field}
use Rattle.samples.proofs.single.float_in.Goals as goal

pub returns : goal.returns
returns c = c.sample_of_code.ensures ∙ ap (λ (k : _). float_sample (of_bits binary32 k)) (whole_field c.args.bytes.now 4 c.number_at.result c.requires c.number_at.ensures.0)
