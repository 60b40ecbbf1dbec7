-- The bits of what is no NaN give the float back.
use Rattle.std.proofs.Common.{ap, ◌∙◌}
use denote.Floats.{passes}
use lib.Ieee.{binary32, fits}
use lib.Ieee.Bits.{of_bits-to_bits}
use Rattle.floats.specs.Value.{float_sample}
use Rattle.floats.proofs.NoNumber.{nan_none}
use Rattle.floats.proofs.single.sample_from_float.Goals as goal

pub returns-then-is_nan : goal.returns-then-is_nan
returns-then-is_nan c = nan_none c.args.value (cc)

pub returns : goal.returns
returns c = c.sample_of_code.ensures ∙ ap float_sample (of_bits-to_bits binary32 c.args.value (passes (fits binary32 c.args.value) c.well_formed.0.1))
