-- By the exponent is by the value.
use Rattle.std.proofs.Common.{◌∙◌}
use Rattle.floats.proofs.Agree.{agree}
use Rattle.floats.proofs.code.sample_of_code.Goals as goal

pub returns : goal.returns
returns c = c.by_exponent.ensures ∙ agree c.args.code
