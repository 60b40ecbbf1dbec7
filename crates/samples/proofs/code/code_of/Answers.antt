use Rattle.samples.proofs.Complement.{code-negative, code_positive, cast_is}
use Rattle.samples.proofs.code.code_of.Goals as goal

pub returns-then-sample-lt0 : goal.returns-then-sample-lt0
returns-then-sample-lt0 c =
    cast_is c.args.sample c.ranges.sample c.requires _ (code-negative c.args.sample c.ranges.sample c.requires c.if-sample-lt0.true)

pub returns-else-sample-lt0 : goal.returns-else-sample-lt0
returns-else-sample-lt0 c =
    cast_is c.args.sample c.ranges.sample c.requires _ (code_positive c.args.sample c.ranges.sample c.requires c.if-sample-lt0.false)
