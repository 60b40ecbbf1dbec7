use Rattle.samples.proofs.Complement.{low_is, high_is}
use Rattle.samples.proofs.code.number.Goals as goal

pub returns-then-code-lt8388608 : goal.returns-then-code-lt8388608
returns-then-code-lt8388608 c = low_is c.args.code c.requires c.if-code-lt8388608.true

pub returns-else-code-lt8388608 : goal.returns-else-code-lt8388608
returns-else-code-lt8388608 c = high_is c.args.code c.requires c.if-code-lt8388608.false
