use Rattle.floats.proofs.Shift.{is_negative}
use Rattle.floats.proofs.code.shifted.Goals as goal

pub returns-then-negative : goal.returns-then-negative
returns-then-negative c = rw c.if-negative.true (is_negative c.args.digits c.args.k c.requires)
