use Rattle.fields.specs.Bytes.{ordered}
use Rattle.fields.proofs.number.HighestByteOrder.turn.Goals as goal

pub returns : goal.returns
unfolding ordered
returns c = c.reverse.ensures.after
