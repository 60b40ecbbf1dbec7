use Rattle.std.proofs.Common.{refl}
use Rattle.fields.specs.Bytes.{ordered}
use Rattle.fields.proofs.number.LowestByteOrder.turn.Goals as goal

pub returns : goal.returns
unfolding ordered
returns c = refl
