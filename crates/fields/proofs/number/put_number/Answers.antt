use Rattle.fields.proofs.FourBytes.{number_put}
use Rattle.fields.proofs.number.put_number.Goals as goal

pub returns : goal.returns
returns g c =
    let a = c.args in
    number_put g.O.ByteOrder.order g.row.N a.at a.n a.buffer.now c.to_le_bytes-row.result c.turn.new.bytes c.copy_from_slice.new.self c.requires.1.0 c.requires.0
    c.to_le_bytes-row.ensures c.turn.ensures c.copy_from_slice.ensures.after
