use Rattle.chunks.proofs.Headers.{header_row}
use Rattle.chunks.proofs.lowest.put_chunk.Goals as goal

pub returns : goal.returns
returns c = search header_row
