use Rattle.std.proofs.Common.{ap, ℕ, ◌+◌}
use Rattle.chunks.specs.Walk.{header_length, next}
use Rattle.chunks.proofs.place.next_chunk.Goals as goal

pub returns : goal.returns
unfolding next
returns c = ap (λ (n : ℕ). c.args.at + header_length + (c.args.size + n)) c.padding.ensures
