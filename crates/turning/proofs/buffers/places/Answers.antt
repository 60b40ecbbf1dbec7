use Rattle.turning.proofs.Places.{not_refused, places_are}
use Rattle.turning.proofs.buffers.places.Goals as goal

pub unwrap-requires : goal.unwrap-requires
unwrap-requires c = not_refused c.args.channels c.count.ensures.0 c.memory_length.ensures

pub returns-clause-value : goal.returns-clause-value
returns-clause-value c = places_are c.args.channels c.count.ensures.0 c.memory_length.ensures c.unwrap.ensures
