-- What was carried, and what came in behind it.
use Rattle.turning.proofs.Fetching.{came_in}
use Rattle.turning.proofs.input.fetch.Goals as goal

pub returns-clause-fetched : goal.returns-clause-fetched
returns-clause-fetched g c =
    came_in c.args.front.now c.args.bytes.now c.args.from c.carry-had.result c.carry-had.new.bytes c.carry-had.ensures c.fill.result c.fill.new.bytes c.fill.ensures c.fill.auto.bytes
