-- The turns start from a prepared memory.
use Rattle.eqwave.proofs.Beginning.{memory_taken, part_prepared, at_start}
use Rattle.eqwave.proofs.run.put_file.Goals as goal

pub unwrap-requires : goal.unwrap-requires
unwrap-requires g c = memory_taken c.args.run.plan.channels c.places-places.ensures.value c.count-sides.ensures.0 c.prepare.ensures

pub turns-requires : goal.turns-requires
turns-requires g c =
    at_start c.requires (part_prepared c.args.run.plan.channels c.places-places.ensures.value c.count-sides.ensures.0 c.prepare.ensures)
