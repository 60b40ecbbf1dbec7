-- The writer accepts, and hands over the header.
use Rattle.std.proofs.Common.{refl, arith}
use Rattle.eqwave.proofs.Beginning.{header_taken, header_is, few_samples}
use Rattle.eqwave.proofs.run.put_header.Goals as goal

pub overflow_mul-sides : goal.overflow_mul-sides
overflow_mul-sides g c = omega (arith, few_samples c.requires c.count-sides.ensures.0)

pub overflow_mul-sides-2 : goal.overflow_mul-sides-2
overflow_mul-sides-2 g c = omega (arith, few_samples c.requires c.count-sides.ensures.0)

pub unwrap-requires : goal.unwrap-requires
unwrap-requires g c = header_taken c.requires c.count-sides.ensures.0 _ refl c.write.ensures

pub hand_header-requires : goal.hand_header-requires
hand_header-requires g c = header_is c.requires c.count-sides.ensures.0 _ refl c.write.ensures
