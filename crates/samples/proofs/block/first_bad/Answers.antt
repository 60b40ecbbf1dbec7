-- A match on what is a sample of which format.
use Rattle.std.proofs.Common.{length, ◌/◌}
use Rattle.samples.specs.Format.{size_of}
use Rattle.samples.proofs.Judging.{whole_none}
use Rattle.samples.proofs.block.first_bad.Goals as goal

pub returns-in-Bits16 : goal.returns-in-Bits16
returns-in-Bits16 c = whole_none c.args.format (length c.args.bytes.now / size_of c.args.format) (size_of c.args.format) c.args.bytes.now c.in-Bits16.is
