use Rattle.std.proofs.Common.{length, ◌-◌}
use borrow.Rule.Slice.PartMut.{same_len_mid}
use lib.ListN.{replicate}
use lib.IntN.{pos}
use Rattle.crossover.proofs.Keeping.{put_behind}
use Rattle.crossover.proofs.both.from_on.Goals as goal

pub returns : goal.returns
returns c =
    let gains = c.args.gains.now in
    let written = c.copy_from_slice.new.self in
    put_behind c.args.from gains written c.requires.0 c.requires.1 c.copy_from_slice.ensures.after
    (same_len_mid c.args.from (length gains - c.args.from) (replicate 10 (pos 0)) written c.copy_from_slice.auto.self)
