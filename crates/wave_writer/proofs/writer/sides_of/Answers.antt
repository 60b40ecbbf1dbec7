use Rattle.std.proofs.Common.{◌≡◌, pos, rules}
use Rattle.wave_writer.proofs.Counts.{sides_are}
use Rattle.wave_writer.proofs.writer.sides_of.Goals as goal

pub returns : goal.returns
returns c =
    let is : c.args.count ≡ pos c.in_ok-ok.field-0 = search rules in
    sides_are c.in_ok-ok.field-0 c.args.count c.channels_of.result is c.channels_of.ensures
