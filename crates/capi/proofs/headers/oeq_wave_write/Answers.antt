-- The library call's answer can be encoded.
use Rattle.std.proofs.Common.{to_z-of_z}
use Rattle.wave_writer.specs.Header.{write_refusal}
use Rattle.encoding.proofs.Encoding.{lent_fits}
use Rattle.capi.proofs.Returnable.{write_counted}
use Rattle.capi.proofs.headers.oeq_wave_write.Goals as goal

pub count-requires : goal.count-requires
count-requires c =
    lent_fits write_refusal (rw (to_z-of_z c.ranges.channels) at c.write.ensures)
    (write_counted c.args.buffer.now c.args.rate c.args.size c.args.channels)
