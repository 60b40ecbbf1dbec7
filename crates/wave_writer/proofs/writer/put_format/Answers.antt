use Rattle.samples.specs.Channels.{count_of}
use Rattle.wave_writer.proofs.Writing.{fmt-row}
use Rattle.wave_writer.proofs.writer.put_format.Goals as goal

pub returns : goal.returns
returns c =
    fmt-row c.args.rate (count_of c.args.channels) c.count.result c.frame_size-frame.result c.bits.result c.args.buffer.now c.put_number.new.buffer c.put_number-2.new.buffer
    c.put_number-3.new.buffer c.put_number-4.new.buffer c.put_number-5.new.buffer c.put_number-6.new.buffer c.count.ensures.0 c.frame_size-frame.ensures.0
    c.bits.ensures c.put_number.ensures c.put_number-2.ensures c.put_number-3.ensures c.put_number-4.ensures c.put_number-5.ensures c.put_number-6.ensures
