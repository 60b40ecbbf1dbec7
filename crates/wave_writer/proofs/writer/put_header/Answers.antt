use Rattle.samples.specs.Channels.{count_of}
use Rattle.wave_writer.proofs.Writing.{header_row}
use Rattle.wave_writer.proofs.writer.put_header.Goals as goal

pub returns : goal.returns
returns c =
    header_row c.args.rate c.args.size (count_of c.args.channels) c.riff_size.result c.args.buffer.now c.put_chunk.new.buffer c.put_name.new.buffer
    c.put_chunk-2.new.buffer c.put_format.new.buffer c.put_chunk-3.new.buffer c.requires.0 c.riff_size.ensures c.put_chunk.ensures
    c.put_name.ensures c.put_chunk-2.ensures c.put_format.ensures c.put_chunk-3.ensures
