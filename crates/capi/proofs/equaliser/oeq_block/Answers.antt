-- The library call's answer can be encoded.
use Rattle.octave.specs.Answer.{block_refusal}
use Rattle.encoding.proofs.Encoding.{lent_fits}
use Rattle.capi.proofs.Returnable.{block_counted}
use Rattle.capi.proofs.equaliser.oeq_block.Goals as goal

pub count-requires : goal.count-requires
count-requires c =
    lent_fits block_refusal c.block.ensures (block_counted c.args.memory.now c.args.gains.now c.args.input.now c.args.output.now)
