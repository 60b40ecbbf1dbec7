use Rattle.std.proofs.Common.{ap, sym, ◌∙◌, ◌<◌, length, to_z-of_z, w32, arith}
use Rattle.floats.specs.Block.{sample_or0, samples_of}
use Rattle.floats.proofs.Taking.{one_more, length-samples, sample_at}
use Rattle.floats.proofs.block.take_all.Goals as goal

pub loop-i-preserved : goal.loop-i-preserved
loop-i-preserved c =
    let values = c.args.values.now in
    let l : c.loop-i.i < length (samples_of values) = omega (arith, length-samples values) in
    one_more (samples_of values) c.loop-i.samples c.loop-i.i _ c.loop-i.invariant l (omega arith)
    (to_z-of_z {w = w32} (record { sfits = c.unwrap_or.type_inv }) ∙ c.unwrap_or.ensures ∙ ap sample_or0 c.sample_from_float.ensures ∙ sym (sample_at values c.loop-i.i))
