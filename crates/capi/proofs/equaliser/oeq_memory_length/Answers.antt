-- The library call's answer can be encoded.
use Rattle.std.proofs.Common.{ap, ap₂, ◌∙◌, to_z-of_z}
use Rattle.octave.specs.Answer.{count_refusal, length_answer}
use Rattle.octave.specs.Memory.{memory_length_of}
use Rattle.encoding.proofs.Encoding.{count_fits}
use Rattle.capi.proofs.Returnable.{length_counted}
use Rattle.capi.proofs.equaliser.oeq_memory_length.Goals as goal

pub count-requires : goal.count-requires
count-requires c =
    count_fits count_refusal c.memory_length.result
    (ap length_answer (c.memory_length.ensures ∙ ap₂ memory_length_of (to_z-of_z c.ranges.bands) (to_z-of_z c.ranges.channels)))
    (length_counted c.args.bands c.args.channels)
