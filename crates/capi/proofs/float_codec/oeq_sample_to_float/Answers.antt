-- The library call's answer can be encoded.
use Rattle.std.proofs.Common.{ap, ◌∙◌, to_z-of_z, Result, Float}
use Rattle.floats.specs.Value.{to_float, range_refusal, floated_answer}
use Rattle.floats.specs.declared.single.OutOfRange.{OutOfRange}
use Rattle.parts.specs.Floated.{of_floated}
use Rattle.encoding.proofs.Encoding.{count_fits}
use Rattle.capi.proofs.Floats.{floated_counted}
use Rattle.capi.proofs.float_codec.oeq_sample_to_float.Goals as goal

pub count-requires : goal.count-requires
count-requires c =
    count_fits range_refusal c.floated.result
    (c.floated.ensures ∙ ap (λ (r : Result Float OutOfRange). of_floated (floated_answer r)) (c.sample_to_float-answer.ensures ∙ ap to_float (to_z-of_z c.ranges.sample)))
    (floated_counted c.args.sample)
