use Rattle.std.proofs.Common.{ap₂, ◌∙◌, to_z-of_z}
use Rattle.std.proofs.lemmas.Result.{err_from_is_err_and}
use Rattle.octave.specs.Memory.{counts_of}
use Rattle.octave.proofs.Memories.{length_refused, length_is}
use Rattle.octave.proofs.memory.memory_length.Goals as goal

pub returns-in_err-counts : goal.returns-in_err-counts
returns-in_err-counts c =
    let p = err_from_is_err_and c.from_residual.result c.from_residual.ensures.1 in
    rw (p.1, p.2) (length_refused c.args.bands c.args.channels _ (c.in_err-counts.ensures ∙ ap₂ counts_of (to_z-of_z c.ranges.bands) (to_z-of_z c.ranges.channels)))

pub returns : goal.returns
returns c =
    rw c.memory_length.ensures
    (length_is c.args.bands c.args.channels c.in_ok-counts.counts (c.in_ok-counts.ensures ∙ ap₂ counts_of (to_z-of_z c.ranges.bands) (to_z-of_z c.ranges.channels)))
