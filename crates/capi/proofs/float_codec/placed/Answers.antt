-- One check, then the library's call.
use Rattle.answers.proofs.Branches.{judging}
use Rattle.capi.specs.FloatBlock.{floats_in_c}
use Rattle.capi.proofs.float_codec.placed.Goals as goal

pub returns-then-values-ge-PLACES : goal.returns-then-values-ge-PLACES
unfolding floats_in_c
returns-then-values-ge-PLACES c = search judging depth 12

pub returns : goal.returns
unfolding floats_in_c
returns c = search judging depth 12
