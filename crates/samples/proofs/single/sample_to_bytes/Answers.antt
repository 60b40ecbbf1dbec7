use Rattle.answers.proofs.Branches.{judging}
use Rattle.samples.specs.Sample.{to_bytes}
use Rattle.samples.proofs.Codec.{row_of}
use Rattle.samples.proofs.single.sample_to_bytes.Goals as goal

pub returns : goal.returns
unfolding to_bytes
returns c = search (judging, row_of) depth 12
