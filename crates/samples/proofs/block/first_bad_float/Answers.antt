-- The closure's answers over the pieces of four bytes.
use Rattle.std.proofs.Common.{not, rules, tests, lit<}
use Rattle.std.proofs.lemmas.Iterator.Search.{position_from_yields_List}
use Rattle.samples.specs.Sample.{is_sample_in}
use Rattle.samples.specs.declared.format.Format.TheVariants.{Float32}
use Rattle.samples.proofs.Pieces.{pieces}
use Rattle.samples.proofs.block.first_bad_float.Goals as goal

pub returns : goal.returns
unfolding is_sample_in
returns c =
    position_from_yields_List (λ s. not (is_sample_in Float32 s)) _ _ _ c.position.ensures.ran
    (pieces 4 c.args.bytes.now (lit< tt) c.chunks_exact.ensures.size c.chunks_exact.ensures.rest) (λ x b q k. search (rules, tests))
