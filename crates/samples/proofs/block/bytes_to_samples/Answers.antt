-- The checks in turn, then all samples.
use Rattle.std.proofs.Common.{◌≡◌, ◌/◌, ◌∙◌, ap, sym, length}
use Rattle.answers.proofs.Laws.{refuses_last, goes_on}
use Rattle.answers.proofs.Branches.{branches}
use Rattle.fields.proofs.ByTest.{dividing}
use Rattle.samples.specs.Format.{size_of}
use Rattle.samples.specs.Samples.{block_from}
use Rattle.samples.specs.declared.block.TakeError.TheVariants.{NotNumber}
use Rattle.samples.proofs.Judging.{bad_there, none_bad}
use Rattle.samples.proofs.Taking.{all_taken}
use Rattle.samples.proofs.block.bytes_to_samples.Goals as goal

pub returns-in-Some : goal.returns-in-Some
unfolding block_from
returns-in-Some c =
    let a = c.args in
    let count : length a.samples.now ≡ length a.bytes.now / size_of a.format = c.if-samples-bytes.false ∙ ap (λ k. length a.bytes.now / k) c.bytes-size.ensures.0 in
    let bad = bad_there a.format a.bytes.now (length a.samples.now) _ count c.in-Some.place (sym c.first_bad.ensures ∙ c.in-Some.is) in
    let is = ap NotNumber bad.1 in
    let not_all = bad.0 in
    search (refuses_last, goes_on, branches, dividing) depth 12

pub returns : goal.returns
returns c =
    let a = c.args in
    let count : length a.samples.now ≡ length a.bytes.now / size_of a.format = c.if-samples-bytes.false ∙ ap (λ k. length a.bytes.now / k) c.bytes-size.ensures.0 in
    all_taken a.bytes.now a.format a.samples.now c.take_all.new.samples c.bytes-size.result c.bytes-size.ensures.0 c.if-bytes-size-ne0.false
    c.if-samples-bytes.false (none_bad a.format a.bytes.now (length a.samples.now) _ count (sym c.first_bad.ensures ∙ c.in_default.is)) c.take_all.auto.samples c.take_all.ensures
