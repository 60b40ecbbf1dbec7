-- A sample in the range has a code, and each turn stores its three bytes.
use Rattle.std.proofs.Common.{ap, ◌∙◌, ◌≡◌, ◌*◌, ℕ, get_or, pos, true}
use Rattle.std.proofs.lemmas.List.Edits.{sets}
use mir.Syntax.{w32}
use mir.Facts.{to_z-of_z}
use Rattle.answers.specs.Range.{within}
use Rattle.answers.specs.Unit.{least_sample, most_sample}
use Rattle.answers.proofs.Ranges.{all_at}
use Rattle.fields.specs.Bytes.{lowest, row}
use Rattle.samples.specs.Sample.{code_of}
use Rattle.samples.proofs.Complement.{sample_fits}
use Rattle.samples.proofs.Storing.{stored_none, stored_more, stored_all}
use Rattle.samples.proofs.block.store_all.Goals as goal

pub loop-i-init : goal.loop-i-init
loop-i-init c = stored_none c.args.samples.now c.args.buffer.now

pub code_of-requires : goal.code_of-requires
code_of-requires c =
    let z = get_or c.args.samples.now c.loop-i.i (pos 0) in
    let range : within least_sample most_sample z ≡ true = all_at least_sample most_sample c.args.samples.now c.requires.1 c.loop-i.i c.loop-i-test.true in
    ap (within least_sample most_sample) (to_z-of_z {w = w32} {z = z} (sample_fits z range)) ∙ range

pub loop-i-preserved : goal.loop-i-preserved
loop-i-preserved c =
    let z = get_or c.args.samples.now c.loop-i.i (pos 0) in
    let range : within least_sample most_sample z ≡ true = all_at least_sample most_sample c.args.samples.now c.requires.1 c.loop-i.i c.loop-i-test.true in
    let plain = to_z-of_z {w = w32} {z = z} (sample_fits z range) in
    stored_more c.args.samples.now c.args.buffer.now c.loop-i.buffer c.put_number.new.buffer c.loop-i.i c.requires.0 c.loop-i.invariant c.loop-i-test.true
    (c.put_number.ensures ∙ ap (λ (k : ℕ). sets c.loop-i.buffer (3 * c.loop-i.i) (row lowest 3 k)) (c.code_of.ensures.0 ∙ ap code_of plain))

pub returns : goal.returns
returns c = stored_all c.args.samples.now c.args.buffer.now c.loop-i.buffer c.loop-i.i c.requires.0 c.loop-i.invariant c.loop-i-test.false
