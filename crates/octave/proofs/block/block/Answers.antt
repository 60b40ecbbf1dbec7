-- Each return has the checks that led there.
use Rattle.std.proofs.Common.{ℕ, ◌%◌, ◌∙◌, ap, sym, length, pos, arith}
use Rattle.std.specs.Prelude.{Result, Ok, Err}
use Rattle.std.proofs.lemmas.Result.{err_from_is_err_and}
use Rattle.answers.proofs.Laws.{refuses, goes_on}
use Rattle.answers.specs.Range.{within}
use Rattle.answers.specs.Unit.{largest_gain}
use Rattle.answers.proofs.Branches.{branches, judging, none_fails}
use borrow.Author.Tests.{eqb-true}
use Rattle.octave.specs.declared.memory.Fault.{Fault}
use Rattle.octave.specs.declared.block.BlockError.{BlockError}
use Rattle.octave.specs.declared.block.BlockError.TheVariants.{Memory, Input}
use Rattle.octave.specs.Memory.{channels_in}
use Rattle.octave.specs.Block.{frames_of, equalised}
use Rattle.octave.proofs.Memories.{kept_wrong, kept_right, bands_kept}
use Rattle.octave.proofs.Inputs.{input_refused, input_accepted, input_right, input_kept}
use Rattle.octave.proofs.block.block.Goals as goal

abbrev faulty : Fault → Result ℕ BlockError
faulty f = Err (Memory f)

abbrev written : ℕ → Result ℕ BlockError
written n = Ok n

pub returns-in_err-counts : goal.returns-in_err-counts
returns-in_err-counts c =
    let p = err_from_is_err_and c.from_residual.result c.from_residual.ensures.1 in
    let wrong = kept_wrong c.args.memory.now _ c.in_err-counts.ensures in
    let told = wrong.0 in
    let is = ap faulty wrong.1 in
    rw (p.1, p.2) (search refuses depth 12)

pub returns-then-gains-bands : goal.returns-then-gains-bands
returns-then-gains-bands c =
    let k = kept_right c.args.memory.now c.in_ok-counts.counts c.in_ok-counts.ensures in
    let b = bands_kept k c.bands.ensures in
    search judging depth 12

pub returns-then-is_some : goal.returns-then-is_some
returns-then-is_some c =
    let k = kept_right c.args.memory.now c.in_ok-counts.counts c.in_ok-counts.ensures in
    let b = bands_kept k c.bands.ensures in
    search judging depth 12

pub returns-then-output-input : goal.returns-then-output-input
returns-then-output-input c =
    let k = kept_right c.args.memory.now c.in_ok-counts.counts c.in_ok-counts.ensures in
    let b = bands_kept k c.bands.ensures in
    search judging depth 12

pub returns-in_err-frames : goal.returns-in_err-frames
returns-in_err-frames c =
    let m = c.args.memory.now in
    let input = c.args.input.now in
    let k = kept_right m c.in_ok-counts.counts c.in_ok-counts.ensures in
    let b = bands_kept k c.bands.ensures in
    let p = err_from_is_err_and c.from_residual-in_err-frames.result c.from_residual-in_err-frames.ensures.1 in
    let rest = input_refused (m, c.args.output.now) (equalised m c.args.gains.now input) (written (frames_of m input)) (λ e. Err (Input e)) (channels_in m) input _ (input_kept k input c.in_err-frames.ensures) in
    rw (p.1, p.2) (search (goes_on, branches) depth 12)

pub equalise-requires : goal.equalise-requires
equalise-requires c =
    let gains = c.args.gains.now in
    let input = c.args.input.now in
    let counts = c.in_ok-counts.counts in
    let right = input_right counts.channels input c.in_ok-frames.frames c.in_ok-frames.ensures in
    record {
      memory_kept = kept_right c.args.memory.now counts c.in_ok-counts.ensures;
      counted = omega arith;
      allowed = none_fails (within (pos 0) (pos largest_gain)) gains c.first_outside.result c.first_outside.ensures (sym c.is_some.ensures ∙ c.if-is_some.false);
      alike = omega arith;
      whole = eqb-true (length input % counts.channels) 0 right.whole;
    }

pub returns : goal.returns
returns c =
    let m = c.args.memory.now in
    let input = c.args.input.now in
    let k = kept_right m c.in_ok-counts.counts c.in_ok-counts.ensures in
    let b = bands_kept k c.bands.ensures in
    let right = input_right (channels_in m) input c.in_ok-frames.frames (input_kept k input c.in_ok-frames.ensures) in
    let rest =
    input_accepted (m, c.args.output.now) (equalised m c.args.gains.now input) (written (frames_of m input)) (λ e. Err (Input e)) (channels_in m) input right (ap written right.frames_are) c.equalise.ensures in
    search (goes_on, branches) depth 12
