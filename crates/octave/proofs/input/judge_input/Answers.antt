-- Each return has the checks that led there.
use Rattle.std.proofs.Common.{◌≡◌, ◌∙◌, sym, true, false, ap, ℕ, ◌/◌, ◌%◌, ◌≤◌, ◌<◌, length, eqb, leb, arith}
use Rattle.std.specs.Prelude.{Result, Ok}
use borrow.Author.Tests.{le-leb, lt-leb}
use Rattle.answers.specs.Range.{within}
use Rattle.answers.specs.Unit.{block_limit, least_sample, most_sample}
use Rattle.answers.proofs.Laws.{chosen_here, chosen_on, chosen_last}
use Rattle.answers.proofs.Firsts.{found, found_none}
use Rattle.answers.proofs.Branches.{branches}
use Rattle.octave.specs.declared.input.InputError.{InputError}
use Rattle.octave.specs.Counts.{Counts}
use Rattle.octave.specs.Input.{input_of}
use Rattle.octave.proofs.input.judge_input.Goals as goal

abbrev counted : ℕ → Result ℕ InputError
counted n = Ok n

-- not too many, or too many
short : {n f : ℕ} → f ≡ n → f ≤ block_limit → leb n block_limit ≡ true
short {n} e h = le-leb n block_limit (omega arith)

long : {n f : ℕ} → f ≡ n → block_limit < f → leb n block_limit ≡ false
long {n} e h = lt-leb n block_limit (omega arith)

pub returns-then-not-whole_frames : goal.returns-then-not-whole_frames
returns-then-not-whole_frames c =
    rw (ap (λ (k : Counts). input_of k.channels c.args.input.now) (sym c.counts.view_is))
    (let n = c.counts.inside.channels in
    let w : eqb (length c.args.input.now % n) 0 ≡ false = sym c.whole_frames.ensures ∙ c.if-not-whole_frames.true in
    search chosen_here)

pub returns-then-frames-gt-BLOCK_LIMIT : goal.returns-then-frames-gt-BLOCK_LIMIT
returns-then-frames-gt-BLOCK_LIMIT c =
    rw (ap (λ (k : Counts). input_of k.channels c.args.input.now) (sym c.counts.view_is))
    (let n = c.counts.inside.channels in
    let w : eqb (length c.args.input.now % n) 0 ≡ true = sym c.whole_frames.ensures ∙ c.if-not-whole_frames.false in
    let l : leb (length c.args.input.now / n) block_limit ≡ false = long c.frames_in-frames.ensures c.if-frames-gt-BLOCK_LIMIT.true in
    search (chosen_here, chosen_on))

pub returns-in-Some : goal.returns-in-Some
returns-in-Some c =
    rw (ap (λ (k : Counts). input_of k.channels c.args.input.now) (sym c.counts.view_is))
    (let n = c.counts.inside.channels in
    let w : eqb (length c.args.input.now % n) 0 ≡ true = sym c.whole_frames.ensures ∙ c.if-not-whole_frames.false in
    let l : leb (length c.args.input.now / n) block_limit ≡ true = short c.frames_in-frames.ensures c.if-frames-gt-BLOCK_LIMIT.false in
    let f = found (within least_sample most_sample) c.args.input.now c.in-Some.place (cc) in
    let all = f.0 in
    rw f.1 (search (chosen_here, chosen_on)))

pub returns : goal.returns
returns c =
    rw (ap (λ (k : Counts). input_of k.channels c.args.input.now) (sym c.counts.view_is))
    (let n = c.counts.inside.channels in
    let w : eqb (length c.args.input.now % n) 0 ≡ true = sym c.whole_frames.ensures ∙ c.if-not-whole_frames.false in
    let l : leb (length c.args.input.now / n) block_limit ≡ true = short c.frames_in-frames.ensures c.if-frames-gt-BLOCK_LIMIT.false in
    let all = found_none (within least_sample most_sample) c.args.input.now (cc) in
    let is = ap counted c.frames_in-frames.ensures in
    search (chosen_on, chosen_last, branches) depth 12)
