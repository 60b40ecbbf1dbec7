-- Each turn is a step of the walk.
use Rattle.std.proofs.Common.{◌∙◌, sym, ap, length, arith, Err}
use Rattle.std.proofs.lemmas.Result.{err_from_is_err_and}
use Rattle.answers.specs.Answer.{refused}
use Rattle.fields.specs.Bytes.{lowest}
use Rattle.chunks.specs.Walk.{size_in, ends, on}
use Rattle.chunks.proofs.Headers.{header_there, header_gone}
use Rattle.chunks.proofs.Walks.{next_further, walk_past}
use Rattle.wave.specs.Walk.{chunk, found_answer}
use Rattle.wave.proofs.Turns.{at_fmt, at_data, at_other, ended, went_on, lent}
use Rattle.wave.specs.Private.{met}
use Rattle.wave.proofs.finder.walk.Goals as goal
use Rattle.wave.proofs.finder.walk.Goals.{then-named+in_ok-format_chunk, else-named+else-named-2}

pub returns-in_err-format_chunk : goal.returns-in_err-format_chunk
returns-in_err-format_chunk c =
    let front = c.args.front.now in
    let l = c.loop-seen in
    let there = header_there (length front) l.at c.header_in.result c.header_in.ensures c.loop-seen-test.true in
    let p = err_from_is_err_and c.from_residual.result c.from_residual.ensures.1 in
    let answer = found_answer (Err c.in_err-format_chunk.field-0.0) in
    ap found_answer (p.1 ∙ ap Err p.2)
    ∙ ended front l.at l.seen there answer
    (at_fmt (lent front l.at l.seen there) l.at l.seen c.format_chunk.result (ends answer) (sym c.named.ensures ∙ c.if-named.true) c.format_chunk.ensures (ap met c.in_err-format_chunk.was))
    ∙ l.invariant

pub returns-then-named-2 : goal.returns-then-named-2
returns-then-named-2 c =
    let front = c.args.front.now in
    let l = c.loop-seen in
    let there = header_there (length front) l.at c.header_in.result c.header_in.ensures c.loop-seen-test.true in
    ended front l.at l.seen there (found_answer c.data_chunk.result)
    (at_data (lent front l.at l.seen there) l.at l.seen c.data_chunk.result c.size.result (sym c.named.ensures ∙ c.if-named.false) (sym c.named-else-named.ensures ∙ c.if-named-2.true) c.size.ensures c.data_chunk.ensures)
    ∙ l.invariant

pub loop-seen-smaller : goal.loop-seen-smaller
loop-seen-smaller c =
    let front = c.args.front.now in
    let l = c.loop-seen in
    let there = header_there (length front) l.at c.header_in.result c.header_in.ensures c.loop-seen-test.true in
    omega (arith, c.next_after-at.ensures, next_further l.at (size_in lowest (lent front l.at l.seen there)), there)

pub loop-seen-preserved : goal.loop-seen-preserved
loop-seen-preserved c =
    let front = c.args.front.now in
    let l = c.loop-seen in
    let there = header_there (length front) l.at c.header_in.result c.header_in.ensures c.loop-seen-test.true in
    let rest = lent front l.at l.seen there in
    went_on front l.at l.seen there c.next_after-at.result c.if-named.seen c.next_after-at.ensures
    (elim c.if-named.branch [
      | then-named+in_ok-format_chunk w ↦ at_fmt rest l.at l.seen w.format_chunk.result (on c.if-named.seen) (sym c.named.ensures ∙ w.if-named.true) w.format_chunk.ensures
          (ap met w.in_ok-format_chunk.was ∙ ap on (sym w.seen-is))
      | else-named+else-named-2 w ↦ at_other rest l.at l.seen (sym c.named.ensures ∙ w.if-named.false) (sym w.named-else-named.ensures ∙ w.if-named-2.false) ∙ ap on (sym w.seen-is)
    ])
    ∙ l.invariant

pub returns : goal.returns
returns c =
    let front = c.args.front.now in
    let l = c.loop-seen in
    sym (walk_past lowest (refused 24 0) chunk front l.at l.seen (header_gone (length front) l.at c.header_in.result c.header_in.ensures c.loop-seen-test.false))
    ∙ l.invariant
