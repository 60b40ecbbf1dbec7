use Rattle.std.proofs.Common.{◌+◌, ◌-◌, ◌*◌, get_or, pos, FitsSigned, w32, refl, arith, rules}
use Rattle.lines.specs.Rows.{row_places}
use Rattle.weighing.proofs.GainSums.{summing_starts, sum_room, weight_room, summing_on, summing_ends}
use Rattle.weighing.proofs.rows.sum_at.Goals as goal

pub loop-b-init : goal.loop-b-init
loop-b-init c =
    let a = c.args in
    let w = a.weights.now in
    summing_starts a.matrix.bands w.top a.i a.matrix.rows.now w.differences c.requires.1 w.above

pub multiply_add-sum-requires : goal.multiply_add-sum-requires
multiply_add-sum-requires c =
    let w = c.args.weights.now in
    let b = c.loop-b.b - 1 in
    let weight : FitsSigned w32 (get_or w.differences b (pos 0)) = search rules in
    (sum_room c.loop-b.invariant c.args.matrix.few, weight_room (get_or w.differences b (pos 0)) (w.small.range b) weight c.from.ensures)

pub loop-b-preserved : goal.loop-b-preserved
loop-b-preserved c =
    let a = c.args in
    let w = a.weights.now in
    let b = c.loop-b.b - 1 in
    let at = row_places * (a.matrix.bands - 1 - b) + a.i in
    let weight : FitsSigned w32 (get_or w.differences b (pos 0)) = search rules in
    let sample : FitsSigned w32 (get_or a.matrix.rows.now at (pos 0)) = search rules in
    summing_on c.loop-b.invariant c.args.matrix.few at b (omega arith) refl w.small weight sample c.from.ensures c.multiply_add-sum.ensures

pub returns : goal.returns
returns c = summing_ends c.loop-b.invariant c.args.matrix.few c.args.weights.now.below c.loop-b-test.false
