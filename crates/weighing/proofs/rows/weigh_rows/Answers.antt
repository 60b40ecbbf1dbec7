use Rattle.std.proofs.Common.{ℕ, ℤ, arith}
use Rattle.frames.specs.Frames.{side}
use Rattle.frames.proofs.Laws.{side-length}
use Rattle.frames.proofs.Loops.{putting_on, put_here, put_others}
use Rattle.weighing.specs.Weighing.{out_of}
use Rattle.weighing.specs.Helpers.{gain_sum}
use Rattle.weighing.proofs.GainSums.{out_back, outputs_weighed}
use Rattle.weighing.proofs.rows.weigh_rows.Goals as goal

pub loop-i-preserved : goal.loop-i-preserved
loop-i-preserved c =
    let a = c.args in
    let to = a.side in
    putting_on to.channels to.s (λ j. out_of (gain_sum a.matrix.bands a.matrix.bands j a.matrix.rows.now a.weights.now.differences)) a.output.now c.loop-i.invariant to.there a.matrix.n _ c.loop-i-test.true c.requires.1
    (out_back (record { sfits = c.sum_at.type_inv }) (record { sfits = c.nearest-rounded.type_inv }) (record { sfits = c.limit.type_inv }) c.sum_at.ensures c.nearest-rounded.ensures c.limit.ensures)

pub returns : goal.returns
returns c =
    let a = c.args in
    let to = a.side in
    let l = c.loop-i in
    let ds = a.weights.now.differences in
    let f : ℕ → ℤ = λ j. out_of (gain_sum a.matrix.bands a.matrix.bands j a.matrix.rows.now ds) in
    let outs = side to.channels to.s a.matrix.n l.output in
    record {
      weighed =
          outputs_weighed a.matrix.bands a.matrix.rows.now ds outs a.matrix.some
          (λ j h. put_here to.channels to.s f a.output.now l.invariant to.there a.matrix.n j c.loop-i-test.false (omega (arith, side-length to.channels to.s a.matrix.n l.output)));
      others = λ t h q. put_others to.channels to.s f a.output.now l.invariant to.there a.matrix.n t h q;
    }
