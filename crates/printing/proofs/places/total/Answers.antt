use Rattle.std.proofs.Common.{◌≡◌, arith, rules, get_or, pos}
use Rattle.printing.specs.Total.{add}
use Rattle.printing.proofs.Totals.{goes_on, ends}
use Rattle.printing.proofs.places.total.Goals as goal

pub loop-i-preserved : goal.loop-i-preserved
loop-i-preserved c =
    let e : c.added-sum.result ≡ add c.loop-i.sum c.loop-i.i (get_or c.args.s.now c.loop-i.i (pos 0)) = search rules in
    (c.added-sum.ensures.upper_bound, goes_on c.args.s.now c.loop-i.i c.loop-i.sum c.loop-i.invariant.1 c.added-sum.result (omega arith) e)

pub returns : goal.returns
returns c = ends c.args.s.now c.loop-i.i c.loop-i.sum c.loop-i.invariant.1 (omega arith)
