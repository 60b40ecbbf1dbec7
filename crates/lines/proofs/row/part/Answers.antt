use Rattle.std.proofs.Common.{get_or, pos, FitsSigned, w32, rules}
use Rattle.lines.proofs.Loops.{going_on, going_ends}
use Rattle.lines.proofs.row.part.Goals as goal

pub loop-i-preserved : goal.loop-i-preserved
loop-i-preserved g c =
    let fits : FitsSigned w32 (get_or c.loop-i.rows c.loop-i.i (pos 0)) = search rules in
    going_on c.requires.0 c.loop-i.invariant c.low.result c.late.result c.loop-i-test.true fits
    (record { sfits = c.low.type_inv }) (record { sfits = c.late.type_inv }) c.low.ensures c.late.ensures

pub returns : goal.returns
returns g c = going_ends c.requires.0 c.loop-i.invariant c.loop-i-test.false
