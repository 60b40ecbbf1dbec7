use Rattle.std.proofs.Common.{rules, ◌∙◌, length, sym, arith}
use Rattle.std.proofs.lemmas.List.{take_all}
use Rattle.frames.proofs.Loops.{gathering_starts, gathering_on, gathering_ends}
use Rattle.frames.proofs.sides.take_side.Goals as goal

pub loop-i-init : goal.loop-i-init
loop-i-init g c = gathering_starts _ _ _ _ _

pub loop-i-preserved : goal.loop-i-preserved
loop-i-preserved g c =
    let a = c.args in
    let l = c.loop-i in
    let on = gathering_on g.row.CHANNELS a.s (length a.row.now) a.block.now a.row.now l.row l.i l.invariant c.loop-i-test.true (omega arith) in
    search rules

pub returns : goal.returns
returns g c =
    let a = c.args in
    let l = c.loop-i in
    sym (take_all (length a.row.now) l.row (omega (arith, l.auto.row))) ∙
    gathering_ends g.row.CHANNELS a.s (length a.row.now) a.block.now a.row.now l.row l.i l.invariant c.loop-i-test.false
