use Rattle.tree.specs.Signal.{gain_of}
use Rattle.block_sides.proofs.BothSides.{with_output, going_starts, going_on, going_ends}
use Rattle.block_sides.proofs.run.each_side.Goals as goal

pub loop-s-init : goal.loop-s-init
loop-s-init g c =
    let a = c.args in
    let q = c.requires in
    (going_starts q.0 a.from (gain_of a.block.now.gains.now) a.from, λ asked. going_starts (with_output a.second.now (q.2.alike asked) q.0) a.from (gain_of a.block.now.others.now) a.from)

pub loop-s-preserved : goal.loop-s-preserved
loop-s-preserved g c =
    let a = c.args in
    let q = c.requires in
    let l = c.loop-s in
    let side = c.each_row-at in (
      going_on q.0 a.from (gain_of a.block.now.gains.now) l.invariant.0 l.auto.lines side.new.lines side.new.output c.loop-s-test.true side.auto.lines side.ensures.first,
      λ asked.
          going_on (with_output a.second.now (q.2.alike asked) q.0) a.from (gain_of a.block.now.others.now) (l.invariant.1 asked) l.auto.lines side.new.lines side.new.second c.loop-s-test.true side.auto.lines (side.ensures.again asked),
    )

pub returns : goal.returns
returns g c =
    let a = c.args in
    let q = c.requires in
    let l = c.loop-s in
    record {
      first = going_ends q.0 a.from (gain_of a.block.now.gains.now) l.invariant.0 l.auto.lines c.loop-s-test.false l.auto.output;
      again = λ asked. going_ends (with_output a.second.now (q.2.alike asked) q.0) a.from (gain_of a.block.now.others.now) (l.invariant.1 asked) l.auto.lines c.loop-s-test.false l.auto.second;
    }
