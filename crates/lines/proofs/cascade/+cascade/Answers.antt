use Rattle.std.proofs.Common.{arith}
use Rattle.tree.specs.Prototype.{published}
use Rattle.lines.proofs.Regions.{row_of}
use Rattle.lines.proofs.Cascading.{region_below, one_band, joined}
use Rattle.lines.proofs.cascade.+cascade.Goals as goal

pub returns-then-bands-eq1 : goal.returns-then-bands-eq1
returns-then-bands-eq1 t c =
    let a = c.args in
    one_band published a.size a.at a.l a.n a.lines.now a.rows.now a.bands c.if-bands-eq1.true

pub line_over-requires : goal.line_over-requires
line_over-requires t c =
    let a = c.args in
    row_of published a.size a.at a.l a.bands a.n a.lines.now a.rows.now c.if-bands-eq1.false c.requires

pub cascade-requires : goal.cascade-requires
cascade-requires t c =
    let a = c.args in
    let over = c.line_over in (
      omega arith,
      region_below published a.size a.at a.l a.n a.lines.now a.rows.now a.bands over.new.lines over.new.rows c.if-bands-eq1.false c.requires over.auto.lines over.auto.rows,
    )

pub returns : goal.returns
returns t c =
    let a = c.args in
    let over = c.line_over in
    let below = c.cascade in
    joined published a.size a.at a.l a.n a.lines.now a.rows.now a.bands over.new.lines over.new.rows below.new.lines below.new.rows c.if-bands-eq1.false c.requires over.auto.rows
    over.ensures below.ensures
