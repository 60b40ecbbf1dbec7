use Rattle.std.proofs.Common.{◌≤◌, length, arith}
use Rattle.tree.specs.Prototype.{published}
use Rattle.lines.specs.Rows.{row_places}
use Rattle.lines.proofs.Parts.{parts, starting, cuts}
use Rattle.lines.proofs.row.line_over.Goals as goal

pub returns : goal.returns
returns c =
    let a = c.args in
    let w = c.up_to-w.result in
    let v = c.up_to-v.result in
    let k = cuts a.ring.at a.ring.l a.n w v c.up_to-w.ensures c.up_to-v.ensures in
    let m = a.rows.now in
    let near = c.part in
    let far = c.part-2 in
    let straight = c.part-3 in
    let short : v ≤ row_places = omega (arith, k.second, c.requires.short) in
    let long : row_places ≤ length m = omega (arith, c.requires.room) in
    let long₁ : row_places ≤ length near.new.rows = omega (arith, long, near.auto.rows) in
    let long₂ : row_places ≤ length far.new.rows = omega (arith, long₁, far.auto.rows) in
    parts published a.ring.size a.ring.at a.ring.l v a.n a.lines.now m far.new.lines far.new.rows straight.new.lines straight.new.rows k.second c.requires.short long long₂
    (parts published a.ring.size a.ring.at a.ring.l w v a.lines.now m near.new.lines near.new.rows far.new.lines far.new.rows k.first short long long₁
    (starting published a.ring.size a.ring.at a.ring.l w a.lines.now m near.new.lines near.new.rows (omega (arith, k.first, short)) near.ensures)
    far.ensures)
    straight.ensures
