use Rattle.std.proofs.Common.{◌≡◌}
use lib.Dec.{lit≤}
use Rattle.tree.specs.Prototype.{published}
use Rattle.ring.specs.Line.{line_sum}
use Rattle.ring.proofs.Taps.{summed, read_new, read-tap, low_value_is}
use Rattle.ring.proofs.line.Line.low.Goals as goal

pub returns : goal.returns
returns g c =
    let a = c.args.self.now in
    let x = c.args.x in
    let line = a.places.now in
    let read = read-tap line a.ring.size a.ring.at a.ring.l x in
    let sum : c.weigh-sum.result ≡ line_sum published line a.ring.size a.ring.at a.ring.l x =
    summed line a.ring.size a.ring.at a.ring.l x (read_new line a.ring.size a.ring.at a.ring.l c.ranges.x)
    (read 2 c.tap.result (lit≤ tt) c.tap.ensures c.tap.type_inv)
    (read 4 c.tap-2.result (lit≤ tt) c.tap-2.ensures c.tap-2.type_inv)
    (read 6 c.tap-3.result (lit≤ tt) c.tap-3.ensures c.tap-3.type_inv)
    (read 8 c.tap-4.result (lit≤ tt) c.tap-4.ensures c.tap-4.type_inv)
    (read 9 c.tap-5.result (lit≤ tt) c.tap-5.ensures c.tap-5.type_inv)
    (read 10 c.tap-6.result (lit≤ tt) c.tap-6.ensures c.tap-6.type_inv)
    (read 12 c.tap-7.result (lit≤ tt) c.tap-7.ensures c.tap-7.type_inv)
    (read 14 c.tap-8.result (lit≤ tt) c.tap-8.ensures c.tap-8.type_inv)
    (read 16 c.tap-9.result (lit≤ tt) c.tap-9.ensures c.tap-9.type_inv)
    (read 18 c.tap-10.result (lit≤ tt) c.tap-10.ensures c.tap-10.type_inv)
    c.weigh-sum.ensures in
    low_value_is line a.ring.size a.ring.at a.ring.l x (record { sfits = c.nearest.type_inv }) (record { sfits = c.limit.type_inv }) sum c.weigh-sum.ensures.size c.nearest.ensures c.limit.ensures
