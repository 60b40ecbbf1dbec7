use Rattle.std.proofs.Common.{◌^◌, pos, negsuc, ◌∙◌}
use lib.Dec.{lit≤}
use Rattle.ring.proofs.Adding.{none, more, more_pair, sum_raw, sum_small}
use Rattle.ring.proofs.Pairs.{six_is}
use Rattle.ring.proofs.low.weigh.Goals as goal

pub add_pair-s4-requires : goal.add_pair-s4-requires
add_pair-s4-requires c =
    let r = c.ranges in
    let s9 = more (pos 50000) (lit≤ tt) none (lit≤ tt) r.x9 c.multiply_add-s9.ensures in
    let s8 = more_pair (pos 31158) (lit≤ tt) s9 (lit≤ tt) r.x8 r.x10 c.add_pair-s8.ensures in
    let s6 = more_pair (negsuc 8717) (lit≤ tt) s8 (lit≤ tt) r.x6 r.x12 c.add_pair-s6.ensures in
    (sum_small (2 ^ 61) (lit≤ tt) (lit≤ tt) s6, lit≤ tt)

pub add_pair-s2-requires : goal.add_pair-s2-requires
add_pair-s2-requires c =
    let r = c.ranges in
    let s9 = more (pos 50000) (lit≤ tt) none (lit≤ tt) r.x9 c.multiply_add-s9.ensures in
    let s8 = more_pair (pos 31158) (lit≤ tt) s9 (lit≤ tt) r.x8 r.x10 c.add_pair-s8.ensures in
    let s6 = more_pair (negsuc 8717) (lit≤ tt) s8 (lit≤ tt) r.x6 r.x12 c.add_pair-s6.ensures in
    let s4 = more_pair (pos 3593) (lit≤ tt) s6 (lit≤ tt) r.x4 r.x14 c.add_pair-s4.ensures in
    (sum_small (2 ^ 61) (lit≤ tt) (lit≤ tt) s4, lit≤ tt)

pub add_pair-requires : goal.add_pair-requires
add_pair-requires c =
    let r = c.ranges in
    let s9 = more (pos 50000) (lit≤ tt) none (lit≤ tt) r.x9 c.multiply_add-s9.ensures in
    let s8 = more_pair (pos 31158) (lit≤ tt) s9 (lit≤ tt) r.x8 r.x10 c.add_pair-s8.ensures in
    let s6 = more_pair (negsuc 8717) (lit≤ tt) s8 (lit≤ tt) r.x6 r.x12 c.add_pair-s6.ensures in
    let s4 = more_pair (pos 3593) (lit≤ tt) s6 (lit≤ tt) r.x4 r.x14 c.add_pair-s4.ensures in
    let s2 = more_pair (negsuc 1337) (lit≤ tt) s4 (lit≤ tt) r.x2 r.x16 c.add_pair-s2.ensures in
    (sum_small (2 ^ 61) (lit≤ tt) (lit≤ tt) s2, lit≤ tt)

pub returns : goal.returns
returns c =
    let a = c.args in
    let r = c.ranges in
    let s9 = more (pos 50000) (lit≤ tt) none (lit≤ tt) r.x9 c.multiply_add-s9.ensures in
    let s8 = more_pair (pos 31158) (lit≤ tt) s9 (lit≤ tt) r.x8 r.x10 c.add_pair-s8.ensures in
    let s6 = more_pair (negsuc 8717) (lit≤ tt) s8 (lit≤ tt) r.x6 r.x12 c.add_pair-s6.ensures in
    let s4 = more_pair (pos 3593) (lit≤ tt) s6 (lit≤ tt) r.x4 r.x14 c.add_pair-s4.ensures in
    let s2 = more_pair (negsuc 1337) (lit≤ tt) s4 (lit≤ tt) r.x2 r.x16 c.add_pair-s2.ensures in
    let s0 = more_pair (pos 313) (lit≤ tt) s2 (lit≤ tt) r.x0 r.x18 c.add_pair.ensures in
    record {
      value = sum_raw (lit≤ tt) s0 ∙ six_is a.x0 a.x2 a.x4 a.x6 a.x8 a.x9 a.x10 a.x12 a.x14 a.x16 a.x18;
      size = sum_small (2 ^ 51) (lit≤ tt) (lit≤ tt) s0;
    }
