use Rattle.std.proofs.Common.{arith}
use borrow.Author.Rules.{sfits_of}
use Rattle.ring.proofs.Taps.{late_ahead, late_round}
use Rattle.ring.proofs.line.Line.late.Goals as goal

pub returns-then-ahead-size : goal.returns-then-ahead-size
returns-then-ahead-size c =
    let a = c.args.self.now in
    late_ahead a.places.now a.ring.size a.ring.at a.ring.l a.within.reach c.if-ahead-size.true (sfits_of (omega arith))

pub returns : goal.returns
returns c =
    let a = c.args.self.now in
    late_round a.places.now a.ring.size a.ring.at a.ring.l a.within.reach c.if-ahead-size.false (sfits_of (omega arith))
