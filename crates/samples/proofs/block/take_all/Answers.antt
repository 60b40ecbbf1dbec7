-- Each turn takes the sample of the next piece.
use Rattle.std.proofs.Common.{◌<◌, ◌∙◌, arith, length}
use lib.ListN.{length-set, length-append}
use mir.Syntax.{w32}
use mir.Facts.{to_z-of_z}
use Rattle.std.proofs.lemmas.Iterator.Consumers.{YieldsList-turn, YieldsList-end}
use Rattle.std.proofs.lemmas.List.FromFn.{length-enumerate_from}
use Rattle.samples.specs.Format.{size_of}
use Rattle.samples.specs.Samples.{pieces_of}
use Rattle.samples.proofs.Pieces.{numbered, turned, length_pieces}
use Rattle.samples.proofs.Taking.{taking_turn, taking_end}
use Rattle.samples.proofs.block.take_all.Goals as goal

pub loop-i-preserved : goal.loop-i-preserved
loop-i-preserved c =
    let f = c.args.format in
    let s = c.args.bytes.now in
    let n = length c.args.samples.now in
    let j = length c.loop-i.yielded in
    let some : 0 < size_of f = omega (arith, c.bytes.ensures.0) in
    let all = numbered {s = c.into_iter-i-iterator.result} (size_of f) n s some (cc) (cc) c.requires (cc) in
    let turn = turned n (size_of f) s j c.in-Some.i c.in-Some.piece.now
    (YieldsList-turn all c.loop-i.yielded c.loop-i.i-iterator c.loop-i.yielded_by c.next.result c.next.new.self (c.in-Some.i, c.in-Some.piece) c.in-Some.is c.next.ensures.steps) in
    let long = c.loop-i.auto.samples in
    let before : j < length c.loop-i.samples = omega (arith, turn.0, long) in
    taking_turn f s (length c.loop-i.samples) _ _ c.loop-i.samples j c.in-Some.i c.in-Some.piece.now _ c.loop-i.invariant before
    (length-append c.loop-i.yielded _) (length-set c.loop-i.samples c.in-Some.i _) (before, turn.1) (to_z-of_z {w = w32} (record { sfits = c.sample_in.type_inv }) ∙ c.sample_in.ensures)

pub returns : goal.returns
returns c =
    let f = c.args.format in
    let s = c.args.bytes.now in
    let n = length c.args.samples.now in
    let some : 0 < size_of f = omega (arith, c.bytes.ensures.0) in
    let all = numbered {s = c.into_iter-i-iterator.result} (size_of f) n s some (cc) (cc) c.requires (cc) in
    let end = YieldsList-end all c.loop-i.yielded c.loop-i.i-iterator c.loop-i.yielded_by c.next.result c.next.new.self c.in-None.is c.next.ensures.steps in
    taking_end f s n c.loop-i.samples (length c.loop-i.yielded) (length c.loop-i.samples) c.loop-i.invariant c.loop-i.auto.samples c.loop-i.auto.samples
    (end.1 ∙ length-enumerate_from 0 (pieces_of n (size_of f) s) ∙ length_pieces n (size_of f) s)
