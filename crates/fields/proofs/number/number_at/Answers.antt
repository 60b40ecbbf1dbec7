use Rattle.std.proofs.Common.{◌≡◌, ℕ, ◌+◌, ◌<◌, length, take, drop, ap, ◌∙◌, arith}
use Rattle.std.proofs.lemmas.List.Edits.{sets}
use lib.Seq.{length-take-le}
use Rattle.fields.proofs.FourBytes.{zeros, one_more, number_read, field_below}
use Rattle.fields.proofs.number.number_at.Goals as goal

pub loop-i-preserved : goal.loop-i-preserved
loop-i-preserved g c =
    let a = c.args in
    let l = c.loop-i in
    let long : length (take g.row.N zeros) ≡ g.row.N = length-take-le g.row.N zeros c.requires.1 in
    let room : a.place + l.i < length a.s.now = let here = c.loop-i-test.true in omega (arith, c.requires.0) in
    one_more _ l.front a.s.now a.place l.i room l.invariant

pub returns : goal.returns
returns g c =
    let a = c.args in
    let l = c.loop-i in
    let order = g.O.ByteOrder.order in
    let n = g.row.N in
    let long : length (take n zeros) ≡ n = length-take-le n zeros c.requires.1 in
    let end : l.i ≡ n = let past = c.loop-i-test.false in let most = l.auto.i-end in omega arith in
    let read = l.invariant ∙ ap (λ (k : ℕ). sets (take n zeros) 0 (take k (drop a.place a.s.now))) end in
    let is = number_read order n a.place a.s.now l.front c.turn.new.bytes c.requires.1 c.requires.0 read c.turn.ensures c.from_le_bytes.result c.from_le_bytes.ensures in
    (is, rw is (field_below order a.s.now a.place n (λ i. (c.type_inv.s i).fits)))
