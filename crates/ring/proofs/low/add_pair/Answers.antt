use Rattle.std.proofs.Common.{◌≡◌, ◌^◌, ◌∙◌, ap, ℤ, ◌+ℤ◌, ◌*ℤ◌, arith}
use mir.Facts.{to_z-of_z}
use Rattle.whole.proofs.Product.{added}
use Rattle.ring.proofs.low.add_pair.Goals as goal

pub overflow_add-result : goal.overflow_add-result
overflow_add-result c = (added c.pair.result (2 ^ 29) (2 ^ 32) c.ranges.sum c.ranges.c c.requires.0 c.requires.1 c.pair.ensures.1 (omega arith) (omega arith)).fits

pub returns : goal.returns
returns c =
    let a = c.args in
    let sum : c.pair.result ≡ a.a +ℤ a.b = rw (to_z-of_z c.ranges.a, to_z-of_z c.ranges.b) at c.pair.ensures.0 in
    (added c.pair.result (2 ^ 29) (2 ^ 32) c.ranges.sum c.ranges.c c.requires.0 c.requires.1 c.pair.ensures.1 (omega arith) (omega arith)).answer ∙ ap (λ (x : ℤ). a.sum +ℤ a.c *ℤ x) sum
