use Rattle.std.proofs.Common.{◌≡◌, ◌≤◌, ◌^◌, nat_abs, ap, ◌∙◌, ℤ, ◌+ℤ◌, ◌*ℤ◌, arith}
use lib.Signed.{nat_abs-le}
use mir.Facts.{to_z-of_z}
use Rattle.whole.proofs.Product.{added}
use Rattle.whole.proofs.products.multiply_add.Goals as goal

pub returns : goal.returns
returns c =
    let a = c.args in
    let same : c.from.result ≡ a.x = c.from.ensures ∙ to_z-of_z c.ranges.x in
    let small : nat_abs c.from.result ≤ 2 ^ 31 = rw same (nat_abs-le a.x c.ranges.x.sfits) in
    (added c.from.result (2 ^ 30) (2 ^ 31) c.ranges.sum c.ranges.c c.requires.0 c.requires.1 small (omega arith) (omega arith)).answer ∙ ap (λ (z : ℤ). a.sum +ℤ a.c *ℤ z) same
