-- Number and place above INT64_MIN: the sum stays within 64 bits.
use Rattle.std.proofs.Common.{ap, ◌∙◌, arith, ℕ, ◌+◌, ◌*◌, ◌<◌, ◌^◌, pos, ◌+ℤ◌}
use Rattle.answers.specs.declared.refused.Refused.{Refused}
use Rattle.encoding.specs.Encode.{least, encode}
use Rattle.encoding.proofs.Encoding.{sum}
use Rattle.encoding.proofs.code.refusal.Goals as goal

pub returns : goal.returns
unfolding encode
returns g c =
    let fits : c.from.result + 256 * c.refused-told.result.place < 2 ^ 63 = omega (arith, ap (λ (r : Refused). r.place) c.refused-told.ensures) in
    (sum (c.from.result + 256 * c.refused-told.result.place) fits).is ∙
    ap (λ (n : ℕ). least +ℤ pos (n + 256 * c.refused-told.result.place)) c.from.ensures ∙
    ap (λ (r : Refused). least +ℤ pos (r.number + 256 * r.place)) c.refused-told.ensures
