-- Each arm reads its format's bytes.
use Rattle.std.proofs.Common.{sym, ap, ◌∙◌}
use mir.Syntax.{w32}
use mir.Facts.{to_z-of_z}
use Rattle.samples.specs.Sample.{sample_in}
use Rattle.samples.proofs.Codec.{whole_16, whole_24, whole_float}
use Rattle.samples.proofs.single.sample_in.Goals as goal

pub returns-in-Bits16 : goal.returns-in-Bits16
returns-in-Bits16 c =
    to_z-of_z {w = w32} (record { sfits = c.number.type_inv }) ∙ c.number.ensures
    ∙ whole_16 c.args.bytes.now c.number_at.result (rw c.in-Bits16.is at c.requires) c.number_at.ensures.1 c.number_at.ensures.0
    ∙ sym (ap (λ f. sample_in f c.args.bytes.now) c.in-Bits16.is)

pub returns-in-Bits24 : goal.returns-in-Bits24
returns-in-Bits24 c =
    to_z-of_z {w = w32} (record { sfits = c.number-in-Bits24.type_inv }) ∙ c.number-in-Bits24.ensures
    ∙ whole_24 c.args.bytes.now c.number_at-in-Bits24.result (rw c.in-Bits24.is at c.requires) c.number_at-in-Bits24.ensures.0
    ∙ sym (ap (λ f. sample_in f c.args.bytes.now) c.in-Bits24.is)

pub returns-in-Float32 : goal.returns-in-Float32
returns-in-Float32 c =
    to_z-of_z {w = w32} (record { sfits = c.unwrap_or.type_inv }) ∙ c.unwrap_or.ensures
    ∙ whole_float c.args.bytes.now c.float_in.result c.float_in.ensures ∙ sym (ap (λ f. sample_in f c.args.bytes.now) c.in-Float32.is)
