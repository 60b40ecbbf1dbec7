use Rattle.fields.proofs.Naming.{named_by}
use Rattle.fields.proofs.names.named.Goals as goal

pub returns : goal.returns
returns c =
    let a = c.args in
    named_by a.s.now a.name.now a.place c.number_at.result c.from_le_bytes.result (λ i. (c.type_inv.s i).fits) c.fits-name c.told-name c.requires
    c.number_at.ensures.0 c.from_le_bytes.ensures
