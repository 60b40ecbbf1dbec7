-- The value, or the code of the error.
use Rattle.encoding.proofs.Encoding.{returned, signed_chosen}
use Rattle.encoding.proofs.code.signed.Goals as goal

pub returns : goal.returns
returns g c = returned (signed_chosen g.E.Numbered.refusal c.map_or_else.result c.args.answer c.map_or_else.ensures) c.map_or_else.type_inv
