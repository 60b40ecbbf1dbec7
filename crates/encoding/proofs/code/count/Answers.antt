-- An accepted count fits 64 bits with a sign.
use Rattle.std.proofs.Common.{rules}
use Rattle.encoding.proofs.Encoding.{returned, count_chosen}
use Rattle.encoding.proofs.code.count.Goals as goal

pub returns : goal.returns
returns g c =
    returned (count_chosen g.E.Numbered.refusal c.map_or_else.result c.args.answer c.requires (search rules)) c.map_or_else.type_inv
