-- Each arm is one range of the exponent.
use Rattle.std.proofs.Common.{ap, sym, ◌∙◌, arith, to_z-of_z, w32}
use Rattle.floats.specs.Exponent.{minus, exponent, digits}
use Rattle.floats.proofs.Ladder.{is_ladder, at_255, from_127, from_103, below_103}
use Rattle.floats.proofs.code.by_exponent.Goals as goal
use Rattle.std.specs.Prelude.{Ok}

pub returns-in-255 : goal.returns-in-255
returns-in-255 c =
    let code = c.args.code in
    sym (is_ladder code ∙ at_255 (minus code) (exponent code) (digits code) c.in-255.is)

pub returns-in-103-to-126 : goal.returns-in-103-to-126
returns-in-103-to-126 c =
    let code = c.args.code in
    ap Ok (to_z-of_z {w = w32} (record { sfits = c.shifted.type_inv }) ∙ c.shifted.ensures)
    ∙ sym (is_ladder code ∙ from_103 (minus code) (exponent code) (digits code) (omega arith) (omega arith))

pub returns-in-127-to-254 : goal.returns-in-127-to-254
returns-in-127-to-254 c =
    let code = c.args.code in
    ap Ok (to_z-of_z {w = w32} (record { sfits = c.end_of.type_inv }) ∙ c.end_of.ensures)
    ∙ sym (is_ladder code ∙ from_127 (minus code) (exponent code) (digits code) (omega arith) (omega arith))

pub returns-in_default : goal.returns-in_default
returns-in_default c =
    let code = c.args.code in
    sym (is_ladder code ∙ below_103 (minus code) (exponent code) (digits code) (omega arith))
