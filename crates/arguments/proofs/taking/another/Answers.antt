use Rattle.std.proofs.Common.{◌+◌, ap, ◌∙◌, ℤ, set, to_z-of_z, w32, Some, None}
use Rattle.arguments.proofs.ArgumentGain.{argument_small}
use Rattle.arguments.proofs.NextArgument.{after_refused, no_place, comes_to}
use Rattle.arguments.proofs.taking.another.Goals as goal

pub returns-in_err-n : goal.returns-in_err-n
returns-in_err-n c = rw (c.from_residual.ensures, c.in_err-n.was) (after_refused c.args.text.now c.args.gains.now)

pub returns-then-gains-n : goal.returns-then-gains-n
returns-then-gains-n c = rw c.in_ok-n.was (no_place c.args.text.now c.args.gains.now c.in_ok-n.n c.if-gains-n.true)

pub returns-in_err-gains : goal.returns-in_err-gains
returns-in_err-gains c =
    rw (c.from_residual-in_err-gains.ensures, c.in_ok-n.was)
    (comes_to c.args.text.now c.args.gains.now c.in_ok-n.n None c.if-gains-n.false c.in_err-gains.ensures)

pub returns : goal.returns
returns c =
    let gains = c.args.gains.now in
    let n = c.in_ok-n.n in
    let g = c.in_ok-gains.field-0 in
    let small = argument_small c.args.text.now g c.in_ok-gains.ensures in
    rw c.in_ok-n.was
    (ap (λ (z : ℤ). (Some (n + 1), set gains n z)) (to_z-of_z {w = w32} (record { sfits = small }))
    ∙ comes_to c.args.text.now gains n (Some g) c.if-gains-n.false c.in_ok-gains.ensures)
