-- An argument that is too long is refused as an empty one is.
use Rattle.arguments.proofs.TakenInTurn.{refused_one}
use Rattle.arguments.proofs.given.another.Goals as goal

pub returns-in_err-n : goal.returns-in_err-n
returns-in_err-n g c = rw c.from_residual.ensures (refused_one c.args.before c.args.gains.now)
