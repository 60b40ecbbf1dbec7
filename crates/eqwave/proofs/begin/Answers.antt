-- A run that starts has accepted arguments and an accepted front.
use Rattle.std.proofs.Common.{pos, refl, replicate}
use Rattle.arguments.specs.Arguments.{bands}
use Rattle.runs.proofs.Starting.{started}
use Rattle.eqwave.proofs.begin.Goals as goal

pub run-requires : goal.run-requires
run-requires g c =
    let p = c.in-Ok.plan in
    started c.requires.all_taken.texts (replicate bands (pos 0)) c.args.gains.now c.args.arguments c.args.front.now p.rate p.format p.channels p.frames p.start refl
    c.requires.few c.requires.all_taken.is c.in-Ok.ensures
