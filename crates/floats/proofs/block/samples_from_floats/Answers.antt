-- The checks in turn, then all samples.
use Rattle.std.proofs.Common.{◌≡◌, ap}
use Rattle.answers.specs.First.{first_failing}
use Rattle.answers.proofs.Firsts.{found, found_none}
use Rattle.answers.proofs.Branches.{judging}
use Rattle.answers.proofs.Laws.{refuses_last}
use Rattle.floats.specs.Block.{is_number, from_floats}
use Rattle.floats.specs.declared.block.FloatsError.TheVariants.{BadFloat}
use Rattle.floats.proofs.block.samples_from_floats.Goals as goal

pub returns-in-Some : goal.returns-in-Some
unfolding from_floats
returns-in-Some c =
    let f = found is_number c.args.values.now c.in-Some.place (cc) in
    let all = f.0 in
    let p : BadFloat c.in-Some.place ≡ BadFloat (first_failing is_number c.args.values.now) = ap BadFloat f.1 in
    search (judging, refuses_last) depth 12

pub returns : goal.returns
unfolding from_floats
returns c =
    let all = found_none is_number c.args.values.now (cc) in
    search judging depth 12
