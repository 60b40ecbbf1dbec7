-- A number in range is a float, and so is its quotient.
use Rattle.std.proofs.Common.{◌≡◌, ap, true, false, [], ◌^◌, ◌≤◌, le_trans, lit≤, pos, nat_abs, to_z, of_z, to_z-of_z, w32}
use lib.Ieee.{binary32, of_int, of_bits, div, fin}
use Rattle.answers.specs.Range.{within}
use Rattle.answers.specs.Unit.{least_sample, most_sample}
use Rattle.answers.proofs.Branches.{within_is}
use Rattle.answers.proofs.Laws.{chosen_here, chosen_on, chosen_last}
use Rattle.floats.specs.Value.{float_of, to_float}
use Rattle.floats.proofs.ToFloat.{sample_size, float_is}
use Rattle.floats.proofs.single.sample_to_float.Goals as goal
use Rattle.std.specs.Prelude.{Float, Result, Ok, Err}
use Rattle.floats.specs.declared.single.OutOfRange.{OutOfRange}

pub returns-then-not-within : goal.returns-then-not-within
unfolding to_float
returns-then-not-within c =
    chosen_here (Result Float OutOfRange) (Ok (float_of c.args.sample)) (Err (record {})) (within least_sample most_sample c.args.sample) []
    (within_is least_sample most_sample c.ranges.sample c.within.ensures c.if-not-within.true)

pub returns : goal.returns
unfolding to_float of_bits
returns c =
    let z = c.args.sample in
    let in_range : within least_sample most_sample z ≡ true = within_is least_sample most_sample c.ranges.sample c.within.ensures c.if-not-within.false in
    let small : nat_abs z ≤ 2 ^ 24 = le_trans (sample_size z in_range) (lit≤ tt) in
    let made : div binary32 (of_int binary32 (to_z w32 (of_z w32 z))) (fin false 1 (pos 23)) ≡ float_of z = rw (to_z-of_z c.ranges.sample) (float_is z small) in
    chosen_on (Result Float OutOfRange) (Ok (float_of z)) _ (within least_sample most_sample z) (Err (record {})) [] in_range
    (chosen_last (Result Float OutOfRange) (Ok (float_of z)) _ (ap Ok made))
