use Rattle.std.proofs.Common.{◌≡◌, true, false, ap₂, ℤ, nat_abs, to_z-of_z}
use Rattle.std.specs.Prelude.{Result, Ok}
use Rattle.answers.specs.Unit.{fewest_bands, most_bands, fewest_channels, most_channels}
use Rattle.answers.proofs.Branches.{within_is}
use Rattle.answers.proofs.Laws.{chosen_here, chosen_on, chosen_last}
use Rattle.octave.specs.declared.memory.CountError.{CountError}
use Rattle.octave.specs.Counts.{Counts}
use Rattle.octave.specs.Memory.{count_allowed, channels_allowed}
use Rattle.octave.proofs.counts.Counts.allowed.Goals as goal

abbrev made : (bands channels : ℤ) → Result Counts CountError
made bands channels = Ok (record { bands = nat_abs bands; channels = nat_abs channels })

pub returns-then-not-within : goal.returns-then-not-within
returns-then-not-within c =
    let b : count_allowed c.args.bands ≡ false = within_is fewest_bands most_bands c.ranges.bands c.within.ensures c.if-not-within.true in
    search chosen_here

pub returns-then-not-within-2 : goal.returns-then-not-within-2
returns-then-not-within-2 c =
    let b : count_allowed c.args.bands ≡ true = within_is fewest_bands most_bands c.ranges.bands c.within.ensures c.if-not-within.false in
    let n : channels_allowed c.args.channels ≡ false = within_is fewest_channels most_channels c.ranges.channels c.within-2.ensures c.if-not-within-2.true in
    search (chosen_here, chosen_on)

pub returns : goal.returns
returns c =
    let b : count_allowed c.args.bands ≡ true = within_is fewest_bands most_bands c.ranges.bands c.within.ensures c.if-not-within.false in
    let n : channels_allowed c.args.channels ≡ true = within_is fewest_channels most_channels c.ranges.channels c.within-2.ensures c.if-not-within-2.false in
    let is = ap₂ made (to_z-of_z c.ranges.bands) (to_z-of_z c.ranges.channels) in
    search (chosen_on, chosen_last)
