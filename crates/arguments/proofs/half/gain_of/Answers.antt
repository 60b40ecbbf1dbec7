use Rattle.std.proofs.Common.{◌∙◌, pos, ◌-ℤ◌}
use Rattle.gain.specs.Decibels.{Half}
use Rattle.gain.proofs.HalfDecibels.{half_at}
use Rattle.arguments.proofs.ArgumentGain.{inside, no_argument, argument_gain}
use Rattle.arguments.proofs.half.gain_of.Goals as goal

pub returns-in_err-place : goal.returns-in_err-place
returns-in_err-place c = c.from_residual.ensures ∙ no_argument c.args.text.now c.in_err-place.ensures

pub returns : goal.returns
returns c =
    let text = c.args.text.now in
    let i = c.in_ok-place.place in
    let x = c.half_decibel.result in
    let valued : Half x (pos i -ℤ pos 24) = half_at x i c.half_decibel.ensures (inside text i c.in_ok-place.ensures) in
    c.ok.ensures.value ∙ argument_gain text i c.in_ok-place.ensures x valued c.gain.result c.gain.ensures
