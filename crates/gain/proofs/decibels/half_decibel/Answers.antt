use Rattle.std.proofs.Common.{ap}
use Rattle.std.specs.Float.{Float, binary32}
use Rattle.std.specs.Float.Ieee.{sub, mul}
use lib.Ieee.{of_bits}
use Rattle.gain.specs.Decibels.{half_decibel}
use Rattle.gain.proofs.decibels.half_decibel.Goals as goal

pub returns : goal.returns
unfolding half_decibel of_bits
returns c = ap (λ (x : Float). mul binary32 (sub binary32 x (of_bits binary32 1103101952)) (of_bits binary32 1056964608)) c.from.ensures
