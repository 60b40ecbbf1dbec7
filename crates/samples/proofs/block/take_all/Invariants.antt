-- The samples of the pieces so far are taken.
use Rattle.std.proofs.Common.{◌≡◌, length, take}
use Rattle.samples.specs.Samples.{samples_of}
use Rattle.samples.proofs.block.take_all.Given as goal

abbrev pub invariant-loop-i : goal.invariant-loop-i
invariant-loop-i l = take (length l.yielded) l.samples ≡ take (length l.yielded) (samples_of (length l.samples) l.format l.bytes)
