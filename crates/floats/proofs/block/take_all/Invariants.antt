-- The samples of the floats so far are taken.
use Rattle.std.proofs.Common.{◌≡◌, take}
use Rattle.floats.specs.Block.{samples_of}
use Rattle.floats.proofs.block.take_all.Given as goal

abbrev pub invariant-loop-i : goal.invariant-loop-i
invariant-loop-i l = take l.i l.samples ≡ take l.i (samples_of l.values)
