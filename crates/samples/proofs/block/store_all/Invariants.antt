-- The bytes of the samples so far are stored.
use Rattle.std.proofs.Common.{◌≡◌}
use Rattle.samples.proofs.Storing.{stored}
use Rattle.samples.proofs.block.store_all.Given as goal

abbrev pub invariant-loop-i : goal.invariant-loop-i
invariant-loop-i l = l.buffer ≡ stored l.samples l.initial.buffer l.i
