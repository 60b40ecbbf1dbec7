-- One band fewer at each call.
use Rattle.lines.proofs.cascade.+cascade.Given as goal

abbrev pub decreases-cascade : goal.decreases-cascade
decreases-cascade l = l.bands
