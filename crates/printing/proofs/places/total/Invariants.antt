-- The sum so far and the places that are left give the whole total.
use Rattle.std.proofs.Common.{◌<◌, ◌≡◌, drop}
use Rattle.printing.specs.Total.{total_from}
use Rattle.printing.proofs.places.total.Given as goal

abbrev pub invariant-loop-i : goal.invariant-loop-i
invariant-loop-i l = (l.sum < 4294967291) × (total_from l.sum l.i (drop l.i l.s) ≡ total_from 0 0 l.s)
