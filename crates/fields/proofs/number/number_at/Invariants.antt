-- The first bytes were read.
use Rattle.std.proofs.Common.{◌≡◌, take, drop}
use Rattle.std.proofs.lemmas.List.Edits.{sets}
use Rattle.fields.proofs.number.number_at.Given as goal

abbrev pub invariant-loop-i : goal.invariant-loop-i
invariant-loop-i g l = l.front ≡ sets l.initial.front 0 (take l.i (drop l.place l.s))
