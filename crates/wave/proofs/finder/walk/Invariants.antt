-- The walk from here comes to what the walk from the first chunk comes to.
use Rattle.std.proofs.Common.{◌≡◌, ◌+◌, ◌-◌, length}
use Rattle.answers.specs.Answer.{refused}
use Rattle.fields.specs.Bytes.{lowest}
use Rattle.chunks.specs.Walk.{form_length, walk}
use Rattle.wave.specs.Walk.{nothing, chunk}
use Rattle.wave.proofs.finder.walk.Given as goal

abbrev pub invariant-loop-seen : goal.invariant-loop-seen
invariant-loop-seen l =
    walk lowest (refused 24 0) chunk (length l.front) l.front l.at l.seen ≡ walk lowest (refused 24 0) chunk (length l.front) l.front form_length nothing

abbrev pub decreases-loop-seen : goal.decreases-loop-seen
decreases-loop-seen l = length l.front + 1 - l.at
