-- The place that is lent for a sample's float.
use Rattle.std.specs.Prelude.{Float}
use Rattle.answers.specs.Answer.{Answer, accepted, refused}

-- rule 12.9: the place afterwards: the float, and a refusal leaves it as it was
abbrev pub float_after : Answer Float → Float → Float
float_after (accepted x) before = x
float_after (refused number place) before = before
