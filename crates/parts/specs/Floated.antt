-- The float of a sample as a count.
use Rattle.std.specs.Prelude.{ℕ, Float}
use Rattle.answers.specs.Answer.{Answer}
use Rattle.parts.specs.Places.{of_places}

-- rule 12.9: the float goes to the lent place; the answer is the number of places, 1
abbrev pub of_floated : Answer Float → Answer ℕ
of_floated a = of_places 1 a
