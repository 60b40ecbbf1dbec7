-- The header reader's answer as a count.
use Rattle.std.specs.Prelude.{ℕ}
use Rattle.answers.specs.Answer.{Answer}
use Rattle.wave.specs.declared.found.Found.{Found}
use Rattle.parts.specs.Places.{of_places}

-- rule 12.7: what was found goes to the lent places; the answer is their number, 5
abbrev pub of_found : Answer Found → Answer ℕ
of_found a = of_places 5 a
