-- An answer whose value goes to lent places, as a count.
use Rattle.std.specs.Prelude.{ℕ}
use Rattle.answers.specs.Answer.{Answer, accepted, refused}

-- rules 12.7, 12.9: the answer is the number of the places
abbrev pub of_places : {A : Type 0} → ℕ → Answer A → Answer ℕ
of_places n (accepted a) = accepted n
of_places n (refused number place) = refused number place
