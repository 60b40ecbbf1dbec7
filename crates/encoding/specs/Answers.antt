-- What a C caller gets of a call: its answer as one number, and the places lent to it.
use Rattle.std.specs.Prelude.{◌≡◌, ℕ, ℤ, pos}
use Rattle.answers.specs.Answer.{Answer, accepted, refused}
use Rattle.answers.specs.Checks.{Outcome}
use Rattle.encoding.specs.Encode.{encode}

-- rule 12.2: a length, a delay, a number of samples or of bytes
abbrev pub of_count : Answer ℕ → Answer ℤ
of_count (accepted n) = accepted (pos n)
of_count (refused number place) = refused number place

-- rule 12.8: a call's answer is returned encoded, and the places lent to it are as the call leaves them
pub record Returned {R L : Type 0} (answer_of : R → Answer ℤ) (o : Outcome R L) (code : ℤ) (lent : L) : Type 0 where
  pub code_is : code ≡ encode (answer_of o.result)
  pub lent_is : lent ≡ o.lent
