-- What the programs print of an answer, beside what the promises call it.
use Rattle.std.specs.Prelude.{ℕ, Result}
use Rattle.answers.specs.Answer.{Answer, accepted, refused, answered}
use Rattle.answers.specs.declared.refused.Refused.{Refused}

-- rule 6.8: the answer that is printed: its value, or the number and the place of its refusal
abbrev pub numbered : {A : Type 0} → Result A Refused → Answer A
numbered r = answered (λ (e : Refused). e) r

-- rule 6.8: the same answer, by something of its value
abbrev pub with_value : {A : Type 0} → (A → ℕ) → Answer A → Answer ℕ
with_value of (accepted a) = accepted (of a)
with_value of (refused number place) = refused number place
