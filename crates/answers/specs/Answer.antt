-- What a call answers, in the numbers of the rule book.
use Rattle.std.specs.Prelude.{ℕ, Result, Ok, Err}
use Rattle.answers.specs.declared.refused.Refused.{Refused}

-- rule 6.2: accepted with a value, or refused with a number and a place (0 where no place is asked)
pub data Answer (A : Type 0) : Type 0 where
  accepted : A → Answer A
  refused : (number place : ℕ) → Answer A

-- rule 6.2: the number of a refusal; no refusal has the number 0
abbrev pub number_in : {A : Type 0} → Answer A → ℕ
number_in (accepted a) = 0
number_in (refused number place) = number

-- rule 6.2: the place of a refusal
abbrev pub place_in : {A : Type 0} → Answer A → ℕ
place_in (accepted a) = 0
place_in (refused number place) = place

-- rule 6.2: a refusal that has no place
abbrev pub plain : ℕ → Refused
plain number = record { number = number; place = 0 }

-- rule 6.2: what a call's result answers: its value, or the number and the place of its error
abbrev pub answered : {A E : Type 0} → (E → Refused) → Result A E → Answer A
answered refusal (Ok a) = accepted a
answered refusal (Err e) = refused (refusal e).number (refusal e).place
