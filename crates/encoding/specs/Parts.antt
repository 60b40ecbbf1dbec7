-- Bookkeeping of proofs and of helpers: a reader of the promises needs none of it.
use Rattle.std.specs.Prelude.{◌≡◌, false, ℕ, ◌<◌, ◌^◌, ℤ, Result, Ok, Err}
use Rattle.std.specs.Int.Signed.{lt_z}
use Rattle.answers.specs.Answer.{Answer, accepted, refused}
use Rattle.answers.specs.declared.refused.Refused.{Refused}
use Rattle.encoding.specs.Encode.{halfway}

-- a result whose error's place, if it has one, fits the code
abbrev pub PlaceFits : {A E : Type 0} → (E → Refused) → Result A E → Type 0
PlaceFits refusal (Ok a) = Unit
PlaceFits refusal (Err e) = (refusal e).place < 2 ^ 54

-- .. and one that is a count: it fits 64 bits with a sign
abbrev pub CountFits : {E : Type 0} → (E → Refused) → Result ℕ E → Type 0
CountFits refusal (Ok n) = n < 2 ^ 63
CountFits refusal (Err e) = (refusal e).place < 2 ^ 54

-- a refusal that the code can return: its number is not 0 and fits a byte, and its place fits what is left
abbrev pub Refusal : ℕ → ℕ → Type 0
Refusal number place = (0 < number) × (number < 256) × (place < 2 ^ 54)

-- an answer that the code can return: its value is no refusal's code
abbrev pub Returnable : Answer ℤ → Type 0
Returnable (accepted z) = lt_z z halfway ≡ false
Returnable (refused number place) = Refusal number place

-- .. and one that is a count: it fits 64 bits with a sign
abbrev pub Counted : Answer ℕ → Type 0
Counted (accepted n) = n < 2 ^ 63
Counted (refused number place) = Refusal number place
