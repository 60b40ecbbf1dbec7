-- Bookkeeping of the laws: no promise speaks of it.
use Rattle.std.specs.Prelude.{◌≡◌, Bool, true, false, ◌&&◌, List, [], ◌∷◌, ltb}
use Rattle.answers.specs.Answer.{Answer, number_in}
use Rattle.answers.specs.Checks.{Check, check}

-- r is the case of the first check that fails
pub data First {R : Type 0} : List (Check R) → R → Type 0 where
  here : {test : Bool} {r : R} {cs : List (Check R)} → test ≡ false → First (check test r ∷ cs) r
  later : {test : Bool} {case r : R} {cs : List (Check R)} → test ≡ true → First cs r → First (check test case ∷ cs) r

-- P of every case that may be answered, each under the tests that lead to it
unfoldable pub Each : {R : Type 0} → (R → Type 0) → List (Check R) → R → Type 0
Each P [] result = P result
Each P (c ∷ cs) result = (c.holds ≡ false → P c.otherwise) × (c.holds ≡ true → Each P cs result)

-- the same checks, with cases of another call
unfoldable pub carried : {Q R : Type 0} → (Q → R) → List (Check Q) → List (Check R)
carried F [] = []
carried F (c ∷ cs) = check c.holds (F c.otherwise) ∷ carried F cs

-- every case of the list is a refusal: it has a number
unfoldable pub all_refuse : {R A : Type 0} → (R → Answer A) → List (Check R) → Bool
all_refuse answer_of [] = true
all_refuse answer_of (c ∷ cs) = ltb 0 (number_in (answer_of c.otherwise)) && all_refuse answer_of cs
