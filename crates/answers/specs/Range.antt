-- Ranges, both ends included.
use Rattle.std.specs.Prelude.{Bool, false, cond, List, ℕ, ℤ, pos}
use Rattle.std.specs.Int.Signed.{lt_z, le_z}
use Rattle.answers.specs.First.{first_failing, FirstFails, all_pass}

-- rule 1.8: lo ≤ z ≤ hi
abbrev pub within : ℤ → ℤ → ℤ → Bool
within lo hi z = cond (lt_z z lo) false (le_z z hi)

-- rule 1.8: the place of the first number outside the range, counted from 0; the length where there is none
abbrev pub first_outside : ℤ → ℤ → List ℤ → ℕ
first_outside lo hi s = first_failing (within lo hi) s

-- rule 1.8: at place i there is a number outside the range, and before it none
abbrev pub FirstAt : ℤ → ℤ → List ℤ → ℕ → Type 0
FirstAt lo hi s i = FirstFails (within lo hi) (pos 0) s i

-- rule 1.8: every number is within the range
abbrev pub all_within : ℤ → ℤ → List ℤ → Bool
all_within lo hi s = all_pass (within lo hi) s
