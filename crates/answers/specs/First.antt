-- The first element of a list that fails a test.
use Rattle.std.specs.Prelude.{◌≡◌, Bool, true, false, cond, List, [], ◌∷◌, ℕ, suc, ◌<◌, leb, length, get_or}

-- rule 6.2: the place of the first element that fails, counted from 0; the length where none does
unfoldable pub first_failing : {A : Type 0} → (A → Bool) → List A → ℕ
first_failing test [] = 0
first_failing test (x ∷ xs) = cond (test x) (suc (first_failing test xs)) 0

-- rule 6.2: at place i an element fails, and before it none (`other` stands for what is past the end)
pub record FirstFails {A : Type 0} (test : A → Bool) (other : A) (s : List A) (i : ℕ) : Type 0 where
  pub among : i < length s
  pub fails : test (get_or s i other) ≡ false
  pub none_before : (k : ℕ) → k < i → test (get_or s k other) ≡ true

-- rule 6.2: no element fails
abbrev pub all_pass : {A : Type 0} → (A → Bool) → List A → Bool
all_pass test s = leb (length s) (first_failing test s)
