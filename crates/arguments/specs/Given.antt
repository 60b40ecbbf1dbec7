-- The arguments that the system hands over: nothing is known of their bytes, so there are some.
use Rattle.std.specs.Prelude.{◌≡◌, List, ℕ, ℤ, Option, Some}
use Rattle.arguments.specs.Arguments.{another, all_of}

-- rule 10.3: one more argument was taken, of some bytes
pub record OneTaken (before : Option ℕ) (gains : List ℤ) (after : Option ℕ) (gains' : List ℤ) : Type 0 where
  pub text : List ℕ
  pub is : (after, gains') ≡ another before text gains

-- rule 10.3: some arguments were taken in turn, and the gain of each is at its place
pub record AllTaken (gains : List ℤ) (after : Option ℕ) (gains' : List ℤ) : Type 0 where
  pub texts : List (List ℕ)
  pub is : (after, gains') ≡ all_of (Some 0, gains) texts
