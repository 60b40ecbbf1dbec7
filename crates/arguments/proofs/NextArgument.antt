-- One more argument. Assumes nothing.
use mathlib.Core.Path.{◌≡◌, refl, ap}
use mathlib.Core.Bool.{Bool, true, false, cond}
use mathlib.Core.List.{List}
use lib.Dec.{eqb}
use Prim.Native.Nat.{ℕ, ◌≤◌, ◌<◌}
use native.Mathlib.Omega.{arith}
use borrow.Author.Tests.{le-leb, lt-leb}
use lib.ListN.{length}
use lib.IntN.{ℤ}
use Rattle.answers.specs.Unit.{front_length}
use Rattle.std.specs.Prelude.{Option, Some, None}
use Rattle.arguments.specs.Argument.{argument_of}
use Rattle.arguments.specs.Arguments.{bands, put, another, front_wanted}

module _ (text : List ℕ) (gains : List ℤ) where
  pub after_refused : (None, gains) ≡ another None text gains
  unfolding another
  after_refused = refl

  pub no_place : (n : ℕ) → length gains ≤ n → (None, gains) ≡ another (Some n) text gains
  unfolding another
  no_place n h = rw (le-leb (length gains) n h)

  -- what the text comes to
  pub comes_to : (n : ℕ) (a : Option ℤ) → n < length gains → a ≡ argument_of text → put n a gains ≡ another (Some n) text gains
  unfolding another
  comes_to n a h e = rw (lt-leb (length gains) n h) (ap (λ (b : Option ℤ). put n b gains) e)

-- never more than the reader judges
pub front_few : (a : Option ℕ) → front_wanted a ≤ front_length
front_few (Some n) = by (eqb n bands)
  where
    by : (b : Bool) → cond b front_length 0 ≤ front_length
    by true = omega arith
    by false = omega arith
front_few None = omega arith
