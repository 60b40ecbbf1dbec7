-- The four ranges of the exponent: what `by_exponent` is on each. Assumes nothing.
use mathlib.Core.Path.{◌≡◌, refl}
use mathlib.Core.Bool.{Bool, false, cond}
use Prim.Native.Nat.{ℕ, ◌-◌, ◌≤◌, ◌<◌}
use native.Mathlib.Omega.{arith}
use borrow.Author.Tests.{le-leb, lt-leb, eq-eqb, ne_eqb}
use lib.Dec.{eqb, leb}
use lib.IntN.{pos}
use Rattle.floats.specs.Exponent.{minus, exponent, digits, end_of, shifted, by_exponent}
use Rattle.std.specs.Prelude.{ℤ, Result, Ok, Err}
use Rattle.floats.specs.declared.code.NotNumber.{NotNumber}

-- `by_exponent` over a sign, an exponent and digits
abbrev pub ladder : Bool → (x n : ℕ) → Result ℤ NotNumber
ladder s x n =
    cond (eqb x 255) (Err (record {})) (cond (leb 127 x) (Ok (end_of s)) (cond (leb 103 x) (Ok (shifted s n (127 - x))) (Ok (pos 0))))

-- a code is read as its three parts
pub is_ladder : (code : ℕ) → by_exponent code ≡ ladder (minus code) (exponent code) (digits code)
unfolding by_exponent
is_ladder code = refl

module _ (s : Bool) (x n : ℕ) where
  -- 255 is no number
  pub at_255 : x ≡ 255 → ladder s x n ≡ Err (record {})
  at_255 e = rw (eq-eqb x 255 e)

  -- a smaller one is a number
  not_255 : x < 255 → eqb x 255 ≡ false
  not_255 h = ne_eqb x 255 (λ e. omega arith)

  -- from 1.0 on the end of the range
  pub from_127 : 127 ≤ x → x < 255 → ladder s x n ≡ Ok (end_of s)
  from_127 l h = rw (not_255 h, le-leb 127 x l)

  -- below it, from half of a sample's step on, a shift
  pub from_103 : 103 ≤ x → x < 127 → ladder s x n ≡ Ok (shifted s n (127 - x))
  from_103 l h = let m : x < 255 = omega arith in rw (not_255 m, lt-leb 127 x h, le-leb 103 x l)

  -- below half of a step 0
  pub below_103 : x < 103 → ladder s x n ≡ Ok (pos 0)
  below_103 h = let m : x < 255 = omega arith in let k : x < 127 = omega arith in rw (not_255 m, lt-leb 127 x k, lt-leb 103 x h)
