-- An argument's bytes: digits, and the place in the gain table that they stand for. Assumes nothing.
use mathlib.Core.Path.{◌≡◌, refl, sym, ap, ◌∙◌}
use mathlib.Core.Bool.{Bool, true, false, not, cond, and-true}
use mathlib.Core.List.{List, [], ◌∷◌}
use Prim.Native.Nat.{ℕ, ◌+◌, ◌-◌, ◌*◌, ◌≤◌, ◌<◌}
use native.Mathlib.Omega.{arith}
use borrow.Author.Tests.{leb-true}
use lib.Dec.{eqb, leb}
use lib.ListN.{length, get_or, take, drop}
use lib.Pointwise.{pointwise}
use Rattle.std.specs.Prelude.{Option, Some, None}
use Rattle.arguments.specs.Argument.{is_digit, up_to24, digits_of, above, below, place_of}

-- ---- two digits

-- a number is at most 24
abbrev Small : Option ℕ → Type 0
Small (Some n) = n ≤ 24
Small None = Unit {0}

two_small : (t o : ℕ) → Small (up_to24 t o)
two_small t o = by (is_digit t) (is_digit o) (leb (10 * (t - 48) + (o - 48)) 24) refl
  where
    by : (a b l : Bool) → leb (10 * (t - 48) + (o - 48)) 24 ≡ l → Small (cond (not a) None (cond (not b) None (cond l (Some (10 * (t - 48) + (o - 48))) None)))
    by false b l e = tt
    by true false l e = tt
    by true true true e = leb-true (10 * (t - 48) + (o - 48)) 24 e
    by true true false e = tt

-- ---- one digit or two

module _ (s : List ℕ) where
  digits_small : Small (digits_of s)
  digits_small = by (eqb (length s) 1) (eqb (length s) 2)
    where
      by : (a b : Bool) → Small (cond a (up_to24 48 (get_or s 0 0)) (cond b (up_to24 (get_or s 0 0) (get_or s 1 0)) None))
      by true b = two_small 48 (get_or s 0 0)
      by false true = two_small (get_or s 0 0) (get_or s 1 0)
      by false false = tt

-- ---- the place

-- a place of the table
abbrev pub Inside : Option ℕ → Type 0
Inside (Some i) = i < 49
Inside None = Unit {0}

above_inside : (d : Option ℕ) → Small d → Inside (above d)
above_inside (Some n) h = omega arith
above_inside None h = tt

below_inside : (d : Option ℕ) → Inside (below d)
below_inside (Some n) = omega arith
below_inside None = tt

module _ (s : List ℕ) where
  pub place_inside : Inside (place_of s)
  unfolding place_of
  place_inside = by (eqb (get_or s 0 0) 45)
    where
      by : (b : Bool) → Inside (cond b (below (digits_of (drop 1 s))) (above (digits_of s)))
      by true = below_inside (digits_of (drop 1 s))
      by false = above_inside (digits_of s) (digits_small s)

-- whether a text starts with a minus
abbrev starts : List ℕ → Bool
starts s = pointwise eqb (take 1 s) (45 ∷ [])

first_byte : (s : List ℕ) → starts s ≡ eqb (get_or s 0 0) 45
first_byte [] = refl
first_byte (b ∷ s) = and-true (eqb b 45)

module _ (s : List ℕ) (d : Option ℕ) where
  -- digits after a minus
  pub minus : (rest : List ℕ) → starts s ≡ true → rest ≡ drop 1 s → d ≡ digits_of rest → below d ≡ place_of s
  unfolding place_of
  minus rest m r e = rw (sym (first_byte s) ∙ m) (ap below (e ∙ ap digits_of r))

  pub plain : starts s ≡ false → d ≡ digits_of s → above d ≡ place_of s
  unfolding place_of
  plain m e = rw (sym (first_byte s) ∙ m) (ap above e)
