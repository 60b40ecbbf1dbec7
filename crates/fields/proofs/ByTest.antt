-- A proof by the two answers of a test. Assumes nothing.
use mathlib.Core.Path.{◌≡◌, refl, sym}
use mathlib.Core.Bool.{Bool, true, false, cond, ◌&&◌}
use Prim.Native.Nat.{ℕ, ◌/◌, ◌%◌, ◌<◌, ◌≤◌}
use lib.Dec.{eqb, ltb}
use borrow.Author.Tests.{eq-eqb, ne_eqb, ltb-true, ltb-false}
use Rattle.answers.proofs.Branches.{branches}

-- either answer serves
pub by-test {ℓ} : {P : Type ℓ} (t : Bool) → (t ≡ true → P) → (t ≡ false → P) → P
by-test true f g = f refl
by-test false f g = g refl

-- a number lies below another, or does not
pub by_order {ℓ} : {P : Type ℓ} (a b : ℕ) → (a < b → P) → (b ≤ a → P) → P
by_order a b below above = by-test (ltb a b) (λ t. below (ltb-true a b t)) (λ t. above (ltb-false a b t))

-- what holds of both picks of a test holds of the pick
pub cond-case {ℓ κ} : {A : Type ℓ} (P : A → Type κ) (x y : A) (t : Bool) → (t ≡ true → P x) → (t ≡ false → P y) → P (cond t x y)
cond-case P x y true f g = f refl
cond-case P x y false f g = g refl

-- ---- for search: a conjunction test by test, a pick by its test

pub and_stops : (a b : Bool) → a ≡ false → false ≡ (a && b)
and_stops a b e = rw e

pub and_goes : (a b r : Bool) → a ≡ true → r ≡ b → r ≡ (a && b)
and_goes a b r e d = rw e d

pub ruleset anding = (and_stops, and_goes, branches)

module _ (A : Type 0) (r x y : A) where
  pub picks_first : (t : Bool) → t ≡ true → r ≡ x → r ≡ cond t x y
  picks_first t e d = rw e d

  pub picks_second : (t : Bool) → t ≡ false → r ≡ y → r ≡ cond t x y
  picks_second t e d = rw e d

-- tests of a division by a number that a call answered
module _ (m n size k : ℕ) (e : k ≡ size) where
  pub part : (n % k ≡ 0 → ⊥) → eqb (n % size) 0 ≡ false
  part h = rw (sym e) (ne_eqb (n % k) 0 h)

  pub whole : n % k ≡ 0 → eqb (n % size) 0 ≡ true
  whole h = rw (sym e) (eq-eqb (n % k) 0 h)

  pub other_number : (m ≡ n / k → ⊥) → eqb m (n / size) ≡ false
  other_number h = rw (sym e) (ne_eqb m (n / k) h)

  pub same_number : m ≡ n / k → eqb m (n / size) ≡ true
  same_number h = rw (sym e) (eq-eqb m (n / k) h)

pub ruleset dividing = (part, whole, other_number, same_number)

pub ruleset picking = (picks_first, picks_second, branches)
