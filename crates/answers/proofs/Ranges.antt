-- The laws of ranges: one number, the first outside, all of a list. Assumes nothing.
use mathlib.Core.Path.{◌≡◌, refl}
use mathlib.Core.Bool.{Bool, true, false, cond, false≢true}
use mathlib.Core.List.{List, [], ◌∷◌}
use Prim.Native.Nat.{ℕ, suc, ◌<◌}
use native.Mathlib.Omega.{arith}
use lib.ListN.{length, get_or}
use lib.IntN.{ℤ, pos}
use lib.Signed.{lt_z, le_z}
use Rattle.answers.specs.First.{first_failing}
use Rattle.answers.specs.Range.{within, first_outside, FirstAt, all_within}
use Rattle.answers.proofs.Firsts as first

-- ---- one number

-- the two comparisons of a number that is within
pub within_ends : (lo hi z : ℤ) → within lo hi z ≡ true → (lt_z z lo ≡ false) × (le_z z hi ≡ true)
within_ends lo hi z e = by (lt_z z lo) refl e
  where
    by : (t : Bool) → lt_z z lo ≡ t → cond t false (le_z z hi) ≡ true → (lt_z z lo ≡ false) × (le_z z hi ≡ true)
    by true u v = absurd (false≢true v)
    by false u v = (u, v)

-- ---- the first outside

pub first_at : (lo hi : ℤ) (s : List ℤ) → all_within lo hi s ≡ false → FirstAt lo hi s (first_outside lo hi s)
first_at lo hi s e = first.first_at (within lo hi) (pos 0) s e

pub one_first : (lo hi : ℤ) (s : List ℤ) (i : ℕ) → FirstAt lo hi s i → i ≡ first_outside lo hi s
one_first lo hi s i f = first.one_first (within lo hi) (pos 0) s i f

-- ---- all of a list

pub all_at : (lo hi : ℤ) (s : List ℤ) → all_within lo hi s ≡ true → (i : ℕ) → i < length s → within lo hi (get_or s i (pos 0)) ≡ true
all_at lo hi s e i h = first.all_at (within lo hi) (pos 0) s e i h

pub all_cons : (lo hi x : ℤ) (xs : List ℤ) → all_within lo hi (x ∷ xs) ≡ true → (within lo hi x ≡ true) × (all_within lo hi xs ≡ true)
all_cons lo hi x xs e = first.all_cons (within lo hi) x xs e

pub cons_all : (lo hi x : ℤ) (xs : List ℤ) → within lo hi x ≡ true → all_within lo hi xs ≡ true → all_within lo hi (x ∷ xs) ≡ true
cons_all lo hi x xs e h = first.cons_all (within lo hi) x xs e h

-- numbers that are each within are all within
pub at_all : (lo hi : ℤ) (s : List ℤ) → ((i : ℕ) → i < length s → within lo hi (get_or s i (pos 0)) ≡ true) → all_within lo hi s ≡ true
unfolding first_failing
at_all lo hi [] e = refl
at_all lo hi (x ∷ xs) e = cons_all lo hi x xs (e 0 (omega arith)) (at_all lo hi xs (λ i h. e (suc i) (omega arith)))
