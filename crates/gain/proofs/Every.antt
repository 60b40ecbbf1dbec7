-- A test that antt computes at each n from -24 to 24, one after the other, and what it says of any one of them.
-- Assumes nothing.
use Rattle.std.proofs.Common.{◌≡◌, ℕ, zero, suc, ◌+◌, ◌-◌, ◌<◌, ◌≤◌, Bool, true, ◌&&◌, T, leb, ℤ, pos, negsuc, ◌+ℤ◌, ◌-ℤ◌, nat_abs, sym, ap, subst, inl, inr, le_of_suc-le-suc, not-suc-le-zero, eq-or-lt_of_le, arith, leb→le, le-ltb, lt-ltb}
use lib.Ieee.Fits.{and_l, and_r}

-- ---- each number below a bound

abbrev pub below : (ℕ → Bool) → ℕ → Bool
below f zero = true
below f (suc k) = f k && below f k

pub at : (f : ℕ → Bool) (k : ℕ) → T (below f k) → (i : ℕ) → i < k → T (f i)
at f zero t i h = absurd (not-suc-le-zero h)
at f (suc k) t i h =
    elim (eq-or-lt_of_le (le_of_suc-le-suc h)) [
      | inl e ↦ subst (λ (n : ℕ). T (f n)) (sym e) (and_l (f k) (below f k) t)
      | inr l ↦ at f k (and_r (f k) (below f k) t) i l
    ]

-- ---- the places 0 to 48 and the half decibels -24 to 24

pub place-below : (n : ℤ) → nat_abs n ≤ 24 → nat_abs (n +ℤ pos 24) < 49
place-below (pos k) h = omega arith
place-below (negsuc k) h = rw (le-ltb 24 (suc k) h) (omega arith)

pub place-back : (n : ℤ) → nat_abs n ≤ 24 → pos (nat_abs (n +ℤ pos 24)) -ℤ pos 24 ≡ n
place-back (pos k) h = rw (le-ltb (k + 24) 24 (omega arith)) (ap pos (omega arith))
place-back (negsuc k) h = rw (le-ltb 24 (suc k) h, lt-ltb (24 - suc k) 24 (omega arith)) (ap negsuc (omega arith))

-- the test passes at each n from -24 to 24
abbrev pub every : (ℤ → Bool) → Bool
every f = below (λ (i : ℕ). f (pos i -ℤ pos 24)) 49

pub at_place : (f : ℤ → Bool) → T (every f) → (i : ℕ) → i < 49 → T (f (pos i -ℤ pos 24))
at_place f = at (λ (i : ℕ). f (pos i -ℤ pos 24)) 49

pub at_half : (f : ℤ → Bool) → T (every f) → (n : ℤ) → nat_abs n ≤ 24 → T (f n)
at_half f t n h = subst (λ (k : ℤ). T (f k)) (place-back n h) (at_place f t (nat_abs (n +ℤ pos 24)) (place-below n h))

in_range : ℤ → Bool
in_range n = leb (nat_abs n) 24

pub place_range : (i : ℕ) → i < 49 → nat_abs (pos i -ℤ pos 24) ≤ 24
unfolding in_range
place_range i h = leb→le (nat_abs (pos i -ℤ pos 24)) 24 (at_place in_range tt i h)
