-- The magnitude |a|, `nat_abs`, of a sum, a difference, a negation and a product. Assumes nothing.
use mathlib.Core.Path.{◌≡◌, refl, ap, ◌∙◌}
use mathlib.Core.Logic.{⊎_elim}
use Prim.Native.Nat.{ℕ, zero, suc, ◌+◌, ◌*◌, ◌≤◌}
use native.Mathlib.Nat.{le_refl}
use native.Mathlib.Omega.{arith}
use lib.IntN.{ℤ, pos, negsuc, neg_ℤ, nat_abs, ◌+ℤ◌, ◌-ℤ◌, ◌*ℤ◌}
use lib.Signed.{◌≤ℤ◌, ◌<ℤ◌}
use Rattle.whole.proofs.Signed.{var, lit, neg, ◌⊕◌, ◌⊖◌, ◌⊗◌, eq_by, abs_by, abs_of, le_of, lt_of, about, signed}
use Rattle.whole.proofs.Order.{≤ℤ-total, *ℤ-monoˡ-≤ℤ}

pub abs-+ℤ : (a b : ℤ) → nat_abs (a +ℤ b) ≤ nat_abs a + nat_abs b
abs-+ℤ a b = abs_by (var a ⊕ var b) (nat_abs a + nat_abs b) (omega (arith, about a, about b)) (omega (arith, about a, about b))

pub abs--ℤ : (a b : ℤ) → nat_abs (a -ℤ b) ≤ nat_abs a + nat_abs b
abs--ℤ a b = abs_by (var a ⊖ var b) (nat_abs a + nat_abs b) (omega (arith, about a, about b)) (omega (arith, about a, about b))

pub abs_neg : (a : ℤ) → nat_abs (neg_ℤ a) ≡ nat_abs a
abs_neg (pos zero) = refl
abs_neg (pos (suc n)) = refl
abs_neg (negsuc n) = refl

pub abs-*ℤ : (a b : ℤ) → nat_abs (a *ℤ b) ≡ nat_abs a * nat_abs b
abs-*ℤ (pos a) (pos b) = refl
abs-*ℤ (pos a) (negsuc b) = abs_neg (pos (a * suc b))
abs-*ℤ (negsuc a) (pos b) = abs_neg (pos (suc a * b))
abs-*ℤ (negsuc a) (negsuc b) = refl

-- |a - b| is |b - a|
pub abs_sym : (a b : ℤ) → nat_abs (a -ℤ b) ≡ nat_abs (b -ℤ a)
abs_sym a b = ap nat_abs (eq_by (var a ⊖ var b) (neg (var b ⊖ var a)) (omega arith)) ∙ abs_neg (b -ℤ a)

-- |a - c| ≤ |a - b| + |b - c|
pub abs_via : (a b c : ℤ) → nat_abs (a -ℤ c) ≤ nat_abs (a -ℤ b) + nat_abs (b -ℤ c)
abs_via a b c =
    abs_by (var a ⊖ var c) (nat_abs (a -ℤ b) + nat_abs (b -ℤ c))
    (omega (arith, abs_of (var a ⊖ var b) (nat_abs (a -ℤ b)) (le_refl _), abs_of (var b ⊖ var c) (nat_abs (b -ℤ c)) (le_refl _)))
    (omega (arith, abs_of (var a ⊖ var b) (nat_abs (a -ℤ b)) (le_refl _), abs_of (var b ⊖ var c) (nat_abs (b -ℤ c)) (le_refl _)))

-- two numbers from 0 to k are at most k apart
pub abs_between : (k : ℕ) {a b : ℤ} → pos 0 ≤ℤ a → a ≤ℤ pos k → pos 0 ≤ℤ b → b ≤ℤ pos k → nat_abs (a -ℤ b) ≤ k
abs_between k {a} {b} l h l' h' = abs_by (var a ⊖ var b) k (omega signed) (omega signed)

-- ---- signs

-- where k·y is within F of z, and z is above F, y is above 0; where z is below -F, y is below 0

pub above_when_near : (k F : ℕ) (y z : ℤ) → nat_abs (pos k *ℤ y -ℤ z) ≤ F → pos F <ℤ z → pos 0 <ℤ y
above_when_near k F y z near far = ⊎_elim (λ h. h) (λ h. absurd (clash h)) (≤ℤ-total (pos 0) y)
  where
    clash : y ≤ℤ pos 0 → ⊥
    clash h =
        omega (
          signed,
          abs_of (lit k ⊗ var y ⊖ var z) F near,
          le_of (lit k ⊗ var y) (lit k ⊗ lit 0) (*ℤ-monoˡ-≤ℤ k h),
        )

pub below_when_near : (k F : ℕ) (y z : ℤ) → nat_abs (pos k *ℤ y -ℤ z) ≤ F → z <ℤ neg_ℤ (pos F) → y <ℤ pos 0
below_when_near k F y z near far = ⊎_elim (λ h. h) (λ h. absurd (clash h)) (≤ℤ-total y (pos 0))
  where
    clash : pos 0 ≤ℤ y → ⊥
    clash h =
        omega (
          signed,
          lt_of (var z) (neg (lit F)) far,
          abs_of (lit k ⊗ var y ⊖ var z) F near,
          le_of (lit k ⊗ lit 0) (lit k ⊗ var y) (*ℤ-monoˡ-≤ℤ k h),
        )
