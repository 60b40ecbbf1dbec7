-- Products and differences of ℤ: what the kit's `lib.IntN` lacks. Assumes nothing.
use mathlib.Core.Path.{◌≡◌}
use native.Mathlib.Omega.{arith}
use lib.IntN.{ℤ, pos, ◌+ℤ◌, ◌-ℤ◌, ◌*ℤ◌}
use Rattle.whole.proofs.Signed.{var, lit, ◌⊕◌, ◌⊖◌, ◌⊗◌, eq_by}

-- ---- products

pub *ℤ-distribˡ-+ℤ : (a b c : ℤ) → a *ℤ (b +ℤ c) ≡ a *ℤ b +ℤ a *ℤ c
*ℤ-distribˡ-+ℤ a b c = eq_by (var a ⊗ (var b ⊕ var c)) (var a ⊗ var b ⊕ var a ⊗ var c) (omega arith)

pub *ℤ-distribˡ--ℤ : (a b c : ℤ) → a *ℤ (b -ℤ c) ≡ a *ℤ b -ℤ a *ℤ c
*ℤ-distribˡ--ℤ a b c = eq_by (var a ⊗ (var b ⊖ var c)) (var a ⊗ var b ⊖ var a ⊗ var c) (omega arith)

pub *ℤ-left_comm : (a b c : ℤ) → a *ℤ (b *ℤ c) ≡ b *ℤ (a *ℤ c)
*ℤ-left_comm a b c = eq_by (var a ⊗ (var b ⊗ var c)) (var b ⊗ (var a ⊗ var c)) (omega arith)

-- ---- differences

pub minus_self : (a : ℤ) → a -ℤ a ≡ pos 0
minus_self a = eq_by (var a ⊖ var a) (lit 0) (omega arith)
